-- SPDX-License-Identifier: Apache-2.0
use Rattle.std.proofs.Common.{◌≡◌, ℕ, ◌<◌, None, length, drop}
use Rattle.std.specs.Prelude.{slice_index_or}
use Rattle.image_rules.specs.Refusals.{refusal_or}
use Rattle.guest_image.specs.Records.{first_at}
use Rattle.guest_image.proofs.records.record_refusals.Given as goal

abbrev pub invariant-loop-reloc : goal.invariant-loop-reloc
invariant-loop-reloc l = record {
  long : length l.found.items ≡ length l.functions;
  each : (f : ℕ) → f < length l.functions → refusal_or (slice_index_or l.found.items f None) (first_at l.functions l.entry (drop l.reloc-index l.relocs) f) ≡ first_at l.functions l.entry l.relocs f;
}
