-- SPDX-License-Identifier: Apache-2.0
use Rattle.std.proofs.Common.{◌≡◌, ◌++◌, ◌≤◌, drop}
use Rattle.std.specs.Prelude.{map}
use Rattle.elf_rules.specs.Bindable.{pieces}
use Rattle.image_rules.specs.Bound.{bound_region}
use Rattle.image_binding.proofs.regions.add_pieces.Given as goal

abbrev pub invariant-loop-code : goal.invariant-loop-code
invariant-loop-code l = record { added : l.regions.items ++ map (bound_region l.tokens) (pieces l.bytes l.segment l.from (drop l.code-index l.codes)) ≡ l.initial.regions.items ++ map (bound_region l.tokens) (pieces l.bytes l.segment l.segment.start l.codes); from : l.segment.start ≤ l.from }
