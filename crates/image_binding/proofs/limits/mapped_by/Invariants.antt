-- SPDX-License-Identifier: Apache-2.0
use Rattle.std.proofs.Common.{◌≡◌, ◌+◌, drop}
use Rattle.elf_rules.specs.Bindable.{mapped_by}
use Rattle.image_binding.proofs.limits.mapped_by.Given as goal

abbrev pub invariant-loop-segment : goal.invariant-loop-segment
invariant-loop-segment l = l.sum + mapped_by (drop l.segment-index l.segments) ≡ mapped_by l.segments
