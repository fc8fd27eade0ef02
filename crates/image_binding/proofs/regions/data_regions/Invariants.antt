-- SPDX-License-Identifier: Apache-2.0
use Rattle.std.proofs.Common.{◌≡◌, ◌++◌, drop}
use Rattle.std.specs.Prelude.{map}
use Rattle.elf_rules.specs.Bindable.{data_regions}
use Rattle.image_rules.specs.Bound.{bound_region}
use Rattle.image_binding.proofs.regions.data_regions.Given as goal

abbrev pub invariant-loop-segment : goal.invariant-loop-segment
invariant-loop-segment l =
    l.regions.items ++ map (bound_region l.tokens) (data_regions l.bytes l.codes (drop l.segment-index l.segments)) ≡ map (bound_region l.tokens) (data_regions l.bytes l.codes l.segments)
