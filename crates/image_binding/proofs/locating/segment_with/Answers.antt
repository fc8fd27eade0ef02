-- SPDX-License-Identifier: Apache-2.0
use Rattle.std.proofs.Common.{◌-◌, arith, refl, sym}
use Rattle.elf_rules.specs.declared.elf.Segment.{Segment}
use Rattle.elf_rules.specs.Bindable.{no_segment}
use Rattle.image_binding.proofs.Holding.{part_is, rise, some_below}
use Rattle.image_binding.proofs.locating.segment_with.Goals as goal

pub starting_by-count-requires : goal.starting_by-count-requires
starting_by-count-requires c = rise (λ (g : Segment). g.start) (λ (g : Segment). g.size) no_segment refl c.args.segments.now c.requires.apart

pub overflow_sub-result : goal.overflow_sub-result
overflow_sub-result c = some_below (λ (g : Segment). g.start) (λ (g : Segment). g.size) no_segment refl c.args.address c.args.segments.now _ c.starting_by-count.ensures.above c.requires.found

pub returns : goal.returns
returns c =
    let some = some_below (λ (g : Segment). g.start) (λ (g : Segment). g.size) no_segment refl c.args.address c.args.segments.now _ c.starting_by-count.ensures.above c.requires.found in
    sym (part_is (λ (g : Segment). g.start) (λ (g : Segment). g.size) no_segment refl c.args.address c.args.segments.now (c.starting_by-count.result - 1) _ c.requires.apart (omega (arith, some, c.starting_by-count.ensures.bound))
    (λ k d l. c.starting_by-count.ensures.below k d (omega (arith, some, l)))
    (λ k d l m. c.starting_by-count.ensures.above k d (omega (arith, some, l)) m) c.requires.found)
