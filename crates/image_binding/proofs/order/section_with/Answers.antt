-- SPDX-License-Identifier: Apache-2.0
use Rattle.std.proofs.Common.{◌-◌, arith, refl, sym}
use Rattle.elf_rules.specs.declared.elf.Head.{Head}
use Rattle.elf_rules.specs.Elf.{no_head}
use Rattle.image_binding.proofs.Holding.{part_is, rise, some_below}
use Rattle.image_binding.proofs.order.section_with.Goals as goal

pub starting_by-count-requires : goal.starting_by-count-requires
starting_by-count-requires c = rise (λ (h : Head). h.start) (λ (h : Head). h.size) no_head refl c.args.codes.now c.requires.apart

pub overflow_sub-result : goal.overflow_sub-result
overflow_sub-result c = some_below (λ (h : Head). h.start) (λ (h : Head). h.size) no_head refl c.args.address c.args.codes.now _ c.starting_by-count.ensures.above c.requires.found

pub returns : goal.returns
returns c =
    let some = some_below (λ (h : Head). h.start) (λ (h : Head). h.size) no_head refl c.args.address c.args.codes.now _ c.starting_by-count.ensures.above c.requires.found in
    sym (part_is (λ (h : Head). h.start) (λ (h : Head). h.size) no_head refl c.args.address c.args.codes.now (c.starting_by-count.result - 1) _ c.requires.apart (omega (arith, some, c.starting_by-count.ensures.bound))
    (λ k d l. c.starting_by-count.ensures.below k d (omega (arith, some, l)))
    (λ k d l m. c.starting_by-count.ensures.above k d (omega (arith, some, l)) m) c.requires.found)
