-- SPDX-License-Identifier: Apache-2.0
use Rattle.std.proofs.Common.{◌∙◌, sym, ap}
use Rattle.elf_rules.specs.Elf.{number_at}
use Rattle.image_binding.proofs.Numbers.{eight_inside, none_under, some_under, width_eight}
use Rattle.image_binding.proofs.agreeing.number_under.Goals as goal

pub returns-then-width-eq0 : goal.returns-then-width-eq0
returns-then-width-eq0 c = none_under c.args.bytes.now c.args.segments.now c.args.reloc.now (sym c.width_of-width.ensures ∙ c.if-width-eq0.true)

pub u64_at-requires : goal.u64_at-requires
u64_at-requires c =
    eight_inside c.args.bytes.now c.args.segments.now c.args.reloc.now _ c.requires.inside c.requires.segments c.mapped_place-place.ensures
    (width_eight c.args.reloc.now.kind _ c.width_of-width.ensures c.if-width-eq0.false c.if-width-eq4.false)

pub returns : goal.returns
returns c =
    c.u64_at.ensures ∙ ap (number_at 8 c.args.bytes.now) c.mapped_place-place.ensures
    ∙ some_under c.args.bytes.now c.args.segments.now c.args.reloc.now 8 (width_eight c.args.reloc.now.kind _ c.width_of-width.ensures c.if-width-eq0.false c.if-width-eq4.false)
