-- SPDX-License-Identifier: Apache-2.0
use Rattle.std.proofs.Common.{◌≡◌, ◌+◌, ◌^◌, ◌<◌, arith, List, ap, sym, subst, ◌∙◌, true, false}
use Rattle.std.specs.List.{All}
use Rattle.sh_types.specs.declared.objects.Mark.{Mark}
use Rattle.elf_write.specs.Parts.{marks_in}
use Rattle.elf_write.proofs.Marks.{placed_marks}
use Rattle.elf_write.proofs.write.put_marks.Goals as goal

pub put_records-requires : goal.put_records-requires
put_records-requires c =
    let marks : c.deref.result.now ≡ marks_in true c.args.object.now.marks = c.deref.ensures.value ∙ c.in_ok-in_text.ensures ∙ ap (marks_in true) c.as_slice-marks.ensures in
    subst (λ (xs : List Mark). All (λ (m : Mark). c.home.result + m.at < 2 ^ 64) xs) (sym marks)
    (placed_marks c.args.object.now c.requires.writable true c.home.result (omega arith))

pub put_records-requires-2 : goal.put_records-requires-2
put_records-requires-2 c =
    let marks : c.deref-2.result.now ≡ marks_in false c.args.object.now.marks = c.deref-2.ensures.value ∙ c.in_ok-in_data.ensures ∙ ap (marks_in false) c.as_slice-marks.ensures in
    subst (λ (xs : List Mark). All (λ (m : Mark). c.home-2.result + m.at < 2 ^ 64) xs) (sym marks)
    (placed_marks c.args.object.now c.requires.writable false c.home-2.result (omega arith))
