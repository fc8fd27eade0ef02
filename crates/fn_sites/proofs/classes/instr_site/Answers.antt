-- SPDX-License-Identifier: Apache-2.0
use Rattle.std.proofs.Common.{◌∙◌, ap, sym}
use Rattle.sh_machines.specs.Class.{Source}
use Rattle.fn_sites.specs.Body.{source}
use Rattle.fn_sites.specs.Sorts.{sorted_class}
use Rattle.fn_sites.proofs.Sorting.{class_sorted}
use Rattle.fn_sites.proofs.classes.instr_site.Goals as goal

pub returns-in-Auipc : goal.returns-in-Auipc
returns-in-Auipc c relocs labels tells =
    let b : Source = source c.args.body.now relocs labels in
    ap (λ s. sorted_class s b c.args.number c.args.instr.now) c.in-Auipc.ensures ∙ sym (class_sorted b c.args.number c.args.instr.now)

pub returns-in-Jal : goal.returns-in-Jal
returns-in-Jal c relocs labels tells =
    let b : Source = source c.args.body.now relocs labels in
    c.jal_word.ensures ∙ ap (λ s. sorted_class s b c.args.number c.args.instr.now) c.in-Jal.ensures ∙ sym (class_sorted b c.args.number c.args.instr.now)

pub returns-in-Jalr : goal.returns-in-Jalr
returns-in-Jalr c relocs labels tells =
    let b : Source = source c.args.body.now relocs labels in
    c.jalr_word.ensures relocs labels tells ∙ ap (λ s. sorted_class s b c.args.number c.args.instr.now) c.in-Jalr.ensures ∙ sym (class_sorted b c.args.number c.args.instr.now)

pub returns-in-Branch : goal.returns-in-Branch
returns-in-Branch c relocs labels tells =
    let b : Source = source c.args.body.now relocs labels in
    c.branch_word.ensures ∙ ap (λ s. sorted_class s b c.args.number c.args.instr.now) c.in-Branch.ensures ∙ sym (class_sorted b c.args.number c.args.instr.now)

pub returns-in-Ecall : goal.returns-in-Ecall
returns-in-Ecall c relocs labels tells =
    let b : Source = source c.args.body.now relocs labels in
    ap (λ s. sorted_class s b c.args.number c.args.instr.now) c.in-Ecall.ensures ∙ sym (class_sorted b c.args.number c.args.instr.now)

pub returns-in-Ebreak : goal.returns-in-Ebreak
returns-in-Ebreak c relocs labels tells =
    let b : Source = source c.args.body.now relocs labels in
    ap (λ s. sorted_class s b c.args.number c.args.instr.now) c.in-Ebreak.ensures ∙ sym (class_sorted b c.args.number c.args.instr.now)

pub returns-in-Other : goal.returns-in-Other
returns-in-Other c relocs labels tells =
    let b : Source = source c.args.body.now relocs labels in
    ap (λ s. sorted_class s b c.args.number c.args.instr.now) c.in-Other.ensures ∙ sym (class_sorted b c.args.number c.args.instr.now)
