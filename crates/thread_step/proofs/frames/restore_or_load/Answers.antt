-- SPDX-License-Identifier: Apache-2.0
use Rattle.std.proofs.Common.{sym, ap, ◌∙◌, rules}
use Rattle.std.proofs.lemmas.Int.{to_z-of_z}
use mir.Syntax.{w64}
use mir.Val.{SFits}
use Rattle.thread_step.specs.Framed.{is_saved_at}
use Rattle.thread_step.proofs.Framing.{load_kind, restore_kind}
use Rattle.thread_step.proofs.frames.restore_or_load.Goals as goal

pub returns-then-is_saved_at-clause-kind : goal.returns-then-is_saved_at-clause-kind
returns-then-is_saved_at-clause-kind c = λ image p.
    let fits : SFits w64 c.args.instr.imm = search rules in
    let same = to_z-of_z w64 c.args.instr.imm fits in
    let saved = ap (λ k. is_saved_at k c.args.row) (sym same) ∙ sym c.is_saved_at.ensures ∙ c.if-is_saved_at.true in
    let kind = restore_kind c.args.row c.args.instr c.requires.instr saved in
    cc

pub returns-else-is_saved_at-clause-kind : goal.returns-else-is_saved_at-clause-kind
returns-else-is_saved_at-clause-kind c = λ image p.
    let fits : SFits w64 c.args.instr.imm = search rules in
    let same = to_z-of_z w64 c.args.instr.imm fits in
    let elsewhere = ap (λ k. is_saved_at k c.args.row) (sym same) ∙ sym c.is_saved_at.ensures ∙ c.if-is_saved_at.false in
    sym (load_kind c.args.row c.args.instr c.requires.instr elsewhere)
