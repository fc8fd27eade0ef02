-- SPDX-License-Identifier: Apache-2.0
use Rattle.std.proofs.Common.{sym, ◌∙◌, rules}
use Rattle.std.proofs.lemmas.Int.{to_z-of_z}
use mir.Syntax.{w64}
use mir.Val.{SFits}
use Rattle.thread_step.proofs.Framing.{save_kind, store_kind}
use Rattle.thread_step.proofs.frames.save_or_store.Goals as goal

pub returns-then-is_in_ra-clause-kind : goal.returns-then-is_in_ra-clause-kind
returns-then-is_in_ra-clause-kind c = λ image p.
    let fits : SFits w64 c.args.instr.imm = search rules in
    let same = to_z-of_z w64 c.args.instr.imm fits in
    let kind = save_kind c.args.row c.args.instr c.requires.instr (sym c.is_in_ra.ensures ∙ c.if-is_in_ra.true) in
    cc

pub returns-else-is_in_ra-clause-kind : goal.returns-else-is_in_ra-clause-kind
returns-else-is_in_ra-clause-kind c = λ image p.
    sym (store_kind c.args.row c.args.instr c.requires.instr (sym c.is_in_ra.ensures ∙ c.if-is_in_ra.false))
