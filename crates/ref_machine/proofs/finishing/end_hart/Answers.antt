-- SPDX-License-Identifier: Apache-2.0
use Rattle.std.proofs.Common.{Some, ap, sym, ◌∙◌}
use Rattle.sh_types.specs.declared.runs.End.TheVariants as end
use Rattle.sh_machines.specs.Unmoved.{any_alive, first_answer}
use Rattle.ref_machine.specs.Meant.{threads_of}
use Rattle.ref_machine.proofs.Ending.{ended_is, end_some, end_none}
use Rattle.ref_machine.proofs.finishing.end_hart.Goals as goal

pub returns-then-not-any_live-clause-state : goal.returns-then-not-any_live-clause-state
returns-then-not-any_live-clause-state g c =
    let live = sym (c.any_live.ensures ∙ ap (λ ts. any_alive (threads_of ts)) c.deref.ensures.value) ∙ c.if-not-any_live.true in
    let code = c.first_code.ensures ∙ ap (λ ts. first_answer (threads_of ts)) c.deref-then-not-any_live.ensures.value in
    ended_is c.args.state.now c.args.at c.args.exit c.args.thread (g.M.Contents.contents c.args.memory.now) (g.M.Contents.contents c.empty.new.self) _ c.empty.ensures.contents (ap (λ k. Some (end.Exit k)) code ∙ end_none _ _ live)

pub returns-else-not-any_live-clause-state : goal.returns-else-not-any_live-clause-state
returns-else-not-any_live-clause-state g c =
    let live = sym (c.any_live.ensures ∙ ap (λ ts. any_alive (threads_of ts)) c.deref.ensures.value) ∙ c.if-not-any_live.false in
    ended_is c.args.state.now c.args.at c.args.exit c.args.thread (g.M.Contents.contents c.args.memory.now) (g.M.Contents.contents c.empty.new.self) c.args.state.now.end c.empty.ensures.contents (c.requires.end ∙ end_some _ _ live)
