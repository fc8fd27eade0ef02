-- SPDX-License-Identifier: Apache-2.0
use Rattle.std.proofs.Common.{ap, pos, rules, sym, ◌∙◌}
use Rattle.std.proofs.lemmas.Int.{to_z-of_z}
use mir.Syntax.{w64}
use mir.Val.{SFits}
use Rattle.thread_step.specs.declared.tasks.Task.TheVariants as task
use Rattle.thread_step.specs.Task.{kind_of}
use Rattle.thread_step.proofs.Acting.{alone_task, asks_alone, breaks_alone, does_task, illegal_alone, ok_task}
use Rattle.thread_step.proofs.doing.does.Goals as goal

pub returns-in-Sets-clause-done : goal.returns-in-Sets-clause-done
returns-in-Sets-clause-done g c =
    alone_task c.args.code.now c.args.thread.now.at _ _ _ _ _ c.in-Sets.is c.set_number.ensures (g.M.Contents.regions c.args.memory.now) (g.M.Contents.contents c.args.memory.now)

pub returns-in-Computes-clause-done : goal.returns-in-Computes-clause-done
returns-in-Computes-clause-done g c =
    alone_task c.args.code.now c.args.thread.now.at _ _ _ _ _ c.in-Computes.is c.computes.ensures (g.M.Contents.regions c.args.memory.now) (g.M.Contents.contents c.args.memory.now)

pub returns-in-Passes-clause-done : goal.returns-in-Passes-clause-done
returns-in-Passes-clause-done g c =
    alone_task c.args.code.now c.args.thread.now.at _ _ _ _ _ c.in-Passes.is c.pass.ensures (g.M.Contents.regions c.args.memory.now) (g.M.Contents.contents c.args.memory.now)

pub returns-in-Loads-clause-done : goal.returns-in-Loads-clause-done
returns-in-Loads-clause-done g c =
    does_task c.args.code.now c.args.thread.now.at _ _ (g.M.Contents.regions c.args.memory.now) _ _ _ _ _ c.in-Loads.is c.loads.ensures

pub returns-in-Stores-clause-done : goal.returns-in-Stores-clause-done
returns-in-Stores-clause-done g c =
    does_task c.args.code.now c.args.thread.now.at _ _ (g.M.Contents.regions c.args.memory.now) _ _ _ _ _ c.in-Stores.is c.stores.ensures.done

pub returns-in-Atomics-clause-done : goal.returns-in-Atomics-clause-done
returns-in-Atomics-clause-done g c =
    does_task c.args.code.now c.args.thread.now.at _ _ (g.M.Contents.regions c.args.memory.now) _ _ _ _ _ c.in-Atomics.is c.atomics.ensures.done

pub returns-in-Saves-clause-done : goal.returns-in-Saves-clause-done
returns-in-Saves-clause-done g c =
    let fits : SFits w64 c.in-Saves.imm = search rules in
    let is = c.in-Saves.is ∙ ap (λ z. task.Saves z) (sym (to_z-of_z w64 c.in-Saves.imm fits)) in
    ok_task c.args.code.now c.args.thread.now.at _ _ (g.M.Contents.regions c.args.memory.now) _ _ _ _ c.saves.result is c.saves.ensures.done

pub returns-in-Restores-clause-done : goal.returns-in-Restores-clause-done
returns-in-Restores-clause-done g c =
    let fits : SFits w64 c.in-Restores.imm = search rules in
    let is = c.in-Restores.is ∙ ap (λ z. task.Restores z) (sym (to_z-of_z w64 c.in-Restores.imm fits)) in
    does_task c.args.code.now c.args.thread.now.at _ _ (g.M.Contents.regions c.args.memory.now) _ _ _ _ _ is c.restores.ensures.done

pub returns-in-CallsTo-clause-done : goal.returns-in-CallsTo-clause-done
returns-in-CallsTo-clause-done g c =
    alone_task c.args.code.now c.args.thread.now.at _ _ _ _ _ c.in-CallsTo.is c.call.ensures (g.M.Contents.regions c.args.memory.now) (g.M.Contents.contents c.args.memory.now)

pub returns-in-JumpsTo-clause-done : goal.returns-in-JumpsTo-clause-done
returns-in-JumpsTo-clause-done g c =
    alone_task c.args.code.now c.args.thread.now.at _ _ _ _ _ c.in-JumpsTo.is c.jump.ensures (g.M.Contents.regions c.args.memory.now) (g.M.Contents.contents c.args.memory.now)

pub returns-in-Branches-clause-done : goal.returns-in-Branches-clause-done
returns-in-Branches-clause-done g c =
    alone_task c.args.code.now c.args.thread.now.at _ _ _ _ _ c.in-Branches.is c.branch_to.ensures (g.M.Contents.regions c.args.memory.now) (g.M.Contents.contents c.args.memory.now)

pub returns-in-Untaken-clause-done : goal.returns-in-Untaken-clause-done
returns-in-Untaken-clause-done g c =
    alone_task c.args.code.now c.args.thread.now.at _ _ _ _ _ c.in-Untaken.is (c.untaken.ensures _) (g.M.Contents.regions c.args.memory.now) (g.M.Contents.contents c.args.memory.now)

pub returns-in-CallsThrough-clause-done : goal.returns-in-CallsThrough-clause-done
returns-in-CallsThrough-clause-done g c =
    let fits : SFits w64 c.in-CallsThrough.imm = search rules in
    let is = c.in-CallsThrough.is ∙ ap (λ z. task.CallsThrough c.in-CallsThrough.rs1 z) (sym (to_z-of_z w64 c.in-CallsThrough.imm fits)) in
    alone_task c.args.code.now c.args.thread.now.at _ _ _ _ _ is c.indirect_call.ensures (g.M.Contents.regions c.args.memory.now) (g.M.Contents.contents c.args.memory.now)

pub returns-in-JumpsThrough-clause-done : goal.returns-in-JumpsThrough-clause-done
returns-in-JumpsThrough-clause-done g c =
    let fits : SFits w64 c.in-JumpsThrough.imm = search rules in
    let is = c.in-JumpsThrough.is ∙ ap (λ z. task.JumpsThrough c.in-JumpsThrough.rs1 z) (sym (to_z-of_z w64 c.in-JumpsThrough.imm fits)) in
    alone_task c.args.code.now c.args.thread.now.at _ _ _ _ _ is c.indirect_jump.ensures (g.M.Contents.regions c.args.memory.now) (g.M.Contents.contents c.args.memory.now)

pub returns-in-GoesBack-clause-done : goal.returns-in-GoesBack-clause-done
returns-in-GoesBack-clause-done g c =
    alone_task c.args.code.now c.args.thread.now.at _ _ _ _ _ c.in-GoesBack.is (λ regions u. c.goes_back.ensures regions u (pos 0)) (g.M.Contents.regions c.args.memory.now) (g.M.Contents.contents c.args.memory.now)

pub returns-in-Asks-clause-done : goal.returns-in-Asks-clause-done
returns-in-Asks-clause-done g c =
    asks_alone c.args.thread.now _ (ap (λ s. kind_of c.args.code.now c.args.thread.now.at s) c.in-Asks.is) (g.M.Contents.regions c.args.memory.now) (g.M.Contents.contents c.args.memory.now)

pub returns-in-Breaks-clause-done : goal.returns-in-Breaks-clause-done
returns-in-Breaks-clause-done g c =
    breaks_alone c.args.thread.now _ _ (ap (λ s. kind_of c.args.code.now c.args.thread.now.at s) c.in-Breaks.is) c.trapped.ensures (g.M.Contents.regions c.args.memory.now) (g.M.Contents.contents c.args.memory.now)

pub returns-in-Illegal-clause-done : goal.returns-in-Illegal-clause-done
returns-in-Illegal-clause-done g c =
    illegal_alone c.args.thread.now _ _ (ap (λ s. kind_of c.args.code.now c.args.thread.now.at s) c.in-Illegal.is) c.trapped-in-Illegal.ensures (g.M.Contents.regions c.args.memory.now) (g.M.Contents.contents c.args.memory.now)
