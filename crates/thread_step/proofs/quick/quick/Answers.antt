-- SPDX-License-Identifier: Apache-2.0
use Rattle.thread_step.proofs.Acting.{alone_task}
use Rattle.thread_step.proofs.Staying.{on_false, on_true, task_stops}
use Rattle.thread_step.proofs.quick.quick.Goals as goal

pub returns-in-Computes-clause-went : goal.returns-in-Computes-clause-went
returns-in-Computes-clause-went g c =
    on_true c.quick_computes.result _ _ c.quick_computes.ensures.went
    (λ done. alone_task c.args.code.now c.args.thread.now.at _ _ _ _ _ c.in-Computes.is done (g.M.Contents.regions c.args.memory.now) (g.M.Contents.contents c.args.memory.now))

pub returns-in-Branches-clause-went : goal.returns-in-Branches-clause-went
returns-in-Branches-clause-went g c =
    on_true c.quick_branches.result _ _ c.quick_branches.ensures.went
    (λ done. alone_task c.args.code.now c.args.thread.now.at _ _ _ _ _ c.in-Branches.is done (g.M.Contents.regions c.args.memory.now) (g.M.Contents.contents c.args.memory.now))

pub returns-in-Sets-clause-went : goal.returns-in-Sets-clause-went
returns-in-Sets-clause-went g c =
    alone_task c.args.code.now c.args.thread.now.at _ _ _ _ _ c.in-Sets.is c.sets.ensures (g.M.Contents.regions c.args.memory.now) (g.M.Contents.contents c.args.memory.now)

pub returns-in-JumpsTo-clause-went : goal.returns-in-JumpsTo-clause-went
returns-in-JumpsTo-clause-went g c =
    alone_task c.args.code.now c.args.thread.now.at _ _ _ _ _ c.in-JumpsTo.is c.jumps_to.ensures (g.M.Contents.regions c.args.memory.now) (g.M.Contents.contents c.args.memory.now)

pub returns-in-CallsTo-clause-went : goal.returns-in-CallsTo-clause-went
returns-in-CallsTo-clause-went g c =
    alone_task c.args.code.now c.args.thread.now.at _ _ _ _ _ c.in-CallsTo.is c.calls_to.ensures (g.M.Contents.regions c.args.memory.now) (g.M.Contents.contents c.args.memory.now)

pub returns-in-Computes-clause-stops : goal.returns-in-Computes-clause-stops
returns-in-Computes-clause-stops g c =
    on_false c.quick_computes.result _ _ c.quick_computes.ensures.stops
    (λ stop quick. task_stops (g.M.Contents.regions c.args.memory.now) c.args.thread.now (g.M.Contents.contents c.args.memory.now) c.args.code.now c.args.thread.now.at c.args.task.now _ c.in-Computes.is (stop (g.M.Contents.regions c.args.memory.now) (g.M.Contents.contents c.args.memory.now)))

pub returns-in-Loads-clause-stops : goal.returns-in-Loads-clause-stops
returns-in-Loads-clause-stops g c =
    on_false c.quick_loads.result _ _ c.quick_loads.ensures.stops
    (λ stop quick. task_stops (g.M.Contents.regions c.args.memory.now) c.args.thread.now (g.M.Contents.contents c.args.memory.now) c.args.code.now c.args.thread.now.at c.args.task.now _ c.in-Loads.is stop)

pub returns-in-Branches-clause-stops : goal.returns-in-Branches-clause-stops
returns-in-Branches-clause-stops g c =
    on_false c.quick_branches.result _ _ c.quick_branches.ensures.stops
    (λ stop quick. task_stops (g.M.Contents.regions c.args.memory.now) c.args.thread.now (g.M.Contents.contents c.args.memory.now) c.args.code.now c.args.thread.now.at c.args.task.now _ c.in-Branches.is (stop (g.M.Contents.regions c.args.memory.now) (g.M.Contents.contents c.args.memory.now)))
