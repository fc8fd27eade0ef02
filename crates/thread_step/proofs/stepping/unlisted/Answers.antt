-- SPDX-License-Identifier: Apache-2.0
use Rattle.std.proofs.Common.{sym, ◌∙◌}
use Rattle.thread_step.proofs.Acting.{ok_as}
use Rattle.thread_step.proofs.Classes.{class_kind}
use Rattle.thread_step.proofs.stepping.unlisted.Goals as goal

pub returns-in-Some-clause-done : goal.returns-in-Some-clause-done
returns-in-Some-clause-done g c =
    let kind = class_kind c.args.code.now c.args.thread.now.at c.in-Some.instr c.in-Some.ensures.inside (sym c.in-Some.ensures.is) ∙ sym c.task_of-task.ensures.kind in
    ok_as (g.M.Contents.regions c.args.memory.now) c.args.thread.now c.does.new.thread (g.M.Contents.contents c.args.memory.now) (g.M.Contents.contents c.does.new.memory) c.does.result _ _ kind c.does.ensures.done
