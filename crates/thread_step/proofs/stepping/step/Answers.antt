-- SPDX-License-Identifier: Apache-2.0
use Rattle.std.proofs.Common.{sym}
use Rattle.thread_step.proofs.Acting.{ok_as}
use Rattle.thread_step.proofs.stepping.step.Goals as goal

pub returns-in-Some-clause-done : goal.returns-in-Some-clause-done
returns-in-Some-clause-done g c =
    ok_as (g.M.Contents.regions c.args.memory.now) c.args.thread.now c.does.new.thread (g.M.Contents.contents c.args.memory.now) (g.M.Contents.contents c.does.new.memory) c.does.result _ _ (sym c.in-Some.ensures.kind) c.does.ensures.done
