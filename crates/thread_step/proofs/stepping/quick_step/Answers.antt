-- SPDX-License-Identifier: Apache-2.0
use Rattle.std.proofs.Common.{subst}
use Rattle.std.specs.Prelude.{IsTrue}
use Rattle.sh_machines.specs.Kind.{Kind}
use Rattle.sh_types.specs.declared.code.Pair.{Pair}
use Rattle.thread_step.specs.Doing.{Stops, is_quick}
use Rattle.thread_step.proofs.Staying.{on_false}
use Rattle.thread_step.proofs.stepping.quick_step.Goals as goal

pub returns-in-Some-clause-stops : goal.returns-in-Some-clause-stops
returns-in-Some-clause-stops g c =
    on_false c.quick.result _ _ c.quick.ensures.stops
    (λ stop whole inside. subst (λ (k : Kind Pair). IsTrue (is_quick k) → Stops (g.M.Contents.regions c.args.memory.now) c.args.thread.now (g.M.Contents.contents c.args.memory.now) k) c.in-Some.ensures.kind stop)
