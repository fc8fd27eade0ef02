-- SPDX-License-Identifier: Apache-2.0
use Rattle.std.proofs.Common.{◌≡◌, ◌/◌, arith, subst}
use Rattle.std.specs.Prelude.{slice_index}
use Rattle.sh_types.specs.Image.{sizes_of}
use Rattle.thread_step.specs.Listed.{AreTasks}
use Rattle.thread_step.proofs.listing.tasks_of.Goals as goal

pub task_at-task-requires-clause-inside : goal.task_at-task-requires-clause-inside
task_at-task-requires-clause-inside c = omega (arith, c.size-count.ensures)

pub returns : goal.returns
returns c =
    let all : c.loop-word.word ≡ slice_index (sizes_of c.args.image.now) c.args.func / 4 = omega (arith, c.size-count.ensures) in
    rw c.from_vec.ensures (subst (λ n. AreTasks c.args.image.now c.args.func n c.loop-word.tasks.items) all c.loop-word.invariant)
