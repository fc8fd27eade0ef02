-- SPDX-License-Identifier: Apache-2.0
use Rattle.thread_step.specs.Listed.{AreTasks}
use Rattle.thread_step.proofs.listing.tasks_of.Given as goal

abbrev pub invariant-loop-word : goal.invariant-loop-word
invariant-loop-word l = AreTasks l.image l.func l.word l.tasks.items
