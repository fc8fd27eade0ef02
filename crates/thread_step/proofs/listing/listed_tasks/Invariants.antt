-- SPDX-License-Identifier: Apache-2.0
use Rattle.thread_step.specs.Listed.{AreListed}
use Rattle.thread_step.proofs.listing.listed_tasks.Given as goal

abbrev pub invariant-loop-func : goal.invariant-loop-func
invariant-loop-func l = AreListed l.image l.func l.all.items
