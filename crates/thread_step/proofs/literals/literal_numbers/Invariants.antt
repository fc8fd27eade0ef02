-- SPDX-License-Identifier: Apache-2.0
use Rattle.std.proofs.Common.{◌≡◌}
use Rattle.sh_machines.specs.Copy.{literals_below}
use Rattle.thread_step.specs.Numbered.{AreNumbered}
use Rattle.thread_step.proofs.literals.literal_numbers.Given as goal

abbrev pub invariant-loop-func : goal.invariant-loop-func
invariant-loop-func l =
    record {
      all : AreNumbered l.image l.func l.all.items;
      first : l.first ≡ literals_below l.image l.func;
    }
