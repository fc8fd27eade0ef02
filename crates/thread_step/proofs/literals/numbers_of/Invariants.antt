-- SPDX-License-Identifier: Apache-2.0
use Rattle.std.proofs.Common.{◌≡◌}
use Rattle.sh_machines.specs.Copy.{literal_number}
use Rattle.thread_step.specs.Numbered.{AreNumbers}
use Rattle.thread_step.proofs.literals.numbers_of.Given as goal

abbrev pub invariant-loop-word : goal.invariant-loop-word
invariant-loop-word l =
    record {
      numbers : AreNumbers l.image l.func l.word l.numbers.items;
      next : l.next ≡ literal_number l.image l.func l.word;
    }
