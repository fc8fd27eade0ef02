-- SPDX-License-Identifier: Apache-2.0
use Rattle.std.proofs.Common.{◌≡◌}
use Rattle.sh_machines.specs.Copy.{literal_number}
use Rattle.code_copier.specs.Template.{AreCopied}
use Rattle.code_copier.proofs.template.copied_function.Given as goal

abbrev pub invariant-loop-i : goal.invariant-loop-i
invariant-loop-i l =
    record {
      words : AreCopied l.image l.func l.i l.words.items;
      next : l.next ≡ literal_number l.image l.func l.i;
    }
