-- SPDX-License-Identifier: Apache-2.0
use Rattle.std.proofs.Common.{◌≡◌}
use Rattle.sh_machines.specs.Copy.{literals_below}
use Rattle.code_copier.specs.Template.{FunctionsAreCopied}
use Rattle.code_copier.proofs.template.copied_functions.Given as goal

abbrev pub invariant-loop-func : goal.invariant-loop-func
invariant-loop-func l =
    record {
      functions : FunctionsAreCopied l.image l.func l.functions.items;
      first : l.first ≡ literals_below l.image l.func;
    }
