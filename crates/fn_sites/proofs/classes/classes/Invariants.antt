-- SPDX-License-Identifier: Apache-2.0
use Rattle.std.proofs.Common.{◌≡◌, ◌-◌, ◌++◌, List, length}
use Rattle.sh_types.specs.declared.code.Pair.{Pair}
use Rattle.sh_types.specs.declared.relocs.Reloc.{Reloc}
use Rattle.fn_sites.specs.Body.{source}
use Rattle.image_rules.specs.Bound.{classes_from}
use Rattle.fn_sites.specs.Index.{Tells}
use Rattle.fn_sites.proofs.classes.classes.Given as goal

abbrev pub invariant-loop-number : goal.invariant-loop-number
invariant-loop-number l =
    (relocs : List Reloc) (labels : List Pair) → Tells l.body.index.now relocs labels →
    l.found.items ++ classes_from (source l.body relocs labels) l.number (length l.body.words.now - l.number)
    ≡ classes_from (source l.body relocs labels) 0 (length l.body.words.now)
