-- SPDX-License-Identifier: Apache-2.0
use Rattle.std.proofs.Common.{◌≡◌, drop}
use Rattle.sh_machines.specs.Class.{record_on}
use Rattle.ptr_table.proofs.literals.record_on.Given as goal

abbrev pub invariant-loop-reloc : goal.invariant-loop-reloc
invariant-loop-reloc l = record_on (drop l.reloc-index l.relocs) l.home ≡ record_on l.relocs l.home
