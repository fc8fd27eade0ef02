-- SPDX-License-Identifier: Apache-2.0
use Rattle.std.proofs.Common.{◌≡◌, ◌++◌, drop}
use Rattle.ptr_table.specs.Taken.{taken_in}
use Rattle.ptr_table.proofs.addresses.all_taken.Given as goal

abbrev pub invariant-loop-reloc : goal.invariant-loop-reloc
invariant-loop-reloc l = l.found.items ++ taken_in l.in_code (drop l.reloc-index l.relocs) ≡ taken_in l.in_code l.relocs
