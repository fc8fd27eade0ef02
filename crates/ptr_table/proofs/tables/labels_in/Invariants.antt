-- SPDX-License-Identifier: Apache-2.0
use Rattle.std.proofs.Common.{◌≡◌, ◌+◌, ◌*◌, ◌-◌, ◌++◌}
use Rattle.std.specs.Prelude.{filter, map}
use Rattle.elf_rules.specs.Elf.{places}
use Rattle.sh_types.specs.Place.{pair}
use Rattle.ptr_table.specs.Taken.{has_offset}
use Rattle.ptr_table.proofs.tables.labels_in.Given as goal

abbrev pub invariant-loop : goal.invariant-loop
invariant-loop l = record {
  read : l.found.items ++ map (pair l.func) (filter (has_offset l.taken l.home) (places 4 l.off (l.count - l.counter))) ≡ map (pair l.func) (filter (has_offset l.taken l.home) (places 4 4 l.count));
  off : l.off ≡ 4 + 4 * l.counter;
}
