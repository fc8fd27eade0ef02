-- SPDX-License-Identifier: Apache-2.0
use Rattle.std.proofs.Common.{◌≡◌, ◌+◌, ◌*◌, ◌-◌, ◌/◌, ◌≤◌, ◌++◌, length}
use Rattle.std.specs.Prelude.{map}
use Rattle.elf_rules.specs.Elf.{raw_symbol, places}
use Rattle.elf_symbols.proofs.table.entries.Given as goal

abbrev pub invariant-loop : goal.invariant-loop
invariant-loop l = record { read : l.found.items ++ map (raw_symbol l.bytes) (places 24 l.place (l.count - l.counter)) ≡ map (raw_symbol l.bytes) (places 24 l.table.file_at (l.table.size / 24)); within : l.place + 24 * (l.count - l.counter) ≤ length l.bytes }
