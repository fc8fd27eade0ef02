-- SPDX-License-Identifier: Apache-2.0
use Rattle.std.proofs.Common.{◌≡◌, ◌++◌, drop}
use Rattle.std.specs.Prelude.{filter}
use Rattle.elf_rules.specs.Elf.{is_symtab}
use Rattle.elf_symbols.proofs.table.symbol_tables.Given as goal

abbrev pub invariant-loop-head : goal.invariant-loop-head
invariant-loop-head l = l.found.items ++ filter is_symtab (drop l.head-index l.heads) ≡ filter is_symtab l.heads
