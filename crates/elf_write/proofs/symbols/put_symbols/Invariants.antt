-- SPDX-License-Identifier: Apache-2.0
use Rattle.std.proofs.Common.{◌≡◌, ◌+◌, ◌++◌, length, drop}
use Rattle.elf_write.specs.Parts.{string_table, names_in}
use Rattle.elf_write.specs.Tables.{symbol_table}
use Rattle.elf_write.proofs.symbols.put_symbols.Given as goal

abbrev pub invariant-loop-symbol : goal.invariant-loop-symbol
invariant-loop-symbol l = (l.file.items ++ symbol_table l.name (drop l.symbol-index l.symbols) ≡ l.fn.file.items ++ symbol_table 0 l.symbols) × (l.name + length (string_table (names_in (drop l.symbol-index l.symbols))) ≡ length (string_table (names_in l.symbols)))
