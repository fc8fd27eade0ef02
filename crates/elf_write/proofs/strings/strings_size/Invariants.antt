-- SPDX-License-Identifier: Apache-2.0
use Rattle.std.proofs.Common.{◌≡◌, ◌+◌, length, drop}
use Rattle.elf_write.specs.Parts.{string_table, names_in}
use Rattle.elf_write.proofs.strings.strings_size.Given as goal

abbrev pub invariant-loop-symbol : goal.invariant-loop-symbol
invariant-loop-symbol l = l.size + length (string_table (names_in (drop l.symbol-index l.symbols))) ≡ length (string_table (names_in l.symbols))
