-- SPDX-License-Identifier: Apache-2.0
use Rattle.std.proofs.Common.{◌≡◌, ◌++◌, drop}
use Rattle.elf_write.specs.Parts.{string_table, names_in}
use Rattle.elf_write.proofs.strings.put_strings.Given as goal

abbrev pub invariant-loop-symbol : goal.invariant-loop-symbol
invariant-loop-symbol l = l.file.items ++ string_table (names_in (drop l.symbol-index l.symbols)) ≡ l.fn.file.items ++ string_table (names_in l.symbols)
