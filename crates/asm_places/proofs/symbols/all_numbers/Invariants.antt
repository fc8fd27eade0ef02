-- SPDX-License-Identifier: Apache-2.0
use Rattle.std.proofs.Common.{◌≡◌, ◌+◌, drop}
use Rattle.asm_places.proofs.Counting.{Standing}
use Rattle.asm_places.proofs.symbols.all_numbers.Given as goal

abbrev pub invariant-loop-symbol : goal.invariant-loop-symbol
invariant-loop-symbol l = record { left : Standing l.numbers l.number (drop l.symbol-index l.symbols) l.symbols; counted : l.number ≡ l.symbol-index + 1 }
