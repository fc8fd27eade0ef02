-- SPDX-License-Identifier: Apache-2.0
use Rattle.std.proofs.Common.{◌≡◌, ◌++◌, drop}
use Rattle.std.proofs.Common.{All}
use Rattle.fn_split.specs.Low.{EndsLow}
use Rattle.elf_rules.specs.Splitting as splitting
use Rattle.fn_split.proofs.starts.from_symbols.Given as goal

abbrev pub invariant-loop-symbol : goal.invariant-loop-symbol
invariant-loop-symbol l = record { read : l.found.items ++ splitting.starts_from l.sections l.place (drop l.symbol-index l.symbols) ≡ splitting.starts_from l.sections 0 l.symbols; place : l.place ≡ l.symbol-index; low : All EndsLow l.found.items }
