-- SPDX-License-Identifier: Apache-2.0
use Rattle.std.proofs.Common.{◌≡◌, ◌++◌, drop}
use Rattle.std.specs.Prelude.{map}
use Rattle.asm_places.specs.Symbols.{symbol_of}
use Rattle.rv_asm.proofs.assembling.push_symbols.Given as goal

abbrev pub invariant-loop-scoped : goal.invariant-loop-scoped
invariant-loop-scoped l = record { made : l.symbols.items ++ map symbol_of (drop l.scoped-index l.named) ≡ l.fn.symbols.items ++ map symbol_of l.named }
