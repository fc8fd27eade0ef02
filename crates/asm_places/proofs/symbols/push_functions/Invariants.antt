-- SPDX-License-Identifier: Apache-2.0
use Rattle.std.proofs.Common.{◌≡◌, ◌++◌, drop}
use Rattle.std.specs.Prelude.{map}
use Rattle.asm_places.specs.Symbols.{function_symbol}
use Rattle.asm_places.proofs.symbols.push_functions.Given as goal

abbrev pub invariant-loop-function : goal.invariant-loop-function
invariant-loop-function l = record { made : l.symbols.items ++ map function_symbol (drop l.function-index l.functions) ≡ l.fn.symbols.items ++ map function_symbol l.functions }
