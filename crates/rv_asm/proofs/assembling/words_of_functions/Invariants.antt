-- SPDX-License-Identifier: Apache-2.0
use Rattle.std.proofs.Common.{◌≡◌, ◌++◌, drop}
use Rattle.std.specs.Prelude.{map}
use Rattle.rv_asm.specs.Object.{words_in}
use Rattle.rv_asm.proofs.assembling.words_of_functions.Given as goal

abbrev pub invariant-loop-function : goal.invariant-loop-function
invariant-loop-function l = record { made : l.words.items ++ map (words_in l.text) (drop l.function-index l.functions) ≡ map (words_in l.text) l.functions }
