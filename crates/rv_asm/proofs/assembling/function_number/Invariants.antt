-- SPDX-License-Identifier: Apache-2.0
use Rattle.std.proofs.Common.{◌≡◌, ◌+◌, drop}
use Rattle.rv_asm.specs.Object.{function_number}
use Rattle.rv_asm.proofs.assembling.function_number.Given as goal

abbrev pub invariant-loop-function : goal.invariant-loop-function
invariant-loop-function l = record { so_far : l.number + function_number l.name (drop l.function-index l.functions) ≡ function_number l.name l.functions; counted : l.number ≡ l.function-index }
