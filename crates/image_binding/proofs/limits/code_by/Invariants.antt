-- SPDX-License-Identifier: Apache-2.0
use Rattle.std.proofs.Common.{◌≡◌, ◌+◌, ◌*◌, ◌^◌, ◌≤◌, drop}
use Rattle.elf_rules.specs.Bindable.{code_by}
use Rattle.image_binding.proofs.limits.code_by.Given as goal

abbrev pub invariant-loop-function : goal.invariant-loop-function
invariant-loop-function l = record { added : l.sum + code_by (drop l.function-index l.functions) ≡ code_by l.functions; small : l.sum ≤ 2 ^ 32 * l.function-index }
