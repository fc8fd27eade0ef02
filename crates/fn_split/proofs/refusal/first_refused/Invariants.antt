-- SPDX-License-Identifier: Apache-2.0
use Rattle.std.proofs.Common.{◌≡◌, drop}
use Rattle.elf_rules.specs.Splitting as splitting
use Rattle.fn_split.proofs.refusal.first_refused.Given as goal

abbrev pub invariant-loop-function : goal.invariant-loop-function
invariant-loop-function l = splitting.first_refused l.before (drop l.function-index l.functions) ≡ splitting.first_refused 0 l.functions
