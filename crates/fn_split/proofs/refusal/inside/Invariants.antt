-- SPDX-License-Identifier: Apache-2.0
use Rattle.std.proofs.Common.{◌≡◌, drop}
use Rattle.elf_rules.specs.Splitting as splitting
use Rattle.fn_split.proofs.refusal.inside.Given as goal

abbrev pub invariant-loop-function : goal.invariant-loop-function
invariant-loop-function l = splitting.inside_of l.entry (drop l.function-index l.functions) ≡ splitting.inside_of l.entry l.functions
