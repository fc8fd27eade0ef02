-- SPDX-License-Identifier: Apache-2.0
use Rattle.std.proofs.Common.{◌≡◌, ◌++◌, drop}
use Rattle.std.specs.Prelude.{map}
use Rattle.elf_rules.specs.Splitting as splitting
use Rattle.fn_split.proofs.functions.named.Given as goal

abbrev pub invariant-loop-start : goal.invariant-loop-start
invariant-loop-start l = l.found.items ++ map (splitting.function l.symbols) (drop l.start-index l.starts) ≡ map (splitting.function l.symbols) l.starts
