-- SPDX-License-Identifier: Apache-2.0
use Rattle.std.proofs.Common.{◌≡◌, ◌++◌, drop}
use Rattle.std.proofs.Common.{All}
use Rattle.fn_split.specs.Low.{EndsLow}
use Rattle.elf_rules.specs.Splitting as splitting
use Rattle.fn_split.proofs.ranges.sized.Given as goal

abbrev pub invariant-loop-i : goal.invariant-loop-i
invariant-loop-i l = record { sized : l.found.items ++ splitting.sized (drop l.i l.starts) ≡ splitting.sized l.starts; low : All EndsLow l.found.items }
