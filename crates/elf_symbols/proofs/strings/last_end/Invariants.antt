-- SPDX-License-Identifier: Apache-2.0
use Rattle.std.proofs.Common.{◌≡◌, take}
use Rattle.elf_symbols.specs.Zeros.{zero_end}
use Rattle.elf_symbols.proofs.strings.last_end.Given as goal

abbrev pub invariant-loop-place : goal.invariant-loop-place
invariant-loop-place l = l.end ≡ zero_end (take l.place l.names)
