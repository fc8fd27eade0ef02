-- SPDX-License-Identifier: Apache-2.0
use Rattle.std.proofs.Common.{◌≡◌, ◌++◌, drop}
use Rattle.elf_symbols.specs.Zeros.{zeros_from}
use Rattle.elf_symbols.proofs.strings.zero_places.Given as goal

abbrev pub invariant-loop-place : goal.invariant-loop-place
invariant-loop-place l = l.places.items ++ zeros_from l.place (drop l.place l.names) ≡ zeros_from 0 l.names
