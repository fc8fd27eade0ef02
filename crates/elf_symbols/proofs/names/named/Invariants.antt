-- SPDX-License-Identifier: Apache-2.0
use Rattle.std.proofs.Common.{◌≡◌, ◌++◌, drop}
use Rattle.std.specs.Prelude.{map}
use Rattle.elf_rules.specs.Elf.{symbol}
use Rattle.elf_symbols.proofs.names.named.Given as goal

abbrev pub invariant-loop-raw : goal.invariant-loop-raw
invariant-loop-raw l = l.found.items ++ map (symbol l.fn.names) (drop l.raw-index l.raws) ≡ map (symbol l.fn.names) l.raws
