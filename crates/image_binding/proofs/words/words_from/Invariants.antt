-- SPDX-License-Identifier: Apache-2.0
use Rattle.std.proofs.Common.{◌≡◌, ◌+◌, ◌*◌, ◌-◌, ◌≤◌, ◌++◌, length}
use Rattle.std.specs.Prelude.{map}
use Rattle.elf_rules.specs.Elf.{number_at, places}
use Rattle.image_binding.proofs.words.words_from.Given as goal

abbrev pub invariant-loop : goal.invariant-loop
invariant-loop l = record { read : l.words.items ++ map (number_at 4 l.bytes) (places 4 l.place (l.count - l.counter)) ≡ map (number_at 4 l.bytes) (places 4 l.start l.count); inside : l.place + 4 * (l.count - l.counter) ≤ length l.bytes }
