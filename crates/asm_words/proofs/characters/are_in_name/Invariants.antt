-- SPDX-License-Identifier: Apache-2.0
use Rattle.std.proofs.Common.{◌≡◌, drop}
use Rattle.std.specs.List.{list_all}
use Rattle.asm_words.specs.Characters.{in_name}
use Rattle.asm_words.proofs.characters.are_in_name.Given as goal

abbrev pub invariant-loop-c : goal.invariant-loop-c
invariant-loop-c l = list_all in_name (drop l.c-index l.text) ≡ list_all in_name l.text
