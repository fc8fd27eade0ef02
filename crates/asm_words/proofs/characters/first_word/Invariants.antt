-- SPDX-License-Identifier: Apache-2.0
use Rattle.std.proofs.Common.{◌≡◌, ◌++◌, take, drop}
use Rattle.asm_words.specs.Characters.{before, from, is_blank}
use Rattle.asm_words.proofs.characters.first_word.Given as goal

abbrev pub invariant-loop-i : goal.invariant-loop-i
invariant-loop-i l = record { word : take l.i l.text ++ before is_blank (drop l.i l.text) ≡ before is_blank l.text; rest : from is_blank (drop l.i l.text) ≡ from is_blank l.text }
