-- SPDX-License-Identifier: Apache-2.0
use Rattle.std.proofs.Common.{◌≡◌, drop}
use Rattle.asm_words.specs.Characters.{trimmed_start}
use Rattle.asm_words.proofs.characters.trimmed_start.Given as goal

abbrev pub invariant-loop-i : goal.invariant-loop-i
invariant-loop-i l = trimmed_start (drop l.i l.text) ≡ trimmed_start l.text
