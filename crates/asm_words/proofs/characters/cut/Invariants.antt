-- SPDX-License-Identifier: Apache-2.0
use Rattle.std.proofs.Common.{◌≡◌, ℕ, take, drop}
use Rattle.std.specs.Prelude.{◌==◌}
use Rattle.asm_words.specs.Characters.{cut}
use Rattle.asm_words.proofs.Cutting.{behind}
use Rattle.asm_words.proofs.characters.cut.Given as goal

abbrev pub invariant-loop-i : goal.invariant-loop-i
invariant-loop-i l = behind (take l.i l.text) (cut (λ (c : ℕ). c == l.mark) (drop l.i l.text)) ≡ cut (λ (c : ℕ). c == l.mark) l.text
