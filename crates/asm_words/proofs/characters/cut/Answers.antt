-- SPDX-License-Identifier: Apache-2.0
use Rattle.std.proofs.Common.{◌≡◌, ◌∙◌, ◌+◌, ◌-◌, ℕ, List, length, take, drop, ap, eq-eqb, arith}
use Rattle.std.specs.Prelude.{Some, ◌==◌}
use Rattle.std.proofs.lemmas.Grind.{common_steps}
use Rattle.asm_words.proofs.Cutting.{cut_ends, cut_done}
use Rattle.asm_words.proofs.characters.cut.Goals as goal

pub returns-then-c-mark : goal.returns-then-c-mark
returns-then-c-mark c =
    let text = c.args.text.now in
    let i = c.loop-i.i in
    let whole : take (length text - (i + 1)) (drop (i + 1) text) ≡ drop (i + 1) text = grind (arith, common_steps) in
    ap (λ (w : List ℕ). Some (take i text, w)) whole ∙ cut_ends (λ (x : ℕ). x == c.args.mark) text i c.loop-i-test.true (eq-eqb _ _ c.if-c-mark.true) c.loop-i.invariant

pub returns : goal.returns
returns c = cut_done (λ (x : ℕ). x == c.args.mark) c.args.text.now c.loop-i.i c.loop-i-test.false c.loop-i.invariant
