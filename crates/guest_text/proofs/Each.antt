-- SPDX-License-Identifier: Apache-2.0
-- The texts of the numbers from 0 on, one more at a time.
use Rattle.std.proofs.Common.{◌≡◌, ◌∙◌, ℕ, ◌+◌, List, [], ◌∷◌, ◌++◌, map, sym, ap, append-nil, append_assoc, arith}
use Rattle.std.specs.List.{concat, range_with_len}
use Rattle.std.proofs.lemmas.List.FromFn.{map-range_with_len_more}
use Rattle.guest_text.specs.Guest.{each}

concat_push : (texts : List (List ℕ)) (last : List ℕ) → concat (texts ++ last ∷ []) ≡ concat texts ++ last
concat_push [] last = append-nil last
concat_push (text ∷ texts) last = ap (λ (rest : List ℕ). text ++ rest) (concat_push texts last) ∙ sym (append_assoc text (concat texts) last)

pub each_none : (before : List ℕ) (text_of : ℕ → List ℕ) → before ++ each text_of 0 ≡ before
unfolding each
each_none before text_of = append-nil before

pub each_more : (before : List ℕ) (text_of : ℕ → List ℕ) (count : ℕ) → before ++ each text_of (count + 1) ≡ before ++ each text_of count ++ text_of count
unfolding each
each_more before text_of count =
    let texts = map text_of (range_with_len 0 count) in
    let more = ap concat (map-range_with_len_more text_of 0 count count (omega arith)) ∙ concat_push texts (text_of count) in
    ap (λ (behind : List ℕ). before ++ behind) more ∙ sym (append_assoc before (concat texts) (text_of count))
