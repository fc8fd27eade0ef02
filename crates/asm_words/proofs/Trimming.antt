-- SPDX-License-Identifier: Apache-2.0
-- Where the loops stand that take blanks off a text.
use Rattle.std.proofs.Common.{◌≡◌, ℕ, ◌+◌, ◌-◌, ◌<◌, ◌≤◌, true, false, List, [], ◌∷◌, ◌++◌, length, get_or, take, drop, refl, sym, ap, ◌∙◌, arith}
use Rattle.std.proofs.lemmas.List.{at_drop_more, take_more}
use Rattle.asm_words.specs.Characters.{is_blank, joined, trimmed_start, trimmed_end}

pub start_no : (c : ℕ) (cs : List ℕ) → is_blank c ≡ true → trimmed_start (c ∷ cs) ≡ trimmed_start cs
unfolding trimmed_start
start_no c cs on = rw on refl

start_yes : (c : ℕ) (cs : List ℕ) → is_blank c ≡ false → trimmed_start (c ∷ cs) ≡ c ∷ cs
unfolding trimmed_start
start_yes c cs off = rw off refl

pub start_goes_on : (text : List ℕ) (i : ℕ) → i < length text → is_blank (get_or text i 0) ≡ true → trimmed_start (drop (i + 1) text) ≡ trimmed_start (drop i text)
start_goes_on text i lt on = sym (at_drop_more trimmed_start text i 0 lt ∙ start_no (get_or text i 0) (drop (i + 1) text) on)

pub start_ends : (text : List ℕ) (i : ℕ) → i < length text → is_blank (get_or text i 0) ≡ false → drop i text ≡ trimmed_start (drop i text)
start_ends text i lt off =
    at_drop_more (λ (w : List ℕ). w) text i 0 lt ∙ sym (at_drop_more trimmed_start text i 0 lt ∙ start_yes (get_or text i 0) (drop (i + 1) text) off)

joined-snoc : (c : ℕ) (front : List ℕ) (d : ℕ) → joined c (front ++ d ∷ []) ≡ c ∷ (front ++ d ∷ [])
joined-snoc c [] d = refl
joined-snoc c (e ∷ es) d = refl

pub blank_off : (front : List ℕ) (c : ℕ) → is_blank c ≡ true → trimmed_end (front ++ c ∷ []) ≡ trimmed_end front
unfolding trimmed_end
blank_off [] c on = rw on refl
blank_off (d ∷ ds) c on = ap (joined d) (blank_off ds c on)

pub none_off : (front : List ℕ) (c : ℕ) → is_blank c ≡ false → trimmed_end (front ++ c ∷ []) ≡ front ++ c ∷ []
unfolding trimmed_end
none_off [] c off = rw off refl
none_off (d ∷ ds) c off = ap (joined d) (none_off ds c off) ∙ joined-snoc d ds c

pub end_goes_on : (text : List ℕ) (end : ℕ) → 0 < end → end ≤ length text → is_blank (get_or text (end - 1) 0) ≡ true → trimmed_end (take (end - 1) text) ≡ trimmed_end (take end text)
end_goes_on text end some le on =
    let i : end ≡ (end - 1) + 1 = omega arith in
    let lt : end - 1 < length text = omega arith in
    let t : take end text ≡ take (end - 1) text ++ get_or text (end - 1) 0 ∷ [] = ap (λ (n : ℕ). take n text) i ∙ take_more text (end - 1) 0 lt in
    sym (ap trimmed_end t ∙ blank_off (take (end - 1) text) (get_or text (end - 1) 0) on)

pub end_ends : (text : List ℕ) (end : ℕ) → 0 < end → end ≤ length text → is_blank (get_or text (end - 1) 0) ≡ false → trimmed_end (take end text) ≡ take end text
end_ends text end some le off =
    let i : end ≡ (end - 1) + 1 = omega arith in
    let lt : end - 1 < length text = omega arith in
    let t : take end text ≡ take (end - 1) text ++ get_or text (end - 1) 0 ∷ [] = ap (λ (n : ℕ). take n text) i ∙ take_more text (end - 1) 0 lt in
    ap trimmed_end t ∙ none_off (take (end - 1) text) (get_or text (end - 1) 0) off ∙ sym t

pub end_all : (text : List ℕ) (end : ℕ) → end ≤ 0 → trimmed_end (take end text) ≡ take end text
unfolding trimmed_end
end_all text end le = let e : end ≡ 0 = omega arith in rw e refl
