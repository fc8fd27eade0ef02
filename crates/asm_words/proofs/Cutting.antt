-- SPDX-License-Identifier: Apache-2.0
-- Where a loop stands that goes over a text to the first character of a kind.
use Rattle.std.proofs.Common.{◌≡◌, ℕ, ◌+◌, ◌<◌, ◌≤◌, Bool, true, false, Option, Some, None, List, [], ◌∷◌, ◌++◌, length, get_or, take, drop, refl, sym, ap, ◌∙◌, append_assoc}
use Rattle.std.specs.Prelude.{option_map}
use Rattle.std.proofs.lemmas.List.{at_drop_more, at_drop_all, take_more, append-nil}
use Rattle.asm_words.specs.Characters.{cut, before, from, led}

-- what a cut behind this front gives
abbrev pub behind : List ℕ → Option (List ℕ × List ℕ) → Option (List ℕ × List ℕ)
behind front found = option_map (λ (x : List ℕ × List ℕ). (front ++ x.0, x.1)) found

regroup : (front : List ℕ) (c : ℕ) (found : Option (List ℕ × List ℕ)) → behind front (option_map (led c) found) ≡ behind (front ++ c ∷ []) found
regroup front c None = refl
regroup front c (Some x) = ap (λ (w : List ℕ). Some (w, x.1)) (sym (append_assoc front (c ∷ []) x.0))

cut_no : (test : ℕ → Bool) (c : ℕ) (cs : List ℕ) → test c ≡ false → cut test (c ∷ cs) ≡ option_map (led c) (cut test cs)
unfolding cut
cut_no test c cs off = rw off refl

cut_yes : (test : ℕ → Bool) (c : ℕ) (cs : List ℕ) → test c ≡ true → cut test (c ∷ cs) ≡ Some ([], cs)
unfolding cut
cut_yes test c cs on = rw on refl

pub cut_goes_on : (test : ℕ → Bool) (text : List ℕ) (i : ℕ) → i < length text → test (get_or text i 0) ≡ false → behind (take i text) (cut test (drop i text)) ≡ cut test text
    → behind (take (i + 1) text) (cut test (drop (i + 1) text)) ≡ cut test text
cut_goes_on test text i lt off so_far =
    let c = get_or text i 0 in
    let e : cut test (drop i text) ≡ option_map (led c) (cut test (drop (i + 1) text)) = at_drop_more (cut test) text i 0 lt ∙ cut_no test c (drop (i + 1) text) off in
    let t : take (i + 1) text ≡ take i text ++ c ∷ [] = take_more text i 0 lt in
    ap (λ (front : List ℕ). behind front (cut test (drop (i + 1) text))) t
    ∙ sym (regroup (take i text) c (cut test (drop (i + 1) text))) ∙ sym (ap (behind (take i text)) e) ∙ so_far

pub cut_ends : (test : ℕ → Bool) (text : List ℕ) (i : ℕ) → i < length text → test (get_or text i 0) ≡ true → behind (take i text) (cut test (drop i text)) ≡ cut test text
    → Some (take i text, drop (i + 1) text) ≡ cut test text
cut_ends test text i lt on so_far =
    let c = get_or text i 0 in
    let e : cut test (drop i text) ≡ Some ([], drop (i + 1) text) = at_drop_more (cut test) text i 0 lt ∙ cut_yes test c (drop (i + 1) text) on in
    let front : behind (take i text) (Some ([], drop (i + 1) text)) ≡ Some (take i text, drop (i + 1) text) = ap (λ (w : List ℕ). Some (w, drop (i + 1) text)) (append-nil (take i text)) in
    sym front ∙ sym (ap (behind (take i text)) e) ∙ so_far

pub cut_done : (test : ℕ → Bool) (text : List ℕ) (i : ℕ) → length text ≤ i → behind (take i text) (cut test (drop i text)) ≡ cut test text → None ≡ cut test text
unfolding cut
cut_done test text i le so_far = sym (at_drop_all (λ (w : List ℕ). behind (take i text) (cut test w)) text i le) ∙ so_far

before_no : (test : ℕ → Bool) (c : ℕ) (cs : List ℕ) → test c ≡ false → before test (c ∷ cs) ≡ c ∷ before test cs
unfolding before
before_no test c cs off = rw off refl

before_yes : (test : ℕ → Bool) (c : ℕ) (cs : List ℕ) → test c ≡ true → before test (c ∷ cs) ≡ []
unfolding before
before_yes test c cs on = rw on refl

pub before_goes_on : (test : ℕ → Bool) (text : List ℕ) (i : ℕ) → i < length text → test (get_or text i 0) ≡ false → take i text ++ before test (drop i text) ≡ before test text
    → take (i + 1) text ++ before test (drop (i + 1) text) ≡ before test text
before_goes_on test text i lt off so_far =
    let c = get_or text i 0 in
    let e : before test (drop i text) ≡ c ∷ before test (drop (i + 1) text) = at_drop_more (before test) text i 0 lt ∙ before_no test c (drop (i + 1) text) off in
    let t : take (i + 1) text ≡ take i text ++ c ∷ [] = take_more text i 0 lt in
    ap (λ (front : List ℕ). front ++ before test (drop (i + 1) text)) t
    ∙ append_assoc (take i text) (c ∷ []) (before test (drop (i + 1) text)) ∙ sym (ap (λ (w : List ℕ). take i text ++ w) e) ∙ so_far

pub before_ends : (test : ℕ → Bool) (text : List ℕ) (i : ℕ) → i < length text → test (get_or text i 0) ≡ true → take i text ++ before test (drop i text) ≡ before test text
    → take i text ≡ before test text
before_ends test text i lt on so_far =
    let e : before test (drop i text) ≡ [] = at_drop_more (before test) text i 0 lt ∙ before_yes test (get_or text i 0) (drop (i + 1) text) on in
    sym (append-nil (take i text)) ∙ sym (ap (λ (w : List ℕ). take i text ++ w) e) ∙ so_far

from_no : (test : ℕ → Bool) (c : ℕ) (cs : List ℕ) → test c ≡ false → from test (c ∷ cs) ≡ from test cs
unfolding from
from_no test c cs off = rw off refl

from_yes : (test : ℕ → Bool) (c : ℕ) (cs : List ℕ) → test c ≡ true → from test (c ∷ cs) ≡ c ∷ cs
unfolding from
from_yes test c cs on = rw on refl

pub from_goes_on : (test : ℕ → Bool) (text : List ℕ) (i : ℕ) → i < length text → test (get_or text i 0) ≡ false → from test (drop (i + 1) text) ≡ from test (drop i text)
from_goes_on test text i lt off = sym (at_drop_more (from test) text i 0 lt ∙ from_no test (get_or text i 0) (drop (i + 1) text) off)

pub from_ends : (test : ℕ → Bool) (text : List ℕ) (i : ℕ) → i < length text → test (get_or text i 0) ≡ true → drop i text ≡ from test (drop i text)
from_ends test text i lt on =
    at_drop_more (λ (w : List ℕ). w) text i 0 lt ∙ sym (at_drop_more (from test) text i 0 lt ∙ from_yes test (get_or text i 0) (drop (i + 1) text) on)
