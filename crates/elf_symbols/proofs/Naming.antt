-- SPDX-License-Identifier: Apache-2.0
-- A name ends at the first zero byte at its place or behind it.
use Rattle.std.proofs.Common.{◌≡◌, ℕ, zero, suc, ◌+◌, ◌-◌, ◌<◌, ◌≤◌, Bool, true, false, cond, List, [], ◌∷◌, length, get_or, drop, take, min, add-zero, zero-add, refl, sym, ap, ◌∙◌, arith}
use Rattle.std.specs.Prelude.{◌==◌, not, take_while}
use Rattle.std.specs.List.Sorted.{IsNonDecreasingBy}
use Rattle.std.proofs.lemmas.Bool.Decides.{nat_tests}
use Rattle.std.proofs.lemmas.Grind.{common_steps}
use Rattle.std.proofs.lemmas.List.{drop_min}
use Rattle.std.proofs.lemmas.List.Sums.{take_while-cons}
use Rattle.elf_rules.specs.Elf.{name_at}
use Rattle.elf_symbols.specs.Zeros.{zeros_from, first_from}

-- ---- the places of zero bytes rise

-- a place at the front of a list, or not
low_if : (b : Bool) (place k d : ℕ) (zs : List ℕ) → ((i : ℕ) → i < length zs → place + 1 ≤ get_or zs i d) → k < length (cond b (place ∷ zs) zs) → place ≤ get_or (cond b (place ∷ zs) zs) k d
low_if true place zero d zs all h = omega arith
low_if true place (suc k) d zs all h =
    let a : place + 1 ≤ get_or zs k d = all k (omega (arith, h)) in
    omega (arith, a)
low_if false place k d zs all h =
    let a : place + 1 ≤ get_or zs k d = all k h in
    omega (arith, a)

low : (names : List ℕ) (place k d : ℕ) → k < length (zeros_from place names) → place ≤ get_or (zeros_from place names) k d
low [] place k d h = absurd (omega (arith, h))
low (c ∷ cs) place k d h = low_if (c == 0) place k d (zeros_from (place + 1) cs) (λ i l. low cs (place + 1) i d l) h

rising_if : (b : Bool) (place : ℕ) (zs : List ℕ) → ((k d : ℕ) → k < length zs → place + 1 ≤ get_or zs k d) → IsNonDecreasingBy (λ (n : ℕ). n) zs → IsNonDecreasingBy (λ (n : ℕ). n) (cond b (place ∷ zs) zs)
rising_if true place zs all up zero zero d le lt = omega arith
rising_if true place zs all up zero (suc j) d le lt =
    let a : place + 1 ≤ get_or zs j d = all j d (omega (arith, lt)) in
    omega (arith, a)
rising_if true place zs all up (suc i) zero d le lt = absurd (omega (arith, le))
rising_if true place zs all up (suc i) (suc j) d le lt = up i j d (omega (arith, le)) (omega (arith, lt))
rising_if false place zs all up i j d le lt = up i j d le lt

pub rising : (names : List ℕ) (place : ℕ) → IsNonDecreasingBy (λ (n : ℕ). n) (zeros_from place names)
rising [] place i j d le lt = absurd (omega (arith, lt))
rising (c ∷ cs) place i j d le lt =
    rising_if (c == 0) place (zeros_from (place + 1) cs) (low cs (place + 1)) (rising cs (place + 1)) i j d le lt

-- ---- the first of them

pub first_is : (zs : List ℕ) (k place d : ℕ) → ((i e : ℕ) → i < k → get_or zs i e < place) → ((i e : ℕ) → k ≤ i → i < length zs → place ≤ get_or zs i e) → first_from zs place d ≡ get_or zs k d
first_is [] zero place d below above = refl
first_is [] (suc k) place d below above = refl
first_is (z ∷ zs) zero place d below above =
    let a : place ≤ z = above 0 z (omega arith) (omega arith) in
    grind (arith, nat_tests, a)
first_is (z ∷ zs) (suc k) place d below above =
    let b : z < place = below 0 z (omega arith) in
    let ih = first_is zs k place d (λ i e l. below (suc i) e (omega (arith, l))) (λ i e l m. above (suc i) e (omega (arith, l)) (omega (arith, m))) in
    grind (arith, nat_tests, b, ih)

pub first_above : (zs : List ℕ) (place d : ℕ) → place ≤ d → place ≤ first_from zs place d
first_above [] place d h = h
first_above (z ∷ zs) place d h =
    let ih = first_above zs place d h in
    grind (arith, nat_tests, ih)

within_if : (b : Bool) (place start d : ℕ) (zs : List ℕ) → place ≤ d → first_from zs start d ≤ d → first_from (cond b (place ∷ zs) zs) start d ≤ d
within_if true place start d zs h ih = grind (arith, nat_tests, ih)
within_if false place start d zs h ih = ih

pub first_within : (names : List ℕ) (place start d : ℕ) → place + length names ≤ d → first_from (zeros_from place names) start d ≤ d
first_within [] place start d h = omega arith
first_within (c ∷ cs) place start d h =
    within_if (c == 0) place start d (zeros_from (place + 1) cs) (omega (arith, h)) (first_within cs (place + 1) start d (omega (arith, h)))

early_if : (b : Bool) (place start d : ℕ) (zs : List ℕ) → start ≤ place → first_from zs start d ≡ first_from zs (place + 1) d → first_from zs place d ≡ first_from zs (place + 1) d → first_from (cond b (place ∷ zs) zs) start d ≡ first_from (cond b (place ∷ zs) zs) place d
early_if true place start d zs h p q = grind (arith, nat_tests)
early_if false place start d zs h p q = p ∙ sym q

-- none lies before the first byte
early : (names : List ℕ) (place start d : ℕ) → start ≤ place → first_from (zeros_from place names) start d ≡ first_from (zeros_from place names) place d
early [] place start d h = refl
early (c ∷ cs) place start d h =
    early_if (c == 0) place start d (zeros_from (place + 1) cs) h (early cs (place + 1) start d (omega (arith, h))) (early cs (place + 1) place d (omega arith))

-- ---- names

take_cut : (b : Bool) (place d c : ℕ) (zs cs name : List ℕ) → first_from zs place d ≡ first_from zs (place + 1) d → place + 1 ≤ first_from zs (place + 1) d → take (first_from zs (place + 1) d - (place + 1)) cs ≡ name → take (first_from (cond b (place ∷ zs) zs) place d - place) (c ∷ cs) ≡ cond (not b) (c ∷ name) []
take_cut true place d c zs cs name same h ih =
    let none : first_from (place ∷ zs) place d - place ≡ 0 = grind (arith, nat_tests) in
    ap (λ n. take n (c ∷ cs)) none
take_cut false place d c zs cs name same h ih =
    let one : first_from zs place d - place ≡ suc (first_from zs (place + 1) d - (place + 1)) = omega (arith, same, h) in
    ap (λ n. take n (c ∷ cs)) one ∙ ap (λ n. c ∷ n) ih

name_first : (names : List ℕ) (place d : ℕ) → place + length names ≤ d → take (first_from (zeros_from place names) place d - place) names ≡ take_while (λ c. not (c == 0)) names
name_first [] place d h = grind (arith, common_steps)
name_first (c ∷ cs) place d h =
    let zs = zeros_from (place + 1) cs in
    take_cut (c == 0) place d c zs cs (take_while (λ c. not (c == 0)) cs) (early cs (place + 1) place d (omega arith)) (first_above zs (place + 1) d (omega (arith, h))) (name_first cs (place + 1) d (omega (arith, h)))
    ∙ sym (take_while-cons (λ c. not (c == 0)) c cs)

skip_if : (b : Bool) (place start d : ℕ) (zs : List ℕ) → place < start → first_from (cond b (place ∷ zs) zs) start d ≡ first_from zs start d
skip_if true place start d zs h = grind (arith, nat_tests, h)
skip_if false place start d zs h = refl

name_from : (names : List ℕ) (place start d : ℕ) → place + length names ≤ d → take (first_from (zeros_from place names) (place + start) d - (place + start)) (drop start names) ≡ take_while (λ c. not (c == 0)) (drop start names)
name_from names place zero d h = rw (add-zero) (name_first names place d h)
name_from [] place (suc start) d h = grind (arith, common_steps)
name_from (c ∷ cs) place (suc start) d h =
    let zs = zeros_from (place + 1) cs in
    let e : place + suc start ≡ place + 1 + start = omega arith in
    ap (λ n. take (first_from (cond (c == 0) (place ∷ zs) zs) n d - n) (drop start cs)) e
    ∙ ap (λ f. take (f - (place + 1 + start)) (drop start cs)) (skip_if (c == 0) place (place + 1 + start) d zs (omega arith))
    ∙ name_from cs (place + 1) start d (omega (arith, h))

-- the bytes from a place, or from the table's end, up to the first zero byte are the name
pub name_is : (names : List ℕ) (place : ℕ) → take (first_from (zeros_from 0 names) (min place (length names)) (length names) - min place (length names)) (drop (min place (length names)) names) ≡ name_at names place
unfolding name_at
name_is names place =
    let start = min place (length names) in
    let e : 0 + start ≡ start = zero-add start in
    ap (λ n. take (first_from (zeros_from 0 names) n (length names) - n) (drop start names)) (sym e)
    ∙ name_from names 0 start (length names) (omega arith)
    ∙ ap (take_while (λ c. not (c == 0))) (drop_min place names)
