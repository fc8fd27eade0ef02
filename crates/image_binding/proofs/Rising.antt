-- SPDX-License-Identifier: Apache-2.0
-- What a stable sort by a key gives is the list by rising keys.
use Rattle.std.proofs.Common.{◌≡◌, ℕ, suc, ◌<◌, ◌≤◌, Bool, true, false, cond, ◌&&◌, List, [], ◌∷◌, length, get_or, refl, sym, ap, ◌∙◌, subst, arith, inl, inr, nat_cmp}
use Rattle.std.specs.Prelude.{◌==◌, nat_le, not, filter}
use Rattle.std.specs.List.{AllByRecursion}
use Rattle.std.specs.List.Sorted.{IsNonDecreasingBy, IsStableByKey, ties}
use Rattle.std.specs.Ordering.{is_lt}
use Rattle.std.proofs.lemmas.Bool.{cases_Bool, cases_order}
use Rattle.std.proofs.lemmas.Bool.Decides.{nat_tests}
use Rattle.std.proofs.lemmas.List.Elements.{filter_agree}
use Rattle.elf_rules.specs.Bindable.{put_by, rising_by}

-- no key is below m
abbrev Above : {X : Type 0} → (X → ℕ) → ℕ → List X → Type 0
Above {X} key m xs = AllByRecursion (λ (x : X). m ≤ key x) xs

abbrev Rises : {X : Type 0} → (X → ℕ) → List X → Type 0
Rises key [] = Unit {0}
Rises key (x ∷ xs) = Above key (key x) xs × Rises key xs

above_less : {X : Type 0} (key : X → ℕ) (m n : ℕ) (xs : List X) → m ≤ n → Above key n xs → Above key m xs
above_less key m n [] h a = tt
above_less key m n (x ∷ xs) h a = (omega (arith, a.0), above_less key m n xs h a.1)

-- ---- the list by rising keys

chosen : {X : Type 0} (b : Bool) (x y : X) (P : X → Type 0) → (b ≡ true → P x) → (b ≡ false → P y) → P (cond b x y)
chosen true x y P f g = f refl
chosen false x y P f g = g refl

above-put : {X : Type 0} (key : X → ℕ) (m : ℕ) (x : X) (ys : List X) → m ≤ key x → Above key m ys → Above key m (put_by key x ys)
above-put key m x [] h a = (h, tt)
above-put key m x (y ∷ ys) h a =
    chosen (nat_le (key x) (key y)) (x ∷ y ∷ ys) (y ∷ put_by key x ys) (Above key m) (λ e. (h, a)) (λ e. (a.0, above-put key m x ys h a.1))

rises-put : {X : Type 0} (key : X → ℕ) (x : X) (ys : List X) → Rises key ys → Rises key (put_by key x ys)
rises-put key x [] r = (tt, tt)
rises-put key x (y ∷ ys) r =
    chosen (nat_le (key x) (key y)) (x ∷ y ∷ ys) (y ∷ put_by key x ys) (Rises key)
    (λ e. let le : key x ≤ key y = grind (arith, nat_tests, e) in ((le, above_less key (key x) (key y) ys le r.0), r))
    (λ e. let le : key y ≤ key x = grind (arith, nat_tests, e) in (above-put key (key y) x ys le r.0, rises-put key x ys r.1))

rises-rising : {X : Type 0} (key : X → ℕ) (xs : List X) → Rises key (rising_by key xs)
rises-rising key [] = tt
rises-rising key (x ∷ xs) = rises-put key x (rising_by key xs) (rises-rising key xs)

-- ---- the entries of one key

abbrev at_key : {X : Type 0} → (X → ℕ) → ℕ → List X → List X
at_key {X} key k xs = filter (λ (x : X). key x == k) xs

at_key-put : {X : Type 0} (key : X → ℕ) (k : ℕ) (x : X) (ys : List X) → at_key key k (put_by key x ys) ≡ at_key key k (x ∷ ys)
at_key-put key k x [] = refl
at_key-put {X} key k x (y ∷ ys) =
    let P : List X → Type 0 = λ zs. at_key key k zs ≡ at_key key k (x ∷ y ∷ ys) in
    chosen (nat_le (key x) (key y)) (x ∷ y ∷ ys) (y ∷ put_by key x ys) P (λ e. refl)
    (λ e.
    ap (λ zs. cond (key y == k) (y ∷ zs) zs) (at_key-put key k x ys)
    ∙ swapped (key x == k) (key y == k) (at_key key k ys) (grind (arith, nat_tests, e)))
  where
    swapped : (a b : Bool) (zs : List X) → (a && b) ≡ false → cond b (y ∷ cond a (x ∷ zs) zs) (cond a (x ∷ zs) zs) ≡ cond a (x ∷ cond b (y ∷ zs) zs) (cond b (y ∷ zs) zs)
    swapped true true zs h = cc
    swapped true false zs h = refl
    swapped false true zs h = refl
    swapped false false zs h = refl

at_key-rising : {X : Type 0} (key : X → ℕ) (k : ℕ) (xs : List X) → at_key key k (rising_by key xs) ≡ at_key key k xs
at_key-rising key k [] = refl
at_key-rising key k (x ∷ xs) =
    at_key-put key k x (rising_by key xs) ∙ ap (λ zs. cond (key x == k) (x ∷ zs) zs) (at_key-rising key k xs)

none_at : {X : Type 0} (key : X → ℕ) (k m : ℕ) (xs : List X) → k < m → Above key m xs → at_key key k xs ≡ []
none_at key k m [] lt a = refl
none_at key k m (x ∷ xs) lt a =
    let ne : (key x == k) ≡ false = grind (arith, nat_tests, a.0) in
    ap (λ b. cond b (x ∷ at_key key k xs) (at_key key k xs)) ne ∙ none_at key k m xs lt a.1

some_at : {X : Type 0} (key : X → ℕ) (k : ℕ) (x : X) (xs : List X) → key x ≡ k → at_key key k (x ∷ xs) ≡ x ∷ at_key key k xs
some_at key k x xs e =
    let same : (key x == k) ≡ true = grind (arith, nat_tests, e) in
    ap (λ b. cond b (x ∷ at_key key k xs) (at_key key k xs)) same

-- ---- rising lists with the same entries of each key are the same

same_rising : {X : Type 0} (key : X → ℕ) (ys zs : List X) → Rises key ys → Rises key zs → ((x : X) → at_key key (key x) ys ≡ at_key key (key x) zs) → ys ≡ zs
same_rising key [] [] r s h = refl
same_rising key [] (z ∷ zs) r s h = let e = h z ∙ some_at key (key z) z zs refl in cc
same_rising key (y ∷ ys) [] r s h = let e = sym (h y) ∙ some_at key (key y) y ys refl in cc
same_rising {X} key (y ∷ ys) (z ∷ zs) r s h =
    elim (cases_order (key y) (key z)) [
      | inl e ↦
          let heads = sym (some_at key (key y) y ys refl) ∙ h y ∙ some_at key (key y) z zs (sym e) in
          joined heads (same_rising key ys zs r.1 s.1 (λ x. rest x e (h x) heads))
      | inr o ↦ elim o [
        | inl lt ↦ let e = sym (some_at key (key y) y ys refl) ∙ h y ∙ none_at key (key y) (key z) (z ∷ zs) lt (omega arith, s.0) in cc
        | inr lt ↦ let e = sym (some_at key (key z) z zs refl) ∙ sym (h z) ∙ none_at key (key z) (key y) (y ∷ ys) lt (omega arith, r.0) in cc
      ]
    ]
  where
    joined : {us vs : List X} → (y ∷ us) ≡ (z ∷ vs) → ys ≡ zs → (y ∷ ys) ≡ (z ∷ zs)
    joined e f = cc

    tails : {us vs : List X} → (y ∷ us) ≡ (z ∷ vs) → us ≡ vs
    tails e = cc

    rest : (x : X) → key y ≡ key z → at_key key (key x) (y ∷ ys) ≡ at_key key (key x) (z ∷ zs) → (y ∷ at_key key (key y) ys) ≡ (z ∷ at_key key (key y) zs) → at_key key (key x) ys ≡ at_key key (key x) zs
    rest x same e heads =
        elim (cases_Bool (key y == key x)) [
          | inl t ↦
              let k : key y ≡ key x = grind (arith, nat_tests, t) in
              subst (λ n. at_key key n ys ≡ at_key key n zs) k (tails heads)
          | inr f ↦
              let g : (key z == key x) ≡ false = grind (arith, nat_tests, f, same) in
              sym (ap (λ b. cond b (y ∷ at_key key (key x) ys) (at_key key (key x) ys)) f)
              ∙ e ∙ ap (λ b. cond b (z ∷ at_key key (key x) zs) (at_key key (key x) zs)) g
        ]

rises : {X : Type 0} (key : X → ℕ) (xs : List X) → IsNonDecreasingBy key xs → Rises key xs
rises key [] up = tt
rises key (x ∷ xs) up =
    (above key (key x) xs (λ k d l. up 0 (suc k) d (omega arith) (omega arith)), rises key xs (λ i j d le lt. up (suc i) (suc j) d (omega arith) (omega arith)))
  where
    above : {X : Type 0} (key : X → ℕ) (m : ℕ) (xs : List X) → ((k : ℕ) (d : X) → k < length xs → m ≤ key (get_or xs k d)) → Above key m xs
    above key m [] h = tt
    above key m (x ∷ xs) h = (h 0 x (omega arith), above key m xs (λ k d l. h (suc k) d (omega arith)))

pub sorted_is : {X : Type 0} (key : X → ℕ) (xs ys : List X) → IsNonDecreasingBy key ys → IsStableByKey key nat_cmp xs ys → ys ≡ rising_by key xs
sorted_is {X} key xs ys up st =
    same_rising key ys (rising_by key xs) (rises key ys up) (rises-rising key xs)
    (λ x. same x ∙ sym (at_key-rising key (key x) xs))
  where
    tie : (x y : X) → (key y == key x) ≡ (not (is_lt (nat_cmp (key x) (key y))) && not (is_lt (nat_cmp (key y) (key x))))
    tie x y = grind (arith, nat_tests)

    same : (x : X) → at_key key (key x) ys ≡ at_key key (key x) xs
    same x =
        let lt = λ (a : X) (b : X). is_lt (nat_cmp (key a) (key b)) in
        filter_agree (λ (y : X). key y == key x) (ties lt x) (tie x) ys ∙ st x ∙ sym (filter_agree (λ (y : X). key y == key x) (ties lt x) (tie x) xs)
