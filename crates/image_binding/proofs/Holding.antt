-- SPDX-License-Identifier: Apache-2.0
-- Of parts of memory that are apart, the one with an address.
use Rattle.std.proofs.Common.{◌≡◌, ℕ, zero, suc, ◌+◌, ◌<◌, ◌≤◌, Bool, true, false, cond, ◌&&◌, List, [], ◌∷◌, length, get_or, refl, sym, ap, ◌∙◌, arith, inl, inr}
use Rattle.std.specs.Prelude.{nat_le, nat_lt, find, unwrap_or, Some, None}
use Rattle.std.specs.List.Sorted.{IsNonDecreasingBy}
use Rattle.std.proofs.lemmas.Bool.{cases_Bool, cases_lt, false≢true}
use Rattle.std.proofs.lemmas.Bool.Decides.{nat_tests}

module _ {A : Type 0} (start size : A → ℕ) (none : A) (empty : size none ≡ 0) where
  abbrev pub AreApart : List A → Type 0
  AreApart parts = (j k : ℕ) (d : A) → j < k → k < length parts → start (get_or parts j d) + size (get_or parts j d) ≤ start (get_or parts k d)

  -- the address lies in the part
  abbrev pub has : ℕ → A → Bool
  has address x = nat_le (start x) address && nat_lt address (start x + size x)

  abbrev pub part_with : List A → ℕ → A
  part_with parts address = unwrap_or (find (has address) parts) none

  pub rise : (parts : List A) → AreApart parts → IsNonDecreasingBy start parts
  rise parts apart i j d le lt = elim (cases_lt i j) [
    | inl l ↦ let h = apart i j d l lt in omega (arith, h)
    | inr g ↦ let e : i ≡ j = omega arith in let same : start (get_or parts i d) ≡ start (get_or parts j d) = ap (λ k. start (get_or parts k d)) e in omega (arith, same)
  ]

  -- so many start at or below the address
  abbrev pub StartBelow : List A → ℕ → ℕ → Type 0
  StartBelow parts address i = (k : ℕ) (d : A) → k < i → start (get_or parts k d) ≤ address

  -- the others start above it
  abbrev pub StartAbove : List A → ℕ → ℕ → Type 0
  StartAbove parts address i = (k : ℕ) (d : A) → i ≤ k → k < length parts → address < start (get_or parts k d)

  above_not : (address : ℕ) (x : A) → address < start x → has address x ≡ false
  above_not address x lt = grind (arith, nat_tests, lt)

  behind_not : (address : ℕ) (x : A) → start x + size x ≤ address → has address x ≡ false
  behind_not address x le = grind (arith, nat_tests, le)

  none_above : (address : ℕ) (parts : List A) → StartAbove parts address 0 → find (has address) parts ≡ None
  none_above address [] a = refl
  none_above address (x ∷ xs) a =
      ap (λ b. cond b (Some x) (find (has address) xs)) (above_not address x (a 0 x (omega arith) (omega arith)))
      ∙ none_above address xs (λ k d le lt. a (suc k) d (omega (arith, le)) (omega (arith, lt)))

  nothing_inside : (address : ℕ) → has address none ≡ false
  nothing_inside address = grind (arith, nat_tests, empty)

  -- an address that lies in a part lies at or above the start of one
  pub some_below : (address : ℕ) (parts : List A) (i : ℕ) → StartAbove parts address i → has address (part_with parts address) ≡ true → 0 < i
  some_below address parts zero above found =
      absurd (false≢true (sym (nothing_inside address) ∙ sym (ap (λ o. has address (unwrap_or o none)) (none_above address parts above)) ∙ found))
  some_below address parts (suc i) above found = omega arith

  -- it lies in the last that starts at or below it
  pub part_is : (address : ℕ) (parts : List A) (i : ℕ) (d : A) → AreApart parts → i < length parts → StartBelow parts address (i + 1) → StartAbove parts address (i + 1) → has address (part_with parts address) ≡ true → part_with parts address ≡ get_or parts i d
  part_is address [] i d apart lt below above found = absurd (omega (arith, lt))
  part_is address (x ∷ xs) zero d apart lt below above found =
      elim (cases_Bool (has address x)) [
        | inl t ↦ ap (λ b. unwrap_or (cond b (Some x) (find (has address) xs)) none) t
        | inr f ↦
            let no : part_with (x ∷ xs) address ≡ none =
            ap (λ b. unwrap_or (cond b (Some x) (find (has address) xs)) none) f
            ∙ ap (λ o. unwrap_or o none) (none_above address xs (λ k d le lt. above (suc k) d (omega (arith, le)) (omega (arith, lt)))) in
            absurd (false≢true (sym (nothing_inside address) ∙ sym (ap (has address) no) ∙ found))
      ]
  part_is address (x ∷ []) (suc i) d apart lt below above found = absurd (omega (arith, lt))
  part_is address (x ∷ y ∷ xs) (suc i) d apart lt below above found =
      let starts = below 1 y (omega arith) in
      let ends = apart 0 1 y (omega arith) (omega arith) in
      let out = behind_not address x (omega (arith, starts, ends)) in
      let same : part_with (x ∷ y ∷ xs) address ≡ part_with (y ∷ xs) address =
      ap (λ b. unwrap_or (cond b (Some x) (find (has address) (y ∷ xs))) none) out in
      same
      ∙ part_is address (y ∷ xs) i d (λ j k d l m. apart (suc j) (suc k) d (omega (arith, l)) (omega (arith, m))) (omega (arith, lt))
      (λ k d l. below (suc k) d (omega (arith, l))) (λ k d l m. above (suc k) d (omega (arith, l)) (omega (arith, m)))
      (sym (ap (has address) same) ∙ found)
