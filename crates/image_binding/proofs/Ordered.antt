-- SPDX-License-Identifier: Apache-2.0
-- What holds of the segments and sections of a file holds of those in order.
use Rattle.std.proofs.Common.{◌≡◌, ℕ, cond, List, [], ◌∷◌, All, ap, subst, sym}
use Rattle.std.specs.Prelude.{nat_le, map, filter}
use Rattle.std.specs.List.{AllByRecursion}
use Rattle.std.proofs.lemmas.List.Elements.{All-filter, All-from_recursion, recursion_from_All}
use Rattle.std.proofs.lemmas.Bool.{cases_Bool}
use Rattle.std.proofs.Common.{inl, inr}
use Rattle.load_law.specs.Placed.{IsPlaced}
use Rattle.elf_rules.specs.declared.elf.Head.{Head}
use Rattle.elf_rules.specs.declared.elf.Segment.{Segment}
use Rattle.elf_rules.specs.Bindable.{codes_in_order, filled_in_order, put_by, rising_by}
use Rattle.elf_rules.specs.Elf.{heads_of, is_code, section_of, sections_of, segments_of}
use Rattle.elf_rules.specs.ElfRules.{has_memory}
use Rattle.elf_rules.specs.Splitting.{IsBounded}
use Rattle.image_binding.specs.Order.{AreApart, EndsLow}

-- ---- a list by rising keys

all-put : {X : Type 0} (key : X → ℕ) (P : X → Type 0) (x : X) (ys : List X) → P x → AllByRecursion P ys → AllByRecursion P (put_by key x ys)
all-put key P x [] p a = (p, tt)
all-put {X} key P x (y ∷ ys) p a =
    let Q : List X → Type 0 = λ zs. AllByRecursion P zs in
    elim (cases_Bool (nat_le (key x) (key y))) [
      | inl t ↦ subst (λ b. Q (cond b (x ∷ y ∷ ys) (y ∷ put_by key x ys))) (sym t) (p, a)
      | inr f ↦ subst (λ b. Q (cond b (x ∷ y ∷ ys) (y ∷ put_by key x ys))) (sym f) (a.0, all-put key P x ys p a.1)
    ]

all-rising : {X : Type 0} (key : X → ℕ) (P : X → Type 0) (xs : List X) → AllByRecursion P xs → AllByRecursion P (rising_by key xs)
all-rising key P [] a = tt
all-rising key P (x ∷ xs) a = all-put key P x (rising_by key xs) a.0 (all-rising key P xs a.1)

pub all_rising : {X : Type 0} (key : X → ℕ) (P : X → Type 0) (xs : List X) → All P xs → All P (rising_by key xs)
all_rising key P xs a = All-from_recursion P (rising_by key xs) (all-rising key P xs (recursion_from_All P xs a))

-- ---- segments

pub filled_is : (b : List ℕ) (segments : List Segment) → segments ≡ segments_of b → rising_by (λ (g : Segment). g.start) (filter has_memory segments) ≡ filled_in_order b
unfolding filled_in_order
filled_is b segments e = ap (λ gs. rising_by (λ (g : Segment). g.start) (filter has_memory gs)) e

pub filled_placed : (b : List ℕ) → All (IsPlaced b) (segments_of b) → All (IsPlaced b) (filled_in_order b)
unfolding filled_in_order
filled_placed b a =
    all_rising (λ (g : Segment). g.start) (IsPlaced b) (filter has_memory (segments_of b)) (All-filter has_memory (IsPlaced b) (segments_of b) a)

-- ---- sections

pub codes_are : (b : List ℕ) (heads : List Head) → heads ≡ heads_of b → rising_by (λ (h : Head). h.start) (filter is_code heads) ≡ codes_in_order b
unfolding codes_in_order
codes_are b heads e = ap (λ hs. rising_by (λ (h : Head). h.start) (filter is_code hs)) e

bounded_low : (hs : List Head) → AllByRecursion IsBounded (map section_of hs) → AllByRecursion EndsLow (filter is_code hs)
bounded_low [] a = tt
bounded_low (h ∷ hs) a =
    let rest = bounded_low hs a.1 in
    let Q : List Head → Type 0 = λ zs. AllByRecursion EndsLow zs in
    elim (cases_Bool (is_code h)) [
      | inl t ↦ subst (λ b. Q (cond b (h ∷ filter is_code hs) (filter is_code hs))) (sym t) (a.0 t, rest)
      | inr f ↦ subst (λ b. Q (cond b (h ∷ filter is_code hs) (filter is_code hs))) (sym f) rest
    ]

pub codes_low : (b : List ℕ) → All IsBounded (sections_of b) → All EndsLow (codes_in_order b)
unfolding codes_in_order
codes_low b a =
    all_rising (λ (h : Head). h.start) EndsLow (filter is_code (heads_of b))
    (All-from_recursion EndsLow (filter is_code (heads_of b)) (bounded_low (heads_of b) (recursion_from_All IsBounded (sections_of b) a)))

pub as_codes : (b : List ℕ) (codes : List Head) → codes ≡ codes_in_order b → AreApart (codes_in_order b) → AreApart codes
as_codes b codes e apart = subst AreApart (sym e) apart
