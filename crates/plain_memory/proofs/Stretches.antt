-- SPDX-License-Identifier: Apache-2.0
-- Ranges of bytes of which each passes a test.
use Rattle.std.proofs.Common.{◌≡◌, ℕ, zero, suc, ◌+◌, ◌-◌, ◌<◌, ◌≤◌, Bool, true, false, List, map, length, refl, sym, ap, ◌∙◌, arith, inl, inr}
use Rattle.std.specs.Prelude.{◌&&◌, nat_le, nat_lt, slice_index_or}
use Rattle.std.specs.List.{list_any}
use Rattle.std.proofs.lemmas.Bool.{cases_eq}
use Rattle.std.proofs.lemmas.Bool.Decides.{nat_tests}
use Rattle.sh_types.specs.declared.code.Region.{Region}
use Rattle.sh_machines.specs.Memory.{each_from, readable, writable, is_in_region}
use Rattle.plain_memory.specs.Laid.{Laid, allows, bare, usable}
use Rattle.plain_memory.proofs.Places.{usable_bare, usable_needs, any_at, in_low, write_reads}

pub each_true : (test : ℕ → Bool) (a n : ℕ) → ((b : ℕ) → a ≤ b → b < a + n → test b ≡ true) → each_from test a n ≡ true
unfolding each_from
each_true test a zero h = refl
each_true test a (suc n) h =
    ap (λ b. b && each_from test (suc a) n) (h a (omega arith) (omega arith)) ∙ each_true test (suc a) n (λ b l m. h b (omega (arith, l)) (omega (arith, m)))

pub each_false : (test : ℕ → Bool) (a n b : ℕ) → a ≤ b → b < a + n → test b ≡ false → each_from test a n ≡ false
unfolding each_from
each_false test a zero b l m e = absurd (omega (arith, l, m))
each_false test a (suc n) b l m e = elim (cases_eq a b) [
  | inl q ↦ ap (λ c. c && each_from test (suc a) n) (ap test q ∙ e)
  | inr q ↦ ap (λ c. test a && c) (each_false test (suc a) n b (omega (arith, l, q)) (omega (arith, m)) e) ∙ none (test a)
]
  where
    none : (c : Bool) → (c && false) ≡ false
    none true = refl
    none false = refl

pub each_at : (test : ℕ → Bool) (a n b : ℕ) → each_from test a n ≡ true → a ≤ b → b < a + n → test b ≡ true
each_at test a n b e l m = by (test b) refl
  where
    by : (c : Bool) → test b ≡ c → test b ≡ true
    by true q = q
    by false q = let f = each_false test a n b l m q in absurd (cc)

pub each_same : (f g : ℕ → Bool) (a n : ℕ) → ((b : ℕ) → f b ≡ g b) → each_from f a n ≡ each_from g a n
unfolding each_from
each_same f g a zero h = refl
each_same f g a (suc n) h = ap (λ b. b && each_from f (suc a) n) (h a) ∙ ap (λ b. g a && b) (each_same f g (suc a) n h)

and_assoc : (a b c : Bool) → (a && (b && c)) ≡ ((a && b) && c)
and_assoc true b c = refl
and_assoc false b c = refl

pub each_plus : (test : ℕ → Bool) (a n m : ℕ) → each_from test a (n + m) ≡ (each_from test a n && each_from test (a + n) m)
unfolding each_from
each_plus test a zero m =
    let p : 0 + m ≡ m = omega arith in
    let q : a ≡ a + 0 = omega arith in
    ap (each_from test a) p ∙ ap (λ x. each_from test x m) q
each_plus test a (suc n) m =
    let p : suc n + m ≡ suc (n + m) = omega arith in
    let q : suc a + n ≡ a + suc n = omega arith in
    ap (each_from test a) p ∙ ap (λ b. test a && b) (each_plus test (suc a) n m) ∙ and_assoc (test a) (each_from test (suc a) n) (each_from test (suc a + n) m)
    ∙ ap (λ x. (test a && each_from test (suc a) n) && each_from test x m) q

-- ---- what can be read or written

abbrev pub test_of : (writes : Bool) → List Region → ℕ → Bool
test_of writes rs b = list_any (usable writes b) rs

pub allows_is : (writes : Bool) (rs : List Region) (a n : ℕ) → allows writes (map bare rs) a n ≡ each_from (test_of writes rs) a n
unfolding readable writable
allows_is true rs a n = each_same (test_of true (map bare rs)) (test_of true rs) a n (λ b. usable_bare true b rs)
allows_is false rs a n = each_same (test_of false (map bare rs)) (test_of false rs) a n (λ b. usable_bare false b rs)

-- so many bytes from an address on pass, and those behind them are still to be seen
pub covers_next : (test : ℕ → Bool) (at left here : ℕ) → here ≤ left → ((x : ℕ) → at ≤ x → x < at + here → test x ≡ true) → each_from test (at + here) (left - here) ≡ each_from test at left
covers_next test at left here l h =
    let e : left ≡ here + (left - here) = omega (arith, l) in
    sym (ap (each_from test at) e ∙ each_plus test at here (left - here) ∙ ap (λ b. b && each_from test (at + here) (left - here)) (each_true test at here h))

-- one region that has a range allows it
pub near_allows : (rs : List Region) (k : ℕ) (r : Region) (a n : ℕ) (writes : Bool) → Laid 0 rs → k < length rs → r ≡ slice_index_or rs k r → r.start ≤ a → a + n ≤ r.end → (writes ≡ true → r.writable ≡ true) → allows writes (map bare rs) a n ≡ true
near_allows rs k r a n writes laid l e s t h =
    allows_is writes rs a n ∙ each_true (test_of writes rs) a n (λ b lo hi. any_at (usable writes b) 0 rs k r b (usable_needs writes b) laid l e (within b lo hi) ∙ by writes b h (within b lo hi))
  where
    both : (x y b : ℕ) → x ≤ b → b < y → (nat_le x b && nat_lt b y) ≡ true
    both x y b lo hi = grind (arith, nat_tests)

    within : (b : ℕ) → a ≤ b → b < a + n → is_in_region b r ≡ true
    within b lo hi = both r.start r.end b (omega (arith, s, lo)) (omega (arith, t, hi))

    by : (w : Bool) (b : ℕ) → (w ≡ true → r.writable ≡ true) → is_in_region b r ≡ true → usable w b r ≡ true
    by true b h i = ap (λ (c : Bool). c && is_in_region b r) (h refl) ∙ i
    by false b h i = i

pub allows_at : (writes : Bool) (rs : List Region) (a n b : ℕ) → allows writes (map bare rs) a n ≡ true → a ≤ b → b < a + n → list_any (usable writes b) rs ≡ true
allows_at writes rs a n b e l m = each_at (test_of writes rs) a n b (sym (allows_is writes rs a n) ∙ e) l m

pub written_in : (rs : List Region) (a n k : ℕ) → allows true (map bare rs) a n ≡ true → k < n → list_any (is_in_region (a + k)) rs ≡ true
written_in rs a n k e l = write_reads rs (a + k) (allows_at true rs a n (a + k) e (omega arith) (omega (arith, l)))

-- a range that can be read is low
pub reads_low : (rs : List Region) (a n : ℕ) → Laid 0 rs → allows false (map bare rs) a n ≡ true → 0 < n → a + n ≤ 0x40000000
reads_low rs a n laid e p =
    let last : a + (n - 1) < 0x40000000 = in_low 0 rs (a + (n - 1)) laid (allows_at false rs a n (a + (n - 1)) e (omega arith) (omega (arith, p))) in
    omega (arith, last, p)

-- without the bytes the same ranges can be read and written
pub readable_bare : (rs : List Region) (a n : ℕ) → readable (map bare rs) a n ≡ readable rs a n
unfolding readable
readable_bare rs a n = each_same (test_of false (map bare rs)) (test_of false rs) a n (λ b. usable_bare false b rs)

pub writable_bare : (rs : List Region) (a n : ℕ) → writable (map bare rs) a n ≡ writable rs a n
unfolding writable
writable_bare rs a n = each_same (test_of true (map bare rs)) (test_of true rs) a n (λ b. usable_bare true b rs)
