-- SPDX-License-Identifier: Apache-2.0
-- Rows and labels are in order.
use Rattle.std.proofs.Common.{◌≡◌, ◌⊎◌, ℕ, zero, suc, ◌+◌, ◌-◌, ◌*◌, ◌/◌, ◌%◌, ◌<◌, ◌≤◌, Bool, true, false, cond, Some, List, [], ◌∷◌, ◌++◌, length, get_or, refl, sym, ap, ◌∙◌, subst, inl, inr, arith}
use Rattle.std.specs.Prelude.{map, filter, slice_index, slice_get}
use Rattle.std.specs.List.{list_any, AllByRecursion}
use Rattle.std.specs.List.Sorted.{IsNonDecreasingBy}
use Rattle.std.proofs.lemmas.Bool.{cases_lt}
use Rattle.sh_types.specs.declared.code.Function.{Function}
use Rattle.sh_types.specs.declared.code.Pair.{Pair}
use Rattle.sh_types.specs.declared.relocs.Reloc.{Reloc}
use Rattle.sh_types.specs.Place.{pair}
use Rattle.elf_rules.specs.Bindable.{sum_of}
use Rattle.elf_rules.specs.Elf.{places}
use Rattle.sh_machines.specs.Tokens.{AreInOrder}
use Rattle.fn_lookup.specs.Apart.{AreApart, home_in}
use Rattle.token_lookup.specs.Rising.{Rises}
use Rattle.token_lookup.proofs.Naming.{got}
use Rattle.image_rules.specs.Binding.{is_label, is_pointer, is_pointer_to, label_home, labels_from, labels_of, rows_from, rows_of}

-- ---- rows

-- a number before others that rise and are greater
first_rises : (x : ℕ) (xs : List ℕ) → ((i : ℕ) → i < length xs → x < slice_index xs i) → Rises xs → Rises (x ∷ xs)
first_rises x xs low h i zero l m = absurd (omega (arith, l))
first_rises x xs low h zero (suc j) l m = low j (omega (arith, m))
first_rises x xs low h (suc i) (suc j) l m = h i j (omega (arith, l)) (omega (arith, m))

rows_low : (j : ℕ) (fs : List Function) (rs : List Reloc) (i : ℕ) → i < length (rows_from j fs rs) → j ≤ slice_index (rows_from j fs rs) i
rows_low j [] rs i lt = absurd (omega (arith, lt))
rows_low j (f ∷ fs) rs i lt = by (list_any (is_pointer_to is_pointer f.home) rs) (λ k l. rows_low (suc j) fs rs k l) i lt
  where
    rest : List ℕ
    rest = rows_from (suc j) fs rs

    by : (b : Bool) → ((k : ℕ) → k < length rest → suc j ≤ slice_index rest k) → (i : ℕ) → i < length (cond b (j ∷ rest) rest) → j ≤ slice_index (cond b (j ∷ rest) rest) i
    by true later zero lt = omega arith
    by true later (suc i) lt = let low = later i (omega (arith, lt)) in omega (arith, low)
    by false later i lt = let low = later i lt in omega (arith, low)

rows_rise : (j : ℕ) (fs : List Function) (rs : List Reloc) → Rises (rows_from j fs rs)
rows_rise j [] rs = λ i k l m. absurd (omega (arith, m))
rows_rise j (f ∷ fs) rs = by (list_any (is_pointer_to is_pointer f.home) rs) (rows_rise (suc j) fs rs)
  where
    rest : List ℕ
    rest = rows_from (suc j) fs rs

    by : (b : Bool) → Rises rest → Rises (cond b (j ∷ rest) rest)
    by true later = first_rises j rest (λ i lt. let low = rows_low (suc j) fs rs i lt in omega (arith, low)) later
    by false later = later

pub rising_rows : (fs : List Function) (rs : List Reloc) → Rises (rows_of fs rs)
unfolding rows_of
rising_rows fs rs = rows_rise 0 fs rs

-- ---- labels by rising function and offset

-- the pair is not before an offset of a function
abbrev pub IsFrom : (f o : ℕ) → Pair → Type 0
IsFrom f o q = (f < q.func) ⊎ ((f ≡ q.func) × (o ≤ q.off))

-- each is behind the one before, and the first is not before an offset of a function
abbrev pub RiseFrom : (f o : ℕ) → List Pair → Type 0
RiseFrom f o [] = Unit {0}
RiseFrom f o (q ∷ qs) = IsFrom f o q × RiseFrom q.func (suc q.off) qs

step : (f o g p : ℕ) (q : Pair) → (f < g) ⊎ ((f ≡ g) × (o ≤ p)) → IsFrom g p q → IsFrom f o q
step f o g p q (inl l) (inl m) = inl (omega (arith, l, m))
step f o g p q (inl l) (inr m) = inl (omega (arith, l, m.0))
step f o g p q (inr l) (inl m) = inl (omega (arith, l.0, m))
step f o g p q (inr l) (inr m) = inr (omega (arith, l.0, m.0), omega (arith, l.1, m.1))

-- from an earlier place on too
sooner : (f o g p : ℕ) (qs : List Pair) → (f < g) ⊎ ((f ≡ g) × (o ≤ p)) → RiseFrom g p qs → RiseFrom f o qs
sooner f o g p [] le h = tt
sooner f o g p (q ∷ qs) le h = (step f o g p q le h.0, h.1)

in_rises : (j off n : ℕ) (test : ℕ → Bool) (rest : List Pair) → RiseFrom (suc j) 0 rest → RiseFrom j off (map (pair j) (filter test (places 4 off n)) ++ rest)
in_rises j off zero test rest h = sooner j off (suc j) 0 rest (inl (omega arith)) h
in_rises j off (suc n) test rest h = by (test off) (in_rises j (off + 4) n test rest h)
  where
    more : List ℕ
    more = filter test (places 4 (off + 4) n)

    by : (b : Bool) → RiseFrom j (off + 4) (map (pair j) more ++ rest) → RiseFrom j off (map (pair j) (cond b (off ∷ more) more) ++ rest)
    by true later = (inr (refl, omega arith), sooner j (suc off) j (off + 4) (map (pair j) more ++ rest) (inr (refl, omega arith)) later)
    by false later = sooner j off j (off + 4) (map (pair j) more ++ rest) (inr (refl, omega arith)) later

all_rise : (j : ℕ) (fs : List Function) (rs : List Reloc) → RiseFrom j 0 (labels_from j fs rs)
all_rise j [] rs = tt
all_rise j (f ∷ fs) rs =
    sooner j 0 j 4 (labels_from j (f ∷ fs) rs) (inr (refl, omega arith)) (in_rises j 4 ((f.size - 1) / 4) (is_label f rs) (labels_from (suc j) fs rs) (all_rise (suc j) fs rs))

from_at : (f o : ℕ) (qs : List Pair) (i : ℕ) (q : Pair) → RiseFrom f o qs → slice_get qs i ≡ Some q → IsFrom f o q
from_at f o [] i q h e = absurd (cc)
from_at f o (r ∷ qs) zero q h e = let k : r ≡ q = cc in subst (IsFrom f o) k h.0
from_at f o (r ∷ qs) (suc i) q h e = step f o r.func (suc r.off) q (later h.0) (from_at r.func (suc r.off) qs i q h.1 e)
  where
    later : IsFrom f o r → (f < r.func) ⊎ ((f ≡ r.func) × (o ≤ suc r.off))
    later (inl l) = inl l
    later (inr l) = inr (l.0, omega (arith, l.1))

rise_at : (f o : ℕ) (qs : List Pair) (i j : ℕ) (p q : Pair) → RiseFrom f o qs → i < j → slice_get qs i ≡ Some p → slice_get qs j ≡ Some q → IsFrom p.func (suc p.off) q
rise_at f o [] i j p q h l d e = absurd (cc)
rise_at f o (r ∷ qs) i zero p q h l d e = absurd (omega (arith, l))
rise_at f o (r ∷ qs) zero (suc j) p q h l d e =
    let k : r ≡ p = cc in from_at p.func (suc p.off) qs j q (subst (λ (x : Pair). RiseFrom x.func (suc x.off) qs) k h.1) e
rise_at f o (r ∷ qs) (suc i) (suc j) p q h l d e = rise_at r.func (suc r.off) qs i j p q h.1 (omega (arith, l)) d e

-- ---- labels are words inside their functions

abbrev pub IsInside : List ℕ → Pair → Type 0
IsInside sizes q = (q.func < length sizes) × ((0 < q.off) × ((q.off < slice_index sizes q.func) × (q.off % 4 ≡ 0)))

in_inside : (P : Pair → Type 0) (j off n : ℕ) (test : ℕ → Bool) (rest : List Pair) → ((k : ℕ) → k < n → P (pair j (off + 4 * k))) → AllByRecursion P rest → AllByRecursion P (map (pair j) (filter test (places 4 off n)) ++ rest)
in_inside P j off zero test rest each h = h
in_inside P j off (suc n) test rest each h =
    by (test off)
    (in_inside P j (off + 4) n test rest (λ k l. let e : off + 4 * suc k ≡ off + 4 + 4 * k = omega arith in subst (λ (o : ℕ). P (pair j o)) e (each (suc k) (omega (arith, l)))) h)
  where
    more : List ℕ
    more = filter test (places 4 (off + 4) n)

    by : (b : Bool) → AllByRecursion P (map (pair j) more ++ rest) → AllByRecursion P (map (pair j) (cond b (off ∷ more) more) ++ rest)
    by true later = let e : off + 4 * zero ≡ off = omega arith in (subst (λ (o : ℕ). P (pair j o)) e (each zero (omega arith)), later)
    by false later = later

abbrev pub sizes_in : List Function → List ℕ
sizes_in fs = map (λ (f : Function). f.size) fs

all_inside : (sizes : List ℕ) (j : ℕ) (fs : List Function) (rs : List Reloc) → j + length fs ≡ length sizes → ((k : ℕ) → slice_index sizes (j + k) ≡ slice_index (sizes_in fs) k) → AllByRecursion (IsInside sizes) (labels_from j fs rs)
all_inside sizes j [] rs many sized = tt
all_inside sizes j (f ∷ fs) rs many sized =
    in_inside (IsInside sizes) j 4 ((f.size - 1) / 4) (is_label f rs) (labels_from (suc j) fs rs)
    (λ k l. (omega (arith, many), (omega arith, (omega (arith, l, here), omega arith))))
    (all_inside sizes (suc j) fs rs (omega (arith, many)) (λ k. let e : j + suc k ≡ suc j + k = omega arith in ap (λ (i : ℕ). slice_index sizes i) (sym e) ∙ sized (suc k)))
  where
    here : slice_index sizes j ≡ f.size
    here = let e : j + zero ≡ j = omega arith in ap (λ (i : ℕ). slice_index sizes i) (sym e) ∙ sized zero

each_at : (P : Pair → Type 0) (qs : List Pair) (i : ℕ) (q : Pair) → AllByRecursion P qs → slice_get qs i ≡ Some q → P q
each_at P [] i q h e = absurd (cc)
each_at P (r ∷ qs) zero q h e = let k : r ≡ q = cc in subst P k h.0
each_at P (r ∷ qs) (suc i) q h e = each_at P qs i q h.1 e

length_sizes : (fs : List Function) → length (sizes_in fs) ≡ length fs
length_sizes [] = refl
length_sizes (f ∷ fs) = ap (λ (n : ℕ). suc n) (length_sizes fs)

inside_at : (fs : List Function) (rs : List Reloc) (i : ℕ) (q : Pair) → slice_get (labels_of fs rs) i ≡ Some q → IsInside (sizes_in fs) q
unfolding labels_of
inside_at fs rs i q e =
    each_at (IsInside (sizes_in fs)) (labels_from 0 fs rs) i q (all_inside (sizes_in fs) 0 fs rs (omega (arith, length_sizes fs)) (λ k. let z : 0 + k ≡ k = omega arith in ap (λ (n : ℕ). slice_index (sizes_in fs) n) z)) e

labels_rise : (fs : List Function) (rs : List Reloc) (i j : ℕ) (p q : Pair) → i < j → slice_get (labels_of fs rs) i ≡ Some p → slice_get (labels_of fs rs) j ≡ Some q → IsFrom p.func (suc p.off) q
unfolding labels_of
labels_rise fs rs i j p q l d e = rise_at 0 0 (labels_from 0 fs rs) i j p q (all_rise 0 fs rs) l d e

pub in_order : (fs : List Function) (rs : List Reloc) → AreInOrder (sizes_in fs) (rows_of fs rs) (labels_of fs rs)
in_order fs rs =
    record {
      rows_rise = rising_rows fs rs;
      labels_rise = λ i j p q l d e. labels_rise fs rs i j p q l d e;
      pairs = λ j p e. let h = inside_at fs rs j p e in record { func = h.0; off = omega (arith, h.1.1.0); whole = h.1.1.1 };
      inside = λ j p e. let h = inside_at fs rs j p e in (h.1.0, h.1.1.0);
    }

-- ---- and so by rising addresses

pub rising_homes : (fs : List Function) (rs : List Reloc) → AreApart fs → IsNonDecreasingBy (label_home fs) (labels_of fs rs)
rising_homes fs rs apart i j d le lt = elim (cases_lt i j) [
  | inl l ↦ less (get_or (labels_of fs rs) i d) (get_or (labels_of fs rs) j d) (inside_at fs rs i _ at_i) (inside_at fs rs j _ at_j) (labels_rise fs rs i j _ _ l at_i at_j)
  | inr g ↦ let e : i ≡ j = omega (arith, le, g) in let same : label_home fs (get_or (labels_of fs rs) i d) ≡ label_home fs (get_or (labels_of fs rs) j d) = ap (λ (k : ℕ). label_home fs (get_or (labels_of fs rs) k d)) e in omega (arith, same)
]
  where
    at_i : slice_get (labels_of fs rs) i ≡ Some (get_or (labels_of fs rs) i d)
    at_i = got (labels_of fs rs) i d (omega (arith, le, lt))

    at_j : slice_get (labels_of fs rs) j ≡ Some (get_or (labels_of fs rs) j d)
    at_j = got (labels_of fs rs) j d lt

    less : (p q : Pair) → IsInside (sizes_in fs) p → IsInside (sizes_in fs) q → IsFrom p.func (suc p.off) q → label_home fs p ≤ label_home fs q
    less p q hp hq (inl l) = let up = apart.apart p.func q.func l (omega (arith, hq.0, length_sizes fs)) in omega (arith, up, hp.1.1.0)
    less p q hp hq (inr h) =
        let same : home_in fs p.func ≡ home_in fs q.func = ap (λ (k : ℕ). home_in fs k) h.0 in omega (arith, same, h.1)

-- ---- there are fewer labels than words

in_few : (j off n : ℕ) (test : ℕ → Bool) (rest : List Pair) → length (map (pair j) (filter test (places 4 off n)) ++ rest) ≤ n + length rest
in_few j off zero test rest = omega arith
in_few j off (suc n) test rest = by (test off) (in_few j (off + 4) n test rest)
  where
    more : List ℕ
    more = filter test (places 4 (off + 4) n)

    by : (b : Bool) → length (map (pair j) more ++ rest) ≤ n + length rest → length (map (pair j) (cond b (off ∷ more) more) ++ rest) ≤ suc n + length rest
    by true later = omega (arith, later)
    by false later = omega (arith, later)

few : (j : ℕ) (fs : List Function) (rs : List Reloc) → 4 * length (labels_from j fs rs) ≤ sum_of (sizes_in fs)
few j [] rs = omega arith
few j (f ∷ fs) rs =
    let here = in_few j 4 ((f.size - 1) / 4) (is_label f rs) (labels_from (suc j) fs rs) in
    let rest = few (suc j) fs rs in
    omega (arith, here, rest)

pub few_labels : (fs : List Function) (rs : List Reloc) → 4 * length (labels_of fs rs) ≤ sum_of (sizes_in fs)
unfolding labels_of
few_labels fs rs = few 0 fs rs
