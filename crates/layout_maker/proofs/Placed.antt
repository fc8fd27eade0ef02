-- SPDX-License-Identifier: Apache-2.0
-- A layout is well placed.
use Rattle.std.proofs.Common.{◌≡◌, ◌≢◌, ◌⊎◌, inl, inr, ℕ, zero, suc, ◌+◌, ◌-◌, ◌*◌, ◌/◌, ◌%◌, ◌<◌, ◌≤◌, List, [], ◌∷◌, refl, sym, ap, ◌∙◌, subst, arith, length, Bool, true, false, take, sum_by, replicate, get_or-set_same, get_or-set_other, suc-mul, div-mul-le_self, mul_comm, take_all}
use Rattle.std.specs.Prelude.{slice_index, slice_set, ◌==◌}
use Rattle.std.specs.List.{range_with_len}
use Rattle.std.proofs.lemmas.Bool.Decides.{nat_tests}
use Rattle.std.proofs.lemmas.List.Sums.{sum_by-cons, sum_by_more}
use Rattle.std.proofs.lemmas.List.Sorted.{sum_by-IsPermutation}
use Rattle.std.proofs.lemmas.List.FromFn.{length-map-range_with_len}
use Rattle.sh_types.specs.declared.layouts.Layout.{Layout}
use Rattle.sh_types.specs.declared.code.Pair.{Pair}
use Rattle.sh_types.specs.Place.{WellPlaced, IsPair, place_of, cell_start}
use Rattle.layout_maker.specs.Draws.{draws_of, generator_of, from_draw}
use Rattle.layout_maker.specs.Cell.{cell_of}
use Rattle.layout_maker.specs.Order.{order_by}
use Rattle.layout_maker.specs.Spots.{share_of, gap_by, end_by, places_by}
use Rattle.sh_types.specs.Sized.{total}
use Rattle.layout_maker.specs.Layout.{placed_by, keys_by, layout_of}
use Rattle.sh_types.specs.Sized.{IsSized}
use Rattle.layout_maker.proofs.Spotting.{gap_le, places_length}
use Rattle.layout_maker.proofs.Orders.{order_permutes, order_length, order_below, order_has, order_apart}
use Rattle.layout_maker.proofs.Cells.{cell_below, cell_new}

set_whole : (xs : List ℕ) (i y : ℕ) → slice_index xs i % 4 ≡ 0 → y % 4 ≡ 0 → slice_index (slice_set xs i y) i % 4 ≡ 0
set_whole [] i y h k = h
set_whole (x ∷ xs) zero y h k = k
set_whole (x ∷ xs) (suc i) y h k = set_whole xs i y h k

module _ (d : ℕ → ℕ) (share : ℕ) (order sizes : List ℕ) (start : ℕ) where
  -- where the function at place p of the order begins
  abbrev spot : ℕ → ℕ
  spot p = end_by d share order sizes start p + gap_by d share p

  size_at : ℕ → ℕ
  size_at f = slice_index sizes f + 4

  end_suc : (p : ℕ) → end_by d share order sizes start (suc p) ≡ spot p + slice_index sizes (slice_index order p) + 4
  unfolding end_by
  end_suc p = refl

  end_up : (p q : ℕ) → p ≤ q → end_by d share order sizes start p ≤ end_by d share order sizes start q
  end_up p zero h = let e : p ≡ 0 = omega arith in rw e (omega arith)
  end_up p (suc q) h = by (p == suc q) refl (λ l. end_up p q l)
    where
      by : (b : Bool) → (p == suc q) ≡ b → (p ≤ q → end_by d share order sizes start p ≤ end_by d share order sizes start q) → end_by d share order sizes start p ≤ end_by d share order sizes start (suc q)
      by true e rest = let z : p ≡ suc q = grind (arith, nat_tests) in rw z (omega arith)
      by false e rest = let l : p ≤ q = grind (arith, nat_tests) in omega (arith, rest l, end_suc q)

  end_whole : (p : ℕ) → start % 4 ≡ 0 → ((i : ℕ) → slice_index sizes i % 4 ≡ 0) → end_by d share order sizes start p % 4 ≡ 0
  unfolding end_by
  end_whole zero w ws = w
  end_whole (suc p) w ws = omega (arith, end_whole p w ws, ws (slice_index order p))

  end_low : (p : ℕ) → start ≤ end_by d share order sizes start p
  unfolding end_by
  end_low zero = omega arith
  end_low (suc p) = omega (arith, end_low p)

  end_high : (p : ℕ) → p ≤ length order → end_by d share order sizes start p ≤ start + p * share + sum_by (λ f. slice_index sizes f + 4) (take p order)
  unfolding end_by
  end_high zero h = omega arith
  end_high (suc p) h =
      let m : sum_by (λ f. slice_index sizes f + 4) (take (p + 1) order) ≡ sum_by (λ f. slice_index sizes f + 4) (take p order) + (slice_index sizes (slice_index order p) + 4) = sum_by_more (λ f. slice_index sizes f + 4) order p 0 (omega arith) in
      let n : sum_by (λ f. slice_index sizes f + 4) (take (suc p) order) ≡ sum_by (λ f. slice_index sizes f + 4) (take p order) + (slice_index sizes (slice_index order p) + 4) = ap (λ n. sum_by (λ f. slice_index sizes f + 4) (take n order)) {x = suc p} {y = p + 1} (omega arith) ∙ m in
      omega (arith, end_high p (omega arith), gap_le d share p, suc-mul p share, n)

  zero_at : (n i : ℕ) → slice_index (replicate n 0) i ≡ 0
  zero_at zero i = refl
  zero_at (suc n) zero = refl
  zero_at (suc n) (suc i) = zero_at n i

  places_whole : (p i : ℕ) → start % 4 ≡ 0 → ((i : ℕ) → slice_index sizes i % 4 ≡ 0) → slice_index (places_by d share order sizes start p) i % 4 ≡ 0
  unfolding places_by
  places_whole zero i w ws = omega (arith, zero_at (length sizes) i)
  places_whole (suc p) i w ws = by (places_whole p i w ws) (end_whole p w ws) (i == slice_index order p) refl
    where
      by : slice_index (places_by d share order sizes start p) i % 4 ≡ 0 → end_by d share order sizes start p % 4 ≡ 0 → (b : Bool) → (i == slice_index order p) ≡ b → slice_index (slice_set (places_by d share order sizes start p) (slice_index order p) (spot p)) i % 4 ≡ 0
      by rest we false e =
          let ne : i ≢ slice_index order p = grind (arith, nat_tests) in
          omega (arith, rest, get_or-set_other (places_by d share order sizes start p) (slice_index order p) i (spot p) 0 ne)
      by rest we true e =
          let q : i ≡ slice_index order p = grind (arith, nat_tests) in
          rw q (set_whole (places_by d share order sizes start p) (slice_index order p) (spot p) (rw q at rest) (omega (arith, we)))

  -- where a function of the order lies
  place_at : (n m p : ℕ) → m ≤ n → p < m → ((p q : ℕ) → p < q → q < n → slice_index order p ≢ slice_index order q) → ((p : ℕ) → p < n → slice_index order p < length sizes) → slice_index (places_by d share order sizes start m) (slice_index order p) ≡ spot p
  unfolding places_by
  place_at n zero p le lt apart below = absurd (omega arith)
  place_at n (suc m) p le lt apart below = by (λ l. place_at n m p (omega arith) l apart below) (p == m) refl
    where
      by : (p < m → slice_index (places_by d share order sizes start m) (slice_index order p) ≡ spot p) → (b : Bool) → (p == m) ≡ b → slice_index (slice_set (places_by d share order sizes start m) (slice_index order m) (spot m)) (slice_index order p) ≡ spot p
      by rest true e =
          let q : p ≡ m = grind (arith, nat_tests) in
          rw q (get_or-set_same (places_by d share order sizes start m) (slice_index order m) (spot m) 0 (omega (arith, places_length d share order sizes start m, below m (omega arith))))
      by rest false e =
          let l : p < m = grind (arith, nat_tests) in
          get_or-set_other (places_by d share order sizes start m) (slice_index order m) (slice_index order p) (spot m) 0 (apart p m l (omega arith)) ∙ rest l

-- the sizes in the order make the same sum
sizes_sum : (xs ss : List ℕ) (a : ℕ) → ((i : ℕ) → slice_index xs (a + i) ≡ slice_index ss i) → sum_by (λ f. slice_index xs f + 4) (range_with_len a (length ss)) ≡ total ss
sizes_sum xs [] a h = refl
sizes_sum xs (s ∷ ss) a h =
    let here : slice_index xs a ≡ s = ap (slice_index xs) {x = a} {y = a + 0} (omega arith) ∙ h 0 in
    let rest = sizes_sum xs ss (a + 1) (λ i. ap (slice_index xs) {x = a + 1 + i} {y = a + suc i} (omega arith) ∙ h (suc i)) in
    sum_by-cons (λ f. slice_index xs f + 4) a (range_with_len (a + 1) (length ss)) ∙ omega (arith, here, rest)

share_fits : (t n : ℕ) → t ≤ 1048576 → n * share_of t n + t ≤ 1048576
share_fits t n h = omega (arith, div-mul-le_self (1048576 - t) n, mul_comm n ((1048576 - t) / n))

order_sum : (d : ℕ → ℕ) (sizes : List ℕ) → 0 < length sizes → sum_by (λ f. slice_index sizes f + 4) (take (length sizes) (order_by d (length sizes))) ≡ total sizes
order_sum d sizes some =
    ap (sum_by (λ f. slice_index sizes f + 4)) (take_all (length sizes) (order_by d (length sizes)) (omega (arith, order_length d (length sizes))))
    ∙ sum_by-IsPermutation (λ f. slice_index sizes f + 4) (range_with_len 0 (length sizes)) (order_by d (length sizes)) (order_permutes d (length sizes) some)
    ∙ sizes_sum sizes sizes 0 (λ i. ap (slice_index sizes) {x = 0 + i} {y = i} (omega arith))

-- ---- all in one: the places of functions of these sizes

module _ (d : ℕ → ℕ) (sizes : List ℕ) (start : ℕ) (z : IsSized sizes) (w : start % 4 ≡ 0) where
  abbrev gaps : ℕ → ℕ
  gaps = from_draw (length sizes - 1) d

  abbrev order : List ℕ
  order = order_by d (length sizes)

  abbrev share : ℕ
  share = share_of (total sizes) (length sizes)

  abbrev ends : ℕ → ℕ
  ends = end_by gaps share order sizes start

  abbrev placed : List ℕ
  placed = placed_by d sizes start

  placed_length : length placed ≡ length sizes
  unfolding placed_by
  placed_length = places_length _ _ _ _ _ _

  placed_whole : (i : ℕ) → slice_index placed i % 4 ≡ 0
  unfolding placed_by
  placed_whole i = places_whole gaps share order sizes start (length sizes) i w z.whole

  placed_spot : (p : ℕ) → p < length sizes → slice_index placed (slice_index order p) ≡ ends p + gap_by gaps share p
  unfolding placed_by
  placed_spot p h =
      place_at gaps share order sizes start (length sizes) (length sizes) p (omega arith) h (λ p q l m. order_apart d (length sizes) p q l m) (λ p l. order_below d (length sizes) p z.some (omega (arith, order_length d (length sizes))))

  ends_suc : (p : ℕ) → ends (suc p) ≡ ends p + gap_by gaps share p + slice_index sizes (slice_index order p) + 4
  ends_suc p = end_suc gaps share order sizes start p

  ends_up : (p q : ℕ) → p ≤ q → ends p ≤ ends q
  ends_up p q h = end_up gaps share order sizes start p q h

  ends_low : (p : ℕ) → start ≤ ends p
  ends_low p = end_low gaps share order sizes start p

  ends_high : ends (length sizes) ≤ start + 1048576
  ends_high =
      omega (arith, end_high gaps share order sizes start (length sizes) (omega (arith, order_length d (length sizes))), order_sum d sizes z.some, share_fits (total sizes) (length sizes) z.fits, z.fits)

  -- what is said of the place of a function
  record Spotted (f : ℕ) : Type 0 where
    at : ℕ
    below : at < length sizes
    place : slice_index placed f ≡ ends at + gap_by gaps share at
    end : slice_index placed f + slice_index sizes f + 4 ≡ ends (suc at)
    is : slice_index order at ≡ f

  spotted : (f : ℕ) → f < length sizes → Spotted f
  spotted f h =
      let p = order_has d (length sizes) f h in
      let s : slice_index placed f ≡ ends p.0 + gap_by gaps share p.0 = subst (λ f. slice_index placed f ≡ ends p.0 + gap_by gaps share p.0) p.2 (placed_spot p.0 p.1) in
      let e : ends (suc p.0) ≡ ends p.0 + gap_by gaps share p.0 + slice_index sizes f + 4 = subst (λ f. ends (suc p.0) ≡ ends p.0 + gap_by gaps share p.0 + slice_index sizes f + 4) p.2 (ends_suc p.0) in
      record { at = p.0; below = p.1; place = s; end = omega (arith, s, e); is = p.2 }

  placed_inside : (f : ℕ) → f < length sizes → (start ≤ slice_index placed f) × (slice_index placed f + slice_index sizes f + 4 ≤ start + 1048576)
  placed_inside f h =
      let s = spotted f h in
      let low = ends_low s.at in
      let up = ends_up (suc s.at) (length sizes) s.below in
      let high = ends_high in
      (omega (arith, low, s.place), omega (arith, up, high, s.end))

  placed_apart : (i j : ℕ) → i < length sizes → j < length sizes → i ≢ j → (slice_index placed i + slice_index sizes i + 4 ≤ slice_index placed j) ⊎ (slice_index placed j + slice_index sizes j + 4 ≤ slice_index placed i)
  placed_apart i j hi hj ne =
      let s = spotted i hi in
      let t = spotted j hj in
      let differ : s.at ≢ t.at = λ e. ne (sym s.is ∙ ap (slice_index order) e ∙ t.is) in
      elim (either s.at t.at differ) [ inl l ↦ inl (omega (arith, ends_up (suc s.at) t.at l, s.end, t.place)) | inr l ↦ inr (omega (arith, ends_up (suc t.at) s.at l, t.end, s.place)) ]
    where
      either : (i j : ℕ) → i ≢ j → (i < j) ⊎ (j < i)
      either i j ne = grind arith

keys_length : (d : ℕ → ℕ) → length (keys_by d) ≡ 64
unfolding keys_by
keys_length d = length-map-range_with_len d 0 64

start_whole : (c : ℕ) → cell_start c % 4 ≡ 0
start_whole c = omega arith

-- a layout is well placed
pub layout_placed : (sizes seed : List ℕ) (k : ℕ) → IsSized sizes → WellPlaced (layout_of sizes seed k)
unfolding layout_of
layout_placed sizes seed k z =
    let d : ℕ → ℕ = from_draw 1 (draws_of (generator_of seed k)) in
    let s : ℕ = cell_start (cell_of seed k) in
    let w : s % 4 ≡ 0 = start_whole (cell_of seed k) in
    let l = placed_length d sizes s z w in
    record {
      many = l;
      few = omega (arith, l, z.few);
      cell = cell_below seed k;
      keys = keys_length _;
      whole = λ i. placed_whole d sizes s z w i;
      whole_sizes = z.whole;
      apart = λ i j hi hj ne. placed_apart d sizes s z w i j (omega (arith, l)) (omega (arith, l)) ne;
      inside = λ i hi. placed_inside d sizes s z w i (omega (arith, l));
    }

pub layout_cell : (sizes seed : List ℕ) (k : ℕ) → (layout_of sizes seed k).cell ≡ cell_of seed k
unfolding layout_of
layout_cell sizes seed k = refl

pub layout_sizes : (sizes seed : List ℕ) (k : ℕ) → (layout_of sizes seed k).sizes ≡ sizes
unfolding layout_of
layout_sizes sizes seed k = refl

in_cell : (l : Layout) (p : Pair) → WellPlaced l → IsPair l.sizes p → (cell_start l.cell ≤ place_of l p) × (place_of l p < cell_start l.cell + 1048576)
in_cell l p w i = let b = w.inside p.func (omega (arith, i.func, w.many)) in (omega (arith, b.0), omega (arith, b.1, i.off))

-- a place of a layout is a place of none of the next 64
pub places_new : (sizes seed : List ℕ) (k m : ℕ) (p q : Pair) → IsSized sizes → 0 < k → k < m → m ≤ k + 64 → IsPair sizes p → IsPair sizes q → place_of (layout_of sizes seed k) p ≢ place_of (layout_of sizes seed m) q
places_new sizes seed k m p q z some lt le ip iq e =
    let a = in_cell (layout_of sizes seed k) p (layout_placed sizes seed k z) (subst (λ s. IsPair s p) (sym (layout_sizes sizes seed k)) ip) in
    let b = in_cell (layout_of sizes seed m) q (layout_placed sizes seed m z) (subst (λ s. IsPair s q) (sym (layout_sizes sizes seed m)) iq) in
    cell_new seed k m some lt le (omega (arith, a.0, a.1, b.0, b.1, e, layout_cell sizes seed k, layout_cell sizes seed m))
