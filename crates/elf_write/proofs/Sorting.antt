-- SPDX-License-Identifier: Apache-2.0
-- A stable sort by places is the only list that rises and has the marks of each place in their order.
use Rattle.std.proofs.Common.{◌≡◌, ℕ, zero, suc, ◌+◌, ◌<◌, ◌≤◌, Bool, true, false, cond, List, [], ◌∷◌, length, get_or, refl, sym, ap, ◌∙◌, arith, inl, inr}
use Rattle.std.specs.Prelude.{◌==◌, ◌&&◌, ◌⊎◌, nat_le, nat_lt, not, filter}
use Rattle.std.specs.List.{All}
use Rattle.std.specs.List.Sorted.{IsNonDecreasingBy, IsStableByKey, ties}
use Rattle.std.specs.Ordering.{is_lt, nat_cmp}
use Rattle.std.proofs.lemmas.Bool.{cases_Bool}
use Rattle.std.proofs.lemmas.Bool.Decides.{nat_tests}
use Rattle.std.proofs.lemmas.List.Elements.{All-cons, All-tail, filter_agree}
use Rattle.sh_types.specs.declared.objects.Mark.{Mark}
use Rattle.elf_write.specs.Parts.{put_by_place, by_place}

place_of : Mark → ℕ
place_of m = m.at

abbrev is_at : ℕ → Mark → Bool
is_at p m = m.at == p

-- each stands no higher than those behind it
unfoldable Rise : List Mark → Type 0
Rise [] = Unit {0}
Rise (m ∷ ms) = All (λ (n : Mark). m.at ≤ n.at) ms × Rise ms

-- ---- the sorted list

length_put : (m : Mark) (ms : List Mark) → length (put_by_place m ms) ≡ suc (length ms)
length_put m [] = refl
length_put m (n ∷ ns) =
    elim (cases_Bool (nat_le m.at n.at)) [
      | inl e ↦ rw e refl
      | inr e ↦ rw e (ap suc (length_put m ns))
    ]

pub length_by_place : (ms : List Mark) → length (by_place ms) ≡ length ms
length_by_place [] = refl
length_by_place (m ∷ ms) = length_put m (by_place ms) ∙ ap suc (length_by_place ms)

all_put : (P : Mark → Type 0) (m : Mark) (ms : List Mark) → P m → All P ms → All P (put_by_place m ms)
all_put P m [] one all = All-cons P m [] one all
all_put P m (n ∷ ns) one all =
    elim (cases_Bool (nat_le m.at n.at)) [
      | inl e ↦ rw e (All-cons P m (n ∷ ns) one all)
      | inr e ↦ rw e (All-cons P n (put_by_place m ns) (all 0 n (omega arith)) (all_put P m ns one (All-tail P n ns all)))
    ]

pub all_by_place : (P : Mark → Type 0) (ms : List Mark) → All P ms → All P (by_place ms)
all_by_place P [] all = all
all_by_place P (m ∷ ms) all =
    all_put P m (by_place ms) (all 0 m (omega arith)) (all_by_place P ms (All-tail P m ms all))

at_most : (a b : ℕ) → nat_le a b ≡ true → a ≤ b
at_most a b e = grind (arith, nat_tests)

above : (a b : ℕ) → nat_le a b ≡ false → b ≤ a
above a b e = grind (arith, nat_tests)

put_rises : (m : Mark) (ms : List Mark) → Rise ms → Rise (put_by_place m ms)
unfolding Rise
put_rises m [] rise = (λ k d lt. absurd (omega (arith, lt)), rise)
put_rises m (n ∷ ns) rise =
    elim (cases_Bool (nat_le m.at n.at)) [
      | inl e ↦ rw e (
        All-cons (λ (x : Mark). m.at ≤ x.at) n ns (at_most m.at n.at e) (λ k d lt. let low : m.at ≤ n.at = at_most m.at n.at e in let up = rise.0 k d lt in omega arith),
        rise,
      )
      | inr e ↦ rw e (all_put (λ (x : Mark). n.at ≤ x.at) m ns (above m.at n.at e) rise.0, put_rises m ns rise.1)
    ]

sorted_rises : (ms : List Mark) → Rise (by_place ms)
unfolding Rise
sorted_rises [] = tt
sorted_rises (m ∷ ms) = put_rises m (by_place ms) (sorted_rises ms)

-- a mark goes in front of those of its own place
put_same : (p : ℕ) (m : Mark) (ms : List Mark) → filter (is_at p) (put_by_place m ms) ≡ cond (is_at p m) (m ∷ filter (is_at p) ms) (filter (is_at p) ms)
put_same p m [] = refl
put_same p m (n ∷ ns) =
    elim (cases_Bool (nat_le m.at n.at)) [
      | inl e ↦ rw e refl
      | inr e ↦ rw e (behind (above_less m.at n.at e) (put_same p m ns))
    ]
  where
    above_less : (a b : ℕ) → nat_le a b ≡ false → b < a
    above_less a b e = grind (arith, nat_tests)

    apart : (a b : ℕ) → b < a → (a == p) ≡ true → (b == p) ≡ false
    apart a b lt e = grind (arith, nat_tests)

    behind : n.at < m.at → filter (is_at p) (put_by_place m ns) ≡ cond (is_at p m) (m ∷ filter (is_at p) ns) (filter (is_at p) ns)
        → cond (is_at p n) (n ∷ filter (is_at p) (put_by_place m ns)) (filter (is_at p) (put_by_place m ns))
        ≡ cond (is_at p m) (m ∷ cond (is_at p n) (n ∷ filter (is_at p) ns) (filter (is_at p) ns)) (cond (is_at p n) (n ∷ filter (is_at p) ns) (filter (is_at p) ns))
    behind lt rest =
        elim (cases_Bool (m.at == p)) [
          | inl e ↦ let f = apart m.at n.at lt e in rw (e, f) (rw e at rest)
          | inr e ↦ rw e (ap (λ (xs : List Mark). cond (is_at p n) (n ∷ xs) xs) (rw e at rest))
        ]

sorted_same : (p : ℕ) (ms : List Mark) → filter (is_at p) (by_place ms) ≡ filter (is_at p) ms
sorted_same p [] = refl
sorted_same p (m ∷ ms) = put_same p m (by_place ms) ∙ ap (λ (xs : List Mark). cond (is_at p m) (m ∷ xs) xs) (sorted_same p ms)

-- ---- there is one

none_at : (p : ℕ) (ms : List Mark) → All (λ (n : Mark). p < n.at) ms → filter (is_at p) ms ≡ []
none_at p [] all = refl
none_at p (m ∷ ms) all =
    let off : is_at p m ≡ false = other m.at p (all 0 m (omega arith)) in
    rw off (none_at p ms (All-tail (λ (n : Mark). p < n.at) m ms all))
  where
    other : (a p : ℕ) → p < a → (a == p) ≡ false
    other a p lt = grind (arith, nat_tests)

here : (a : ℕ) → (a == a) ≡ true
here a = grind (arith, nat_tests)

-- of two lists that rise, with the marks of each place alike, no first mark is lower
not_lower : (x y : Mark) (xs ys : List Mark) → Rise (y ∷ ys) → filter (is_at x.at) (x ∷ xs) ≡ filter (is_at x.at) (y ∷ ys) → y.at ≤ x.at
unfolding Rise
not_lower x y xs ys rise e =
    elim (cases_Bool (nat_le y.at x.at)) [
      | inl low ↦ at_most y.at x.at low
      | inr high ↦
          let lt : x.at < y.at = less y.at x.at high in
          let none = none_at x.at (y ∷ ys) (All-cons (λ (n : Mark). x.at < n.at) y ys lt (λ k d inside. let up = rise.0 k d inside in omega arith)) in
          let some : filter (is_at x.at) (x ∷ xs) ≡ x ∷ filter (is_at x.at) xs = rw (here x.at) refl in
          absurd (cc)
    ]
  where
    less : (a b : ℕ) → nat_le a b ≡ false → b < a
    less a b e = grind (arith, nat_tests)

tail_rises : (m : Mark) (ms : List Mark) → Rise (m ∷ ms) → Rise ms
unfolding Rise
tail_rises m ms rise = rise.1

same : (xs ys : List Mark) → Rise xs → Rise ys → ((p : ℕ) → filter (is_at p) xs ≡ filter (is_at p) ys) → xs ≡ ys
same [] [] rx ry e = refl
same [] (y ∷ ys) rx ry e =
    let some : filter (is_at y.at) (y ∷ ys) ≡ y ∷ filter (is_at y.at) ys = rw (here y.at) refl in
    let none = e y.at in
    absurd (cc)
same (x ∷ xs) [] rx ry e =
    let some : filter (is_at x.at) (x ∷ xs) ≡ x ∷ filter (is_at x.at) xs = rw (here x.at) refl in
    let none = e x.at in
    absurd (cc)
same (x ∷ xs) (y ∷ ys) rx ry e =
    let low : y.at ≤ x.at = not_lower x y xs ys ry (e x.at) in
    let high : x.at ≤ y.at = not_lower y x ys xs rx (sym (e y.at)) in
    let at : x.at ≡ y.at = omega arith in
    let first : x ∷ filter (is_at x.at) xs ≡ y ∷ filter (is_at x.at) ys = heads at (e x.at) in
    let head : x ≡ y = cc in
    let rest : xs ≡ ys = same xs ys (tail_rises x xs rx) (tail_rises y ys ry) (λ p. tails p head (e p)) in
    cc
  where
    heads : x.at ≡ y.at → filter (is_at x.at) (x ∷ xs) ≡ filter (is_at x.at) (y ∷ ys) → x ∷ filter (is_at x.at) xs ≡ y ∷ filter (is_at x.at) ys
    heads at e =
        let left : filter (is_at x.at) (x ∷ xs) ≡ x ∷ filter (is_at x.at) xs = rw (here x.at) refl in
        let there : is_at x.at y ≡ true = rw at (here y.at) in
        let right : filter (is_at x.at) (y ∷ ys) ≡ y ∷ filter (is_at x.at) ys = rw there refl in
        cc

    tails : (p : ℕ) → x ≡ y → filter (is_at p) (x ∷ xs) ≡ filter (is_at p) (y ∷ ys) → filter (is_at p) xs ≡ filter (is_at p) ys
    tails p head e =
        elim (cases_Bool (is_at p x)) [
          | inl here ↦
              let left : filter (is_at p) (x ∷ xs) ≡ x ∷ filter (is_at p) xs = rw here refl in
              let there : is_at p y ≡ true = rw (sym head) here in
              let right : filter (is_at p) (y ∷ ys) ≡ y ∷ filter (is_at p) ys = rw there refl in
              cc
          | inr off ↦
              let left : filter (is_at p) (x ∷ xs) ≡ filter (is_at p) xs = rw off refl in
              let there : is_at p y ≡ false = rw (sym head) off in
              let right : filter (is_at p) (y ∷ ys) ≡ filter (is_at p) ys = rw there refl in
              cc
        ]

-- ---- what the sort of the standard library gives

rises_by : (ms : List Mark) → IsNonDecreasingBy (λ (m : Mark). m.at) ms → Rise ms
unfolding Rise
rises_by [] by = tt
rises_by (m ∷ ms) by =
    (λ k d lt. by 0 (suc k) d (omega arith) (omega (arith, lt)), rises_by ms (λ i j d le lt. by (suc i) (suc j) d (omega arith) (omega (arith, lt))))

stable_at : (xs ys : List Mark) (p : ℕ) → IsStableByKey (λ (m : Mark). m.at) nat_cmp xs ys → filter (is_at p) ys ≡ filter (is_at p) xs
stable_at xs ys p stable =
    let x : Mark = record { in_text = true; at = p; kind = 0; symbol = 0 } in
    let lt = λ (a : Mark) (b : Mark). is_lt (nat_cmp a.at b.at) in
    filter_agree (is_at p) (ties lt x) (λ m. tie m) ys ∙ stable x ∙ sym (filter_agree (is_at p) (ties lt x) (λ m. tie m) xs)
  where
    tie : (m : Mark) → (m.at == p) ≡ (not (is_lt (nat_cmp p m.at)) && not (is_lt (nat_cmp m.at p)))
    tie m = grind (arith, nat_tests)

pub sorted_by_place : (xs ys : List Mark) → IsNonDecreasingBy (λ (m : Mark). m.at) ys → IsStableByKey (λ (m : Mark). m.at) nat_cmp xs ys → ys ≡ by_place xs
sorted_by_place xs ys by stable =
    same ys (by_place xs) (rises_by ys by) (sorted_rises xs) (λ p. stable_at xs ys p stable ∙ sym (sorted_same p xs))
