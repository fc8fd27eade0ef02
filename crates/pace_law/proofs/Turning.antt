-- SPDX-License-Identifier: Apache-2.0
-- A turn: its events are allowed, and its instructions are as many as its hart can go.
use Rattle.std.proofs.Common.{◌≡◌, ◌⊎◌, inl, inr, ℕ, zero, suc, ◌+◌, ◌-◌, ◌==◌, ◌&&◌, ◌≤◌, ◌<◌, ◌||◌, nat_lt, Bool, true, false, not, List, [], ◌∷◌, ◌++◌, length, replicate, refl, sym, ap, ◌∙◌, subst, arith}
use Rattle.std.specs.Prelude.{slice_get, nat_le, if◌then◌else◌}
use Rattle.std.proofs.lemmas.Bool.Decides.{nat_tests}
use Rattle.sh_types.specs.declared.code.Image.{Image}
use Rattle.sh_types.specs.declared.runs.Event.TheVariants.{Run}
use Rattle.sh_machines.specs.Event.{written}
use Rattle.sh_machines.specs.Next.{all_go, all_may}
use Rattle.sh_machines.specs.Pace.{Pace, live_from, is_among, paced_on}
use Rattle.sh_machines.specs.PlainSerial.{goes_for}
use Rattle.sh_machines.specs.Serial.{calls_next, further, run_length, turn_in, first_or, next_from, next_hart}
use Rattle.sh_machines.specs.Unmoved.{Thread, Unmoved, any_alive, goes_still, is_alive, can_go, unmoved_step, unmoved_from}
use Rattle.sh_law.proofs.Trailing.{IsIn, among_live}
use Rattle.pace_law.proofs.Alive.{StillLive}
use Rattle.pace_law.proofs.Bools.{and_first, and_second, both_true}
use Rattle.pace_law.proofs.Length.{length_few, length_some}
use Rattle.pace_law.proofs.Serials.{same_test}

pub lt_of : (n : ℕ) → 1 ≤ n → nat_lt 0 n ≡ true
lt_of n l = grind (arith, nat_tests)

pub some_of : (n : ℕ) → nat_lt 0 n ≡ true → 1 ≤ n
some_of n e = grind (arith, nat_tests)

none_of : (n : ℕ) → nat_lt 0 n ≡ false → n ≡ 0
none_of n e = grind (arith, nat_tests)

-- ---- instructions of one hart

further_go : (i : Image) (h k : ℕ) (u : Unmoved) → all_go i (replicate (further i h k u) h) u ≡ true
further_go i h zero u = refl
further_go i h (suc k) u = by (can_go u h && not (calls_next i u h)) refl (further_go i h k (unmoved_step i h u))
  where
    by : (b : Bool) → (can_go u h && not (calls_next i u h)) ≡ b → all_go i (replicate (further i h k (unmoved_step i h u)) h) (unmoved_step i h u) ≡ true → all_go i (replicate (if b then suc (further i h k (unmoved_step i h u)) else 0) h) u ≡ true
    by true e ih = both_true _ _ (and_first _ _ e) ih
    by false e ih = refl

-- those of a Run event can go
pub run_go : (i : Image) (h k : ℕ) (u : Unmoved) → can_go u h ≡ true → all_go i (replicate (run_length i h k u) h) u ≡ true
run_go i h zero u c = refl
run_go i h (suc k) u c = both_true _ _ c (further_go i h k (unmoved_step i h u))

-- those that can go come first
goes_on : (i : Image) (h m k : ℕ) (u : Unmoved) → m ≤ k → all_go i (replicate m h) u ≡ true → goes_for i h k u ≡ m + goes_for i h (k - m) (unmoved_from i (replicate m h) u)
goes_on i h zero k u l e = let a : k - 0 ≡ k = omega arith in let b : (n : ℕ) → n ≡ 0 + n = (λ n. omega arith) in sym (ap (λ j. goes_for i h j u) a) ∙ b _
goes_on i h (suc m) zero u l e = absurd (omega (arith, l))
goes_on i h (suc m) (suc k) u l e =
    let c : can_go u h ≡ true = and_first _ _ e in
    let ih = goes_on i h m k (unmoved_step i h u) (omega (arith, l)) (and_second (can_go u h) _ e) in
    let q : k - m ≡ suc k - suc m = omega arith in
    let z : (n : ℕ) → suc (m + n) ≡ suc m + n = (λ n. omega arith) in
    ap (λ b. if b then suc (goes_for i h k (unmoved_step i h u)) else 0) c
    ∙ ap suc ih
    ∙ z _
    ∙ ap (λ j. suc m + goes_for i h j (unmoved_from i (replicate m h) (unmoved_step i h u))) q

pub goes_few : (i : Image) (h k : ℕ) (u : Unmoved) → goes_for i h k u ≤ k
goes_few i h zero u = omega arith
goes_few i h (suc k) u = by (can_go u h) (goes_few i h k (unmoved_step i h u))
  where
    by : (b : Bool) → goes_for i h k (unmoved_step i h u) ≤ k → (if b then suc (goes_for i h k (unmoved_step i h u)) else 0) ≤ suc k
    by true ih = omega (arith, ih)
    by false ih = omega arith

pub goes_some : (i : Image) (h k : ℕ) (u : Unmoved) → 1 ≤ k → can_go u h ≡ true → 1 ≤ goes_for i h k u
goes_some i h zero u l c = absurd (omega (arith, l))
goes_some i h (suc k) u l c = subst (λ b. 1 ≤ (if b then suc (goes_for i h k (unmoved_step i h u)) else 0)) (sym c) (omega arith)

pub goes_all : (i : Image) (h k : ℕ) (u : Unmoved) → all_go i (replicate (goes_for i h k u) h) u ≡ true
goes_all i h zero u = refl
goes_all i h (suc k) u = by (can_go u h) refl (goes_all i h k (unmoved_step i h u))
  where
    by : (b : Bool) → can_go u h ≡ b → all_go i (replicate (goes_for i h k (unmoved_step i h u)) h) (unmoved_step i h u) ≡ true → all_go i (replicate (if b then suc (goes_for i h k (unmoved_step i h u)) else 0) h) u ≡ true
    by true e ih = both_true _ _ e ih
    by false e ih = refl

-- a limit that is not reached is none
pub goes_within : (i : Image) (h m k : ℕ) (u : Unmoved) → m ≤ k → goes_for i h k u ≤ m → goes_for i h m u ≡ goes_for i h k u
goes_within i h zero zero u l f = refl
goes_within i h (suc m) zero u l f = absurd (omega (arith, l))
goes_within i h zero (suc k) u l f = omega (arith, f)
goes_within i h (suc m) (suc k) u l f = by (can_go u h) (λ g. goes_within i h m k (unmoved_step i h u) (omega (arith, l)) g) f
  where
    by : (b : Bool) → (goes_for i h k (unmoved_step i h u) ≤ m → goes_for i h m (unmoved_step i h u) ≡ goes_for i h k (unmoved_step i h u)) → (if b then suc (goes_for i h k (unmoved_step i h u)) else 0) ≤ suc m → (if b then suc (goes_for i h m (unmoved_step i h u)) else 0) ≡ (if b then suc (goes_for i h k (unmoved_step i h u)) else 0)
    by true ih f = ap suc (ih (omega (arith, f)))
    by false ih f = refl

-- ---- the events of a turn

twice : (n m h : ℕ) → replicate n h ++ replicate m h ≡ replicate (n + m) h
twice zero m h = let q : m ≡ 0 + m = omega arith in ap (λ k. replicate k h) q
twice (suc n) m h = let q : suc (n + m) ≡ suc n + m = omega arith in ap (λ ks. h ∷ ks) (twice n m h) ∙ ap (λ k. replicate k h) q

pub turn_written : (i : Image) (h k left : ℕ) (b : Pace) → left ≤ k → written (turn_in i h k left b) ≡ replicate (goes_for i h left b.guest) h
turn_written i h zero left b l = let z : 0 ≡ left = omega (arith, l) in ap (λ j. replicate (goes_for i h j b.guest) h) z
turn_written i h (suc k) left b l = by (nat_lt 0 left) (can_go b.guest h) refl refl (λ s. turn_written i h k (left - run_length i h left b.guest) (paced_on i (Run h (run_length i h left b.guest)) b) (less s))
  where
    less : 1 ≤ left → left - run_length i h left b.guest ≤ k
    less s = omega (arith, l, length_some i h left b.guest s)

    by : (x y : Bool) → nat_lt 0 left ≡ x → can_go b.guest h ≡ y → (1 ≤ left → written (turn_in i h k (left - run_length i h left b.guest) (paced_on i (Run h (run_length i h left b.guest)) b)) ≡ replicate (goes_for i h (left - run_length i h left b.guest) (unmoved_from i (replicate (run_length i h left b.guest) h) b.guest)) h) → written (if x && y then (Run h (run_length i h left b.guest) ∷ turn_in i h k (left - run_length i h left b.guest) (paced_on i (Run h (run_length i h left b.guest)) b)) else []) ≡ replicate (goes_for i h left b.guest) h
    by true true e c ih =
        let few : run_length i h left b.guest ≤ left = length_few i h left b.guest in
        ap (λ ns. replicate (run_length i h left b.guest) h ++ ns) (ih (some_of left e))
        ∙ twice (run_length i h left b.guest) _ h
        ∙ ap (λ j. replicate j h) (sym (goes_on i h (run_length i h left b.guest) left b.guest few (run_go i h left b.guest c)))
    by true false e c ih = sym (ap (λ j. replicate j h) (stops left))
      where
        stops : (j : ℕ) → goes_for i h j b.guest ≡ 0
        stops zero = refl
        stops (suc j) = ap (λ x. if x then suc (goes_for i h j (unmoved_step i h b.guest)) else 0) c
    by false y e c ih = ap (λ j. replicate (goes_for i h j b.guest) h) (sym (none_of left e))

pub turn_may : (i : Image) (h k left : ℕ) (b : Pace) → all_may i (turn_in i h k left b) b ≡ true
turn_may i h zero left b = refl
turn_may i h (suc k) left b = by (nat_lt 0 left && can_go b.guest h) refl (turn_may i h k (left - run_length i h left b.guest) (paced_on i (Run h (run_length i h left b.guest)) b))
  where
    by : (x : Bool) → (nat_lt 0 left && can_go b.guest h) ≡ x → all_may i (turn_in i h k (left - run_length i h left b.guest) (paced_on i (Run h (run_length i h left b.guest)) b)) (paced_on i (Run h (run_length i h left b.guest)) b) ≡ true → all_may i (if x then (Run h (run_length i h left b.guest) ∷ turn_in i h k (left - run_length i h left b.guest) (paced_on i (Run h (run_length i h left b.guest)) b)) else []) b ≡ true
    by true e ih =
        both_true _ _ (both_true _ _ (lt_of _ (length_some i h left b.guest (some_of left (and_first _ _ e)))) (run_go i h left b.guest (and_second (nat_lt 0 left) _ e))) ih
    by false e ih = refl

-- ---- the next hart

next_is : (low : ℕ) (ns : List ℕ) (d : ℕ) → (next_from low ns d ≡ d) ⊎ (is_among (next_from low ns d) ns ≡ true)
next_is low [] d = inl refl
next_is low (n ∷ ns) d = by (nat_le low n) (next_is low ns d)
  where
    either : (b : Bool) (x : Bool) → x ≡ true → (if b then true else x) ≡ true
    either true x e = refl
    either false x e = e

    by : (b : Bool) → (next_from low ns d ≡ d) ⊎ (is_among (next_from low ns d) ns ≡ true) → ((if b then n else next_from low ns d) ≡ d) ⊎ (is_among (if b then n else next_from low ns d) (n ∷ ns) ≡ true)
    by true ih = inr (ap (λ c. if c then true else is_among n ns) (same_test n))
    by false (inl e) = inl e
    by false (inr a) = inr (either (n == next_from low ns d) _ a)

next_among : (low : ℕ) (ns : List ℕ) (n : ℕ) → is_among (next_from low (n ∷ ns) n) (n ∷ ns) ≡ true
next_among low ns n = by (next_is low (n ∷ ns) n)
  where
    by : (next_from low (n ∷ ns) n ≡ n) ⊎ (is_among (next_from low (n ∷ ns) n) (n ∷ ns) ≡ true) → is_among (next_from low (n ∷ ns) n) (n ∷ ns) ≡ true
    by (inl e) = ap (λ x. is_among x (n ∷ ns)) e ∙ ap (λ c. if c then true else is_among n ns) (same_test n)
    by (inr a) = a

live_next : (low : ℕ) (ts : List Thread) (ns : List ℕ) → live_from 0 ts ≡ ns → (0 < length ns) → is_among (next_from low (live_from 0 ts) (first_or 0 (live_from 0 ts))) (live_from 0 ts) ≡ true
live_next low ts [] e l = absurd (omega (arith, l))
live_next low ts (n ∷ ns) e l = subst (λ x. is_among (next_from low x (first_or 0 x)) x ≡ true) (sym e) (next_among low ns n)

live_some : (ts : List Thread) (base : ℕ) → any_alive ts ≡ true → 0 < length (live_from base ts)
live_some [] base e = absurd (cc)
live_some (t ∷ ts) base e = by t.live (live_some ts (base + 1)) e
  where
    by : (b : Bool) → (any_alive ts ≡ true → 0 < length (live_from (base + 1) ts)) → (b || any_alive ts) ≡ true → 0 < length (if b then base ∷ live_from (base + 1) ts else live_from (base + 1) ts)
    by true ih e = omega arith
    by false ih e = ih e

pub next_goes : (low : ℕ) (u : Unmoved) → goes_still u.end ≡ true → StillLive u → can_go u (next_hart low u) ≡ true
next_goes low u g s = at (next_hart low u) (among_live u.threads 0 (next_hart low u) (live_next low u.threads (live_from 0 u.threads) refl (live_some u.threads 0 (s g))))
  where
    at : (n : ℕ) → IsIn u.threads 0 n → can_go u n ≡ true
    at n r =
        let z : n ≡ r.0 = omega (arith, r.2) in
        ap (λ m. goes_still u.end && is_alive (slice_get u.threads m)) z ∙ ap (λ x. goes_still u.end && is_alive x) r.3 ∙ both_true _ _ g r.4
