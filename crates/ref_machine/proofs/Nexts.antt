-- SPDX-License-Identifier: Apache-2.0
-- How far a turn goes, and that the hart of the next one can go.
use Rattle.std.proofs.Common.{◌≡◌, ℕ, zero, suc, ◌+◌, ◌≤◌, Bool, true, false, List, [], ◌∷◌, refl, sym, ap, ◌∙◌, subst, arith}
use Rattle.std.specs.Prelude.{◌||◌, nat_le, if◌then◌else◌, slice_get}
use Rattle.sh_types.specs.declared.code.Image.{Image}
use Rattle.sh_machines.specs.Pace.{live_from}
use Rattle.sh_machines.specs.PlainSerial.{goes_for}
use Rattle.sh_machines.specs.Serial.{first_or, next_from, next_hart}
use Rattle.sh_machines.specs.Unmoved.{Thread, Unmoved, any_alive, goes_still, is_alive, can_go, unmoved_step}
use Rattle.pace_law.proofs.Alive.{StillLive}
use Rattle.pace_law.proofs.Bools.{both_true}

pub goes_few : (i : Image) (h k : ℕ) (u : Unmoved) → goes_for i h k u ≤ k
goes_few i h zero u = omega arith
goes_few i h (suc k) u = by (can_go u h) (goes_few i h k (unmoved_step i h u))
  where
    by : (b : Bool) → goes_for i h k (unmoved_step i h u) ≤ k → (if b then suc (goes_for i h k (unmoved_step i h u)) else 0) ≤ suc k
    by true ih = omega (arith, ih)
    by false ih = omega arith

pub goes_some : (i : Image) (h k : ℕ) (u : Unmoved) → 1 ≤ k → can_go u h ≡ true → 1 ≤ goes_for i h k u
goes_some i h zero u l c = absurd (omega (arith, l))
goes_some i h (suc k) u l c = subst (λ b. 1 ≤ (if b then suc (goes_for i h k (unmoved_step i h u)) else 0)) (sym c) (omega arith)

-- the test holds of each number
abbrev Each : (ℕ → Bool) → List ℕ → Type 0
Each p [] = Unit {0}
Each p (n ∷ ns) = (p n ≡ true) × Each p ns

-- each number that is counted is a live thread's
live_each : (all ts : List Thread) (d : ℕ) → ((k : ℕ) → slice_get all (d + k) ≡ slice_get ts k) → Each (λ n. is_alive (slice_get all n)) (live_from d ts)
live_each all [] d e = tt
live_each all (t ∷ ts) d e = by t.live refl (live_each all ts (d + 1) (λ k. let s : d + 1 + k ≡ d + suc k = omega arith in ap (slice_get all) s ∙ e (suc k)))
  where
    here : is_alive (slice_get all d) ≡ t.live
    here = let z : d ≡ d + 0 = omega arith in ap is_alive (ap (slice_get all) z ∙ e 0)

    by : (b : Bool) → t.live ≡ b → Each (λ n. is_alive (slice_get all n)) (live_from (d + 1) ts) → Each (λ n. is_alive (slice_get all n)) (if b then d ∷ live_from (d + 1) ts else live_from (d + 1) ts)
    by true l more = (here ∙ l, more)
    by false l more = more

first_each : (p : ℕ → Bool) (ts : List Thread) (d : ℕ) → any_alive ts ≡ true → Each p (live_from d ts) → p (first_or 0 (live_from d ts)) ≡ true
first_each p [] d a e = absurd (cc)
first_each p (t ∷ ts) d a e = by (first_each p ts (d + 1)) t.live a e
  where
    by : (any_alive ts ≡ true → Each p (live_from (d + 1) ts) → p (first_or 0 (live_from (d + 1) ts)) ≡ true) → (b : Bool) → (b || any_alive ts) ≡ true → Each p (if b then d ∷ live_from (d + 1) ts else live_from (d + 1) ts) → p (first_or 0 (if b then d ∷ live_from (d + 1) ts else live_from (d + 1) ts)) ≡ true
    by later true a e = e.0
    by later false a e = later a e

next_each : (p : ℕ → Bool) (low : ℕ) (ns : List ℕ) (d : ℕ) → Each p ns → p d ≡ true → p (next_from low ns d) ≡ true
next_each p low [] d e l = l
next_each p low (n ∷ ns) d e l = by (next_each p low ns d e.1 l) (nat_le low n)
  where
    by : p (next_from low ns d) ≡ true → (b : Bool) → p (if b then n else next_from low ns d) ≡ true
    by later true = e.0
    by later false = later

next_alive : (low : ℕ) (u : Unmoved) → any_alive u.threads ≡ true → is_alive (slice_get u.threads (next_hart low u)) ≡ true
next_alive low u a =
    let p : ℕ → Bool = λ n. is_alive (slice_get u.threads n) in
    let each : Each p (live_from 0 u.threads) = live_each u.threads u.threads 0 (λ k. let z : 0 + k ≡ k = omega arith in ap (slice_get u.threads) z) in
    next_each p low (live_from 0 u.threads) (first_or 0 (live_from 0 u.threads)) each (first_each p u.threads 0 a each)

pub next_goes : (low : ℕ) (u : Unmoved) → goes_still u.end ≡ true → StillLive u → can_go u (next_hart low u) ≡ true
next_goes low u g live = both_true _ _ g (next_alive low u (live g))
