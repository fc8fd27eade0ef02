-- SPDX-License-Identifier: Apache-2.0
-- How runs of one hart go on and come together.
use Rattle.std.proofs.Common.{◌≡◌, ℕ, zero, suc, ◌+◌, ◌-◌, ◌≤◌, ◌<◌, Bool, true, false, List, [], ◌∷◌, ◌++◌, length, replicate, refl, sym, ap, ◌∙◌, subst, arith}
use Rattle.std.specs.Prelude.{nat_lt, ◌&&◌, if◌then◌else◌}
use Rattle.std.proofs.lemmas.Bool.Decides.{nat_tests}
use Rattle.std.proofs.lemmas.List.{length-replicate}
use Rattle.sh_types.specs.declared.code.Image.{Image}
use Rattle.sh_machines.specs.PlainSerial.{goes_for}
use Rattle.sh_machines.specs.Unmoved.{Unmoved, can_go, unmoved_step, unmoved_from}
use Rattle.ref_machine.specs.Ran.{Ran, RanOn, RanShort, IsTurn, Listed}

-- ---- how far a hart can go

goes_more : (i : Image) (n m : ℕ) (u : Unmoved) → can_go u n ≡ true → 1 ≤ m → goes_for i n m u ≡ 1 + goes_for i n (m - 1) (unmoved_step i n u)
goes_more i n zero u c l = absurd (omega (arith, l))
goes_more i n (suc m) u c l =
    let z : m ≡ suc m - 1 = omega arith in
    let s : (x : ℕ) → suc x ≡ 1 + x = (λ x. omega arith) in
    ap (λ b. if b then suc (goes_for i n m (unmoved_step i n u)) else 0) c ∙ s _ ∙ ap (λ j. 1 + goes_for i n j (unmoved_step i n u)) z

pub goes_none : (i : Image) (n m : ℕ) (u : Unmoved) → can_go u n ≡ false → goes_for i n m u ≡ 0
goes_none i n zero u c = refl
goes_none i n (suc m) u c = ap (λ b. if b then suc (goes_for i n m (unmoved_step i n u)) else 0) c

from_more : (i : Image) (n k j : ℕ) (u : Unmoved) → unmoved_from i (replicate (k + j) n) u ≡ unmoved_from i (replicate j n) (unmoved_from i (replicate k n) u)
from_more i n zero j u = let z : zero + j ≡ j = omega arith in ap (λ m. unmoved_from i (replicate m n) u) z
from_more i n (suc k) j u =
    let z : suc k + j ≡ suc (k + j) = omega arith in
    ap (λ m. unmoved_from i (replicate m n) u) z ∙ from_more i n k j (unmoved_step i n u)

-- ---- runs

pub ran_none : (i : Image) (n limit c : ℕ) (u : Unmoved) → c ≤ limit → Ran i n limit c u c u
ran_none i n limit c u l =
    let z : (x : ℕ) → x ≡ 0 + x = (λ x. omega arith) in
    record { k = 0; count = omega arith; few = l; state = refl; rest = z _ }

pub ran_one : (i : Image) (n limit c : ℕ) (u : Unmoved) → can_go u n ≡ true → c < limit → Ran i n limit c u (c + 1) (unmoved_step i n u)
ran_one i n limit c u go l =
    let z : limit - c - 1 ≡ limit - (c + 1) = omega arith in
    record {
      k = 1;
      count = refl;
      few = omega (arith, l);
      state = refl;
      rest = goes_more i n (limit - c) u go (omega (arith, l)) ∙ ap (λ m. 1 + goes_for i n m (unmoved_step i n u)) z;
    }

pub ran_more : (i : Image) (n limit c : ℕ) (u : Unmoved) (c' : ℕ) (u' : Unmoved) (c'' : ℕ) (u'' : Unmoved) → Ran i n limit c u c' u' → Ran i n limit c' u' c'' u'' → Ran i n limit c u c'' u''
ran_more i n limit c u c' u' c'' u'' a b =
    let z : (x y w : ℕ) → x + (y + w) ≡ x + y + w = (λ x y w. omega arith) in
    record {
      k = a.k + b.k;
      count = omega (arith, a.count, b.count);
      few = b.few;
      state = b.state ∙ ap (unmoved_from i (replicate b.k n)) a.state ∙ sym (from_more i n a.k b.k u);
      rest = a.rest ∙ ap (λ m. a.k + m) b.rest ∙ z a.k b.k _;
    }

pub ran_short : (i : Image) (n limit c : ℕ) (u : Unmoved) (c' : ℕ) (u' : Unmoved) (c'' : ℕ) (u'' : Unmoved) → Ran i n limit c u c' u' → RanShort i n limit c' u' c'' u'' → RanShort i n limit c u c'' u''
ran_short i n limit c u c' u' c'' u'' a b = record { ran = ran_more i n limit c u c' u' c'' u'' a b.ran; less = b.less }

-- a whole turn, where there is no more to go
pub ran_turn : (i : Image) (n limit c : ℕ) (u : Unmoved) (c' : ℕ) (u' : Unmoved) → Ran i n limit c u c' u' → goes_for i n (limit - c') u' ≡ 0 → IsTurn i n limit c u c' u'
ran_turn i n limit c u c' u' a z =
    let k0 : (x : ℕ) → x + 0 ≡ x = (λ x. omega arith) in
    let k : goes_for i n (limit - c) u ≡ a.k = a.rest ∙ ap (λ m. a.k + m) z ∙ k0 a.k in
    record { count = a.count ∙ ap (λ m. c + m) (sym k); state = a.state ∙ ap (λ m. unmoved_from i (replicate m n) u) (sym k) }

pub at_limit : (i : Image) (n limit c : ℕ) (u : Unmoved) → limit ≤ c → goes_for i n (limit - c) u ≡ 0
at_limit i n limit c u l = let z : limit - c ≡ 0 = omega (arith, l) in ap (λ m. goes_for i n m u) z

pub turn_over : (i : Image) (n limit c : ℕ) (u : Unmoved) → (nat_lt c limit && can_go u n) ≡ false → goes_for i n (limit - c) u ≡ 0
turn_over i n limit c u e = by (nat_lt c limit) refl e
  where
    by : (b : Bool) → nat_lt c limit ≡ b → (b && can_go u n) ≡ false → goes_for i n (limit - c) u ≡ 0
    by true q f = goes_none i n (limit - c) u f
    by false q f = at_limit i n limit c u (grind (arith, nat_tests))

pub ran_listed : (i : Image) (n limit c : ℕ) (u : Unmoved) (c' : ℕ) (u' : Unmoved) → (r : Ran i n limit c u c' u') → Listed i (replicate r.k n) c u c' u'
ran_listed i n limit c u c' u' r = record { count = r.count ∙ ap (λ m. c + m) (sym (length-replicate r.k n)); state = r.state }
