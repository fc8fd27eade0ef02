-- SPDX-License-Identifier: Apache-2.0
-- Reservations that other harts' stores take.
use Rattle.std.proofs.Common.{◌≡◌, ℕ, zero, suc, Bool, true, false, Option, Some, None, List, [], ◌∷◌, ◌++◌, refl, sym, ap, ◌∙◌, arith}
use Rattle.std.specs.Prelude.{slice_set, ◌==◌, ◌&&◌, ◌||◌, not, is_some, map, if◌then◌else◌}
use Rattle.std.proofs.lemmas.Bool.Decides.{nat_tests}
use Rattle.rv_table.specs.declared.instructions.Reservation.{Reservation}
use Rattle.sh_types.specs.declared.runs.Stored.{Stored}
use Rattle.sh_machines.specs.Need.{kept_from}
use Rattle.sh_machines.specs.Unmoved.{Thread, reserves, thread_loses, threads_lose}
use Rattle.thread_acts.specs.declared.threads.Thread as code
use Rattle.thread_acts.specs.Done.{meant}
use Rattle.ref_machine.specs.Losing.{loses, any_reserved}
use Rattle.ref_machine.specs.Meant.{threads_of}

one_loses : (n : ℕ) (s : Stored) (t : code.Thread) → meant (loses n s t) ≡ thread_loses n s (meant t)
one_loses n s t = by (t.number == n)
  where
    by : (b : Bool) → meant (if b then t else record { number = t.number; live = t.live; code = t.code; at = t.at; regs = t.regs; ra = t.ra; reserved = kept_from s t.reserved }) ≡ (if b then meant t else reserves (meant t) (kept_from s t.reserved))
    by true = refl
    by false = refl

-- the code's harts lose what the unmoved machine's do
pub all_lose : (n : ℕ) (s : Stored) (ts : List code.Thread) → threads_of (map (loses n s) ts) ≡ threads_lose n (Some s) (threads_of ts)
all_lose n s [] = refl
all_lose n s (t ∷ ts) = ap (λ x. x ∷ threads_of (map (loses n s) ts)) (one_loses n s t) ∙ ap (λ xs. thread_loses n s (meant t) ∷ xs) (all_lose n s ts)

-- ---- where no other hart holds a reservation

or_first : (a b : Bool) → (a || b) ≡ false → a ≡ false
or_first a b e = grind arith

or_second : (a b : Bool) → (a || b) ≡ false → b ≡ false
or_second a b e = grind arith

both_false : (a b : Bool) → a ≡ false → b ≡ false → (a || b) ≡ false
both_false a b e f = rw (e, f) refl

own_free : (n : ℕ) (t : Thread) → t.number ≡ n → (not (t.number == n) && is_some t.reserved) ≡ false
own_free n t e = let q : (t.number == n) ≡ true = same t.number n e in rw q refl
  where
    same : (a b : ℕ) → a ≡ b → (a == b) ≡ true
    same a b e = grind (arith, nat_tests)

-- the hart's own reservation does not count
pub set_free : (n : ℕ) (ts : List Thread) (k : ℕ) (t : Thread) → t.number ≡ n → any_reserved n ts ≡ false → any_reserved n (slice_set ts k t) ≡ false
set_free n [] k t en f = refl
set_free n (x ∷ ts) zero t en f = both_false _ (any_reserved n ts) (own_free n t en) (or_second _ _ f)
set_free n (x ∷ ts) (suc k) t en f = both_false _ (any_reserved n (slice_set ts k t)) (or_first _ _ f) (set_free n ts k t en (or_second _ _ f))

one_same : (n : ℕ) (s : Stored) (t : Thread) → (not (t.number == n) && is_some t.reserved) ≡ false → thread_loses n s t ≡ t
one_same n s t f = by (t.number == n) t.reserved refl f
  where
    by : (b : Bool) (r : Option Reservation) → t.reserved ≡ r → (not b && is_some r) ≡ false → (if b then t else reserves t (kept_from s t.reserved)) ≡ t
    by true r e q = refl
    by false (Some r) e q = absurd (cc)
    by false None e q = ap (λ x. reserves t (kept_from s x)) e ∙ ap (reserves t) (sym e)

all_same : (n : ℕ) (s : Stored) (ts : List Thread) → any_reserved n ts ≡ false → map (thread_loses n s) ts ≡ ts
all_same n s [] f = refl
all_same n s (t ∷ ts) f = ap (λ x. x ∷ map (thread_loses n s) ts) (one_same n s t (or_first _ _ f)) ∙ ap (λ xs. t ∷ xs) (all_same n s ts (or_second _ _ f))

-- none is lost
pub none_lost : (n : ℕ) (s : Option Stored) (ts : List Thread) → any_reserved n ts ≡ false → threads_lose n s ts ≡ ts
none_lost n None ts f = refl
none_lost n (Some s) ts f = all_same n s ts f
