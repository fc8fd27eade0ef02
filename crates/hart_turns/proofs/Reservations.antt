-- SPDX-License-Identifier: Apache-2.0
-- Reservations that other harts' stores take.
use Rattle.std.proofs.Common.{◌≡◌, ℕ, zero, suc, ◌+◌, Bool, true, false, Option, Some, None, List, [], ◌∷◌, ◌++◌, take, drop, append-nil, refl, sym, ap, ◌∙◌, subst, arith}
use Rattle.std.specs.Prelude.{slice_get, slice_set, ◌==◌, ◌&&◌, ◌||◌, not, is_some, map, if◌then◌else◌}
use Rattle.std.proofs.lemmas.Bool.Decides.{nat_tests}
use Rattle.rv_table.specs.declared.instructions.Reservation.{Reservation}
use Rattle.sh_types.specs.declared.runs.Hart.{Hart}
use Rattle.sh_types.specs.declared.runs.Stored.{Stored}
use Rattle.sh_machines.specs.Event.{can_run}
use Rattle.sh_machines.specs.Need.{kept_from}
use Rattle.sh_types.specs.declared.runs.End.{End}
use Rattle.sh_machines.specs.Shuffled.{Setting, Shuffled, left, reserves_on, hart_loses, harts_lose}
use Rattle.hart_turns.specs.Next.{any_reserved, layout_on, IsBegun, IsWent}

-- ---- lists

pub get_set : {A : Type 0} (xs : List A) (n : ℕ) (x y : A) → slice_get xs n ≡ Some x → slice_get (slice_set xs n y) n ≡ Some y
get_set [] n x y e = absurd (cc)
get_set (z ∷ xs) zero x y e = refl
get_set (z ∷ xs) (suc n) x y e = get_set xs n x y e

get_map : {A B : Type 0} (f : A → B) (xs : List A) (n : ℕ) (x : A) → slice_get xs n ≡ Some x → slice_get (map f xs) n ≡ Some (f x)
get_map f [] n x e = absurd (cc)
get_map f (y ∷ xs) zero x e = let q : y ≡ x = cc in ap (λ z. Some (f z)) q
get_map f (y ∷ xs) (suc n) x e = get_map f xs n x e

-- one element more has been changed
pub map_next : {A : Type 0} (f : A → A) (xs : List A) (i : ℕ) (x : A) → slice_get xs i ≡ Some x → take (suc i) (slice_set xs i (f x)) ++ map f (drop (suc i) (slice_set xs i (f x))) ≡ take i xs ++ map f (drop i xs)
map_next f [] i x e = absurd (cc)
map_next f (y ∷ xs) zero x e = let q : y ≡ x = cc in ap (λ z. f z ∷ map f xs) (sym q)
map_next f (y ∷ xs) (suc i) x e = ap (λ zs. y ∷ zs) (map_next f xs i x e)

-- ---- harts

own_loses : (n : ℕ) (st : Stored) (h : Hart) → h.number ≡ n → hart_loses n st h ≡ h
own_loses n st h e = let t : (h.number == n) ≡ true = same h.number n e in rw t refl
  where
    same : (a b : ℕ) → a ≡ b → (a == b) ≡ true
    same a b e = grind (arith, nat_tests)

-- the hart that stores loses nothing
pub get_lost : (n : ℕ) (st : Option Stored) (hs : List Hart) (h : Hart) → slice_get hs n ≡ Some h → h.number ≡ n → slice_get (harts_lose n st hs) n ≡ Some h
get_lost n None hs h e en = e
get_lost n (Some st) hs h e en = get_map (hart_loses n st) hs n h e ∙ ap Some (own_loses n st h en)

or_first : (a b : Bool) → (a || b) ≡ false → a ≡ false
or_first a b e = grind arith

or_second : (a b : Bool) → (a || b) ≡ false → b ≡ false
or_second a b e = grind arith

both_false : (a b : Bool) → a ≡ false → b ≡ false → (a || b) ≡ false
both_false a b e f = rw (e, f) refl

own_free : (n : ℕ) (h : Hart) → h.number ≡ n → (not (h.number == n) && is_some h.reserved) ≡ false
own_free n h e = let t : (h.number == n) ≡ true = same h.number n e in rw t refl
  where
    same : (a b : ℕ) → a ≡ b → (a == b) ≡ true
    same a b e = grind (arith, nat_tests)

-- the hart's own reservation does not count
pub set_free : (n : ℕ) (hs : List Hart) (k : ℕ) (h : Hart) → h.number ≡ n → any_reserved n hs ≡ false → any_reserved n (slice_set hs k h) ≡ false
set_free n [] k h en f = refl
set_free n (x ∷ hs) zero h en f = both_false _ (any_reserved n hs) (own_free n h en) (or_second _ _ f)
set_free n (x ∷ hs) (suc k) h en f = both_false _ (any_reserved n (slice_set hs k h)) (or_first _ _ f) (set_free n hs k h en (or_second _ _ f))

one_same : (n : ℕ) (st : Stored) (h : Hart) → (not (h.number == n) && is_some h.reserved) ≡ false → hart_loses n st h ≡ h
one_same n st h f = by (h.number == n) h.reserved refl f
  where
    by : (b : Bool) (r : Option Reservation) → h.reserved ≡ r → (not b && is_some r) ≡ false → (if b then h else reserves_on h (kept_from st h.reserved)) ≡ h
    by true r e q = refl
    by false (Some r) e q = absurd (cc)
    by false None e q = ap (λ x. reserves_on h (kept_from st x)) e ∙ ap (reserves_on h) (sym e)

all_same : (n : ℕ) (st : Stored) (hs : List Hart) → any_reserved n hs ≡ false → map (hart_loses n st) hs ≡ hs
all_same n st [] f = refl
all_same n st (h ∷ hs) f = ap (λ x. x ∷ map (hart_loses n st) hs) (one_same n st h (or_first _ _ f)) ∙ ap (λ xs. h ∷ xs) (all_same n st hs (or_second _ _ f))

-- where no other hart holds a reservation none is lost
pub none_lost : (n : ℕ) (st : Option Stored) (hs : List Hart) → any_reserved n hs ≡ false → harts_lose n st hs ≡ hs
none_lost n None hs f = refl
none_lost n (Some st) hs f = all_same n st hs f

pub lost_free : (n : ℕ) (st : Option Stored) (hs : List Hart) → any_reserved n hs ≡ false → any_reserved n (harts_lose n st hs) ≡ false
lost_free n st hs f = ap (any_reserved n) (none_lost n st hs f) ∙ f

abbrev counting : Shuffled → List Hart → (out : List ℕ) → Option End → Shuffled
counting s hs out e =
    record { newest = s.newest; older = s.older; wiped = s.wiped; harts = hs; words = s.words; unread = s.unread; output = out; count = s.count + 1; end = e }

-- an instruction that is counted, where no other hart holds a reservation
pub counted : (s : Shuffled) (n : ℕ) (st : Option Stored) → s.end ≡ None → any_reserved n s.harts ≡ false → counting s s.harts s.output s.end ≡ left s (harts_lose n st s.harts) s.words s.unread [] None
counted s n st e f =
    ap (counting s s.harts s.output) e
    ∙ ap (λ out. counting s s.harts out None) (sym (append-nil s.output))
    ∙ ap (λ hs. counting s hs (s.output ++ []) None) (sym (none_lost n st s.harts f))

-- the instruction is done once it is counted
pub went_on : (o : Setting) (n : ℕ) (st : Option Stored) (s s1 s2 : Shuffled) → IsBegun o n st s s1 → s2 ≡ left s1 (harts_lose n st s1.harts) s1.words s1.unread [] None → IsWent o n s s2
went_on o n st s s1 s2 b e =
    record {
      quiet = b.quiet;
      step = e ∙ sym b.step;
      can = subst (λ x. can_run x n ≡ true) (sym e) b.can;
      layout = ap (λ x. layout_on x n) e ∙ b.layout;
      free = λ f. ap (λ (x : Shuffled). any_reserved n x.harts) e ∙ lost_free n st s1.harts (b.free f);
    }
