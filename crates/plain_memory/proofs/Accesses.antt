-- SPDX-License-Identifier: Apache-2.0
-- What a load that went well says, and what a save leaves.
use Rattle.std.proofs.Common.{◌≡◌, ◌≢◌, ℕ, zero, ◌/◌, ◌%◌, Bool, true, false, Option, Some, None, Ok, Err, List, refl, ap, ◌∙◌, subst, arith}
use Rattle.std.specs.Prelude.{◌==◌, IsSome, if◌then◌else◌}
use Rattle.std.proofs.lemmas.Bool.Decides.{nat_tests}
use Rattle.sh_types.specs.declared.code.Region.{Region}
use Rattle.sh_machines.specs.Memory.{first_word}
use Rattle.sh_machines.specs.Need.{with_part}
use Rattle.plain_memory.specs.declared.contents.AccessFault.TheVariants.{Misaligned, Fault}
use Rattle.plain_memory.specs.declared.returns.SavedReturn.{SavedReturn}
use Rattle.plain_memory.specs.Access.{checked, loaded}
use Rattle.plain_memory.specs.Changed.{Stores}
use Rattle.plain_memory.specs.Laid.{Laid}
use Rattle.plain_memory.specs.Plain.{Plain, IsPlain, saved_at, content_at}
use Rattle.plain_memory.proofs.Words.{whole_zero}

abbrev pub Returned : Type 0
Returned = List (ℕ × SavedReturn)

abbrev pub plain : List Region → Returned → Plain
plain areas returns = record { areas = areas; returns = returns }

-- what a load that went well says
pub record HasLoaded (usable : ℕ → ℕ → Bool) (a n : ℕ) (s : Option SavedReturn) : Type 0 where
  pub aligned : a % n ≡ 0
  pub allowed : usable a n ≡ true
  pub none : s ≡ None

pub load_says : (usable : ℕ → ℕ → Bool) (a n v x : ℕ) (s : Option SavedReturn) → Ok v ≡ checked usable a n (loaded a n (content_at s x)) → HasLoaded usable a n s
load_says usable a n v x s e = by (a % n == 0) refl (usable a n) refl s refl e
  where
    zero_of : (m : ℕ) → (m == 0) ≡ true → m ≡ 0
    zero_of m h = grind (arith, nat_tests, h)

    by : (b : Bool) → (a % n == 0) ≡ b → (c : Bool) → usable a n ≡ c → (t : Option SavedReturn) → s ≡ t → Ok v ≡ (if b then (if c then loaded a n (content_at t x) else Err Fault) else Err Misaligned) → HasLoaded usable a n s
    by true p true q None r e = record { aligned = zero_of (a % n) p; allowed = q; none = r }
    by true p true q (Some t) r e = absurd (cc)
    by true p false q t r e = absurd (cc)
    by false p c q t r e = absurd (cc)

same_at : (w x : ℕ) → w ≡ x → (w == x) ≡ true
same_at w x e = grind (arith, nat_tests)

other_at : (w x : ℕ) → w ≢ x → (w == x) ≡ false
other_at w x e = grind (arith, nat_tests)

pub stores_here : (old new : List Region) (a n v w : ℕ) → Stores old new a n v → w ≡ a / 8 → first_word new w ≡ with_part a n v (first_word old w)
stores_here old new a n v w is e = is.words w ∙ ap (λ (b : Bool). if b then with_part a n v (first_word old w) else first_word old w) (same_at w (a / 8) e)

pub stores_there : (old new : List Region) (a n v w : ℕ) → Stores old new a n v → w ≢ a / 8 → first_word new w ≡ first_word old w
stores_there old new a n v w is e = is.words w ∙ ap (λ (b : Bool). if b then with_part a n v (first_word old w) else first_word old w) (other_at w (a / 8) e)

-- a return word has not the number of a word without one
pub apart_at : (returns : Returned) (w x : ℕ) → IsSome (saved_at returns w) → saved_at returns x ≡ None → w ≢ x
apart_at returns w x h none e = let q : saved_at returns w ≡ None = ap (saved_at returns) e ∙ none in absurd (cc)

-- the return words with another at one number
abbrev pub Sets : Returned → Returned → ℕ → Option SavedReturn → Type 0
Sets old new x s = (w : ℕ) → saved_at new w ≡ (if w == x then s else saved_at old w)

sets_here : (old new : Returned) (x w : ℕ) (s : Option SavedReturn) → Sets old new x s → w ≡ x → saved_at new w ≡ s
sets_here old new x w s is e = is w ∙ ap (λ (b : Bool). if b then s else saved_at old w) (same_at w x e)

sets_there : (old new : Returned) (x w : ℕ) (s : Option SavedReturn) → Sets old new x s → w ≢ x → saved_at new w ≡ saved_at old w
sets_there old new x w s is e = is w ∙ ap (λ (b : Bool). if b then s else saved_at old w) (other_at w x e)

pub plain_saved : (old new : List Region) (returns returns' : Returned) (a : ℕ) (s : SavedReturn) → Laid 0 old → a % 8 ≡ 0 → IsPlain old returns → Stores old new a 8 0 → Sets returns returns' (a / 8) (Some s) → IsPlain new returns'
plain_saved old new returns returns' a s laid al is st sets = record { zero = λ w h. by w h (w == a / 8) refl }
  where
    by : (w : ℕ) → IsSome (saved_at returns' w) → (b : Bool) → (w == a / 8) ≡ b → first_word new w ≡ 0
    by w h true q =
        let e : w ≡ a / 8 = grind (arith, nat_tests) in
        stores_here old new a 8 0 w st e ∙ ap (λ y. with_part a 8 0 (first_word old y)) e ∙ whole_zero old a laid al
    by w h false q =
        let e : w ≢ a / 8 = grind (arith, nat_tests) in
        stores_there old new a 8 0 w st e ∙ is.zero w (subst (λ (t : Option SavedReturn). IsSome t) (sets_there returns returns' (a / 8) w (Some s) sets e) h)
