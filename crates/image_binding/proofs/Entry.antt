-- SPDX-License-Identifier: Apache-2.0
-- The number of the function at the entry, by its place among the functions.
use Rattle.std.proofs.Common.{◌≡◌, ℕ, suc, ◌+◌, Bool, true, cond, Option, Some, None, List, [], ◌∷◌, length, refl, sym, ap, ◌∙◌, arith, inl, inr}
use Rattle.std.specs.Prelude.{◌==◌, nat_lt, position}
use Rattle.std.specs.List.{position_from, position_or_len}
use Rattle.std.proofs.lemmas.Bool.{cases_Bool}
use Rattle.std.proofs.lemmas.Bool.Decides.{nat_tests}
use Rattle.sh_types.specs.declared.code.Function.{Function}
use Rattle.sh_types.specs.Image.{number_of, starts_of}

abbrev starts_at : ℕ → Function → Bool
starts_at address f = f.home == address

-- the first place counted from k, if there is one
abbrev placed_from : ℕ → ℕ → ℕ → Option ℕ
placed_from k i n = cond (nat_lt i n) (Some (k + i)) None

front : (k n : ℕ) → Some k ≡ placed_from k 0 (suc n)
front k n =
    let some : nat_lt 0 (suc n) ≡ true = grind (arith, nat_tests) in
    rw some (ap Some (omega arith))

one_more : (k i n : ℕ) → placed_from (k + 1) i n ≡ placed_from k (1 + i) (suc n)
one_more k i n =
    let same : nat_lt i n ≡ nat_lt (1 + i) (suc n) = grind (arith, nat_tests) in
    ap (λ b. cond b (Some (k + 1 + i)) None) same ∙ ap (λ m. cond (nat_lt (1 + i) (suc n)) (Some m) None) (omega arith)

number_from : (k address : ℕ) (fs : List Function) → position_from (λ start. start == address) k (starts_of fs) ≡ placed_from k (position_or_len (starts_at address) fs) (length fs)
number_from k address [] = refl
number_from k address (f ∷ fs) = elim (cases_Bool (f.home == address)) [
  | inl t ↦ rw t (front k (length fs))
  | inr e ↦ rw e (number_from (k + 1) address fs ∙ one_more k (position_or_len (starts_at address) fs) (length fs))
]

pub number_is : (address : ℕ) (fs : List Function) → position (starts_at address) fs ≡ number_of (starts_of fs) address
number_is address fs =
    ap (λ m. cond (nat_lt (position_or_len (starts_at address) fs) (length fs)) (Some m) None) (omega arith) ∙ sym (number_from 0 address fs)
