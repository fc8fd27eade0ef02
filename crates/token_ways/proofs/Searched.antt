-- SPDX-License-Identifier: Apache-2.0
-- What a search for the labels of a function finds.
use Rattle.std.proofs.Common.{◌≡◌, ◌≢◌, inl, inr, ℕ, zero, suc, ◌<◌, ◌≤◌, true, false, List, [], ◌∷◌, length, Some, refl, arith}
use Rattle.std.specs.Prelude.{slice_index_or, slice_get, nat_lt, ◌==◌}
use Rattle.std.proofs.lemmas.Bool.{cases_Bool}
use Rattle.std.proofs.lemmas.Bool.Decides.{nat_tests}
use Rattle.sh_types.specs.declared.code.Pair.{Pair}
use Rattle.sh_machines.specs.Tokens.{has_label}
use Rattle.token_lookup.proofs.Naming.{got, got_below}
use Rattle.token_ways.specs.Labels.{RisesByFunc}

-- the function of a label has one
pub has_there : (labels : List Pair) (j f : ℕ) (q : Pair) → slice_get labels j ≡ Some q → q.func ≡ f → has_label labels f ≡ true
has_there [] j f q e s = absurd (cc)
has_there (p ∷ labels) zero f q e s = let k : p ≡ q = cc in grind (arith, nat_tests)
has_there (p ∷ labels) (suc j) f q e s = elim (cases_Bool (p.func == f)) [
  | inl same ↦ rw same refl
  | inr other ↦ rw other (has_there labels j f q e s)
]

pub has_none : (labels : List Pair) (f : ℕ) → ((j : ℕ) (q : Pair) → slice_get labels j ≡ Some q → q.func ≢ f) → has_label labels f ≡ false
has_none [] f h = refl
has_none (p ∷ labels) f h =
    let first : (p.func == f) ≡ false = let n = h zero p refl in grind (arith, nat_tests) in
    rw first (has_none labels f (λ j q e. h (suc j) q e))

-- what a search by halves found
pub searched_there : (labels : List Pair) (low high f : ℕ) (d : Pair) → high ≤ low → low < length labels → ((k : ℕ) (q : Pair) → k < low → slice_get labels k ≡ Some q → q.func < f) → ((k : ℕ) (q : Pair) → high ≤ k → slice_get labels k ≡ Some q → f ≤ q.func) → RisesByFunc labels → ((slice_index_or labels low d).func == f) ≡ has_label labels f
searched_there labels low high f d le lt below above rise = elim (cases_Bool ((slice_index_or labels low d).func == f)) [
  | inl same ↦ let k : (slice_index_or labels low d).func ≡ f = grind (arith, nat_tests) in rw (same, has_there labels low f (slice_index_or labels low d) (got labels low d lt) k) refl
  | inr other ↦
      let apart : (slice_index_or labels low d).func ≢ f = λ e. (let t : ((slice_index_or labels low d).func == f) ≡ true = grind (arith, nat_tests) in absurd (cc)) in
      rw (
        other,
        has_none labels f (λ j q e s. elim (cases_Bool (nat_lt j low)) [
          | inl less ↦ let k : j < low = grind (arith, nat_tests) in absurd (omega (arith, below j q k e))
          | inr more ↦
              let k : low ≤ j = grind (arith, nat_tests) in
              let first : f ≤ (slice_index_or labels low d).func = above low (slice_index_or labels low d) le (got labels low d lt) in
              let after : (slice_index_or labels low d).func ≤ q.func = rise low j (slice_index_or labels low d) q k (got labels low d lt) e in
              absurd (apart (omega arith))
        ]),
      ) refl
]

pub searched_none : (labels : List Pair) (low f : ℕ) → length labels ≤ low → ((k : ℕ) (q : Pair) → k < low → slice_get labels k ≡ Some q → q.func < f) → has_label labels f ≡ false
searched_none labels low f le below = has_none labels f (λ j q e s. omega (arith, below j q (omega (arith, got_below labels j q e)) e))
