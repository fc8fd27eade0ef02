-- SPDX-License-Identifier: Apache-2.0
-- Which row or label a number names.
use Rattle.std.proofs.Common.{◌≡◌, ◌≢◌, inl, inr, ℕ, zero, suc, ◌+◌, ◌<◌, ◌≤◌, false, List, [], ◌∷◌, length, Some, None, refl, arith}
use Rattle.std.specs.Prelude.{slice_index, slice_index_or, slice_get, nat_lt, Ok, Err, ◌==◌, ◌&&◌}
use Rattle.std.specs.List.Sorted.{IsBinarySearchResult}
use Rattle.std.specs.Ordering.{nat_cmp}
use Rattle.std.proofs.lemmas.Bool.{cases_Bool}
use Rattle.std.proofs.lemmas.Bool.Decides.{nat_tests}
use Rattle.std.proofs.lemmas.List.Sorted.{searched}
use Rattle.sh_types.specs.declared.code.Pair.{Pair}
use Rattle.sh_machines.specs.Tokens.{token_of, row_named, label_token, label_named}
use Rattle.token_lookup.specs.Rising.{Rises}

-- the row at a place of the list
pub row_there : (rows : List ℕ) (i f v : ℕ) → i < length rows → slice_index rows i ≡ f → token_of f ≡ v → row_named rows v ≡ Some f
row_there [] i f v h e t = absurd (omega arith)
row_there (g ∷ rows) zero f v h e t = grind (arith, nat_tests)
row_there (g ∷ rows) (suc i) f v h e t = elim (cases_Bool (token_of g == v)) [
  | inl same ↦ let k : g ≡ f = grind (arith, nat_tests) in rw (same, k) refl
  | inr other ↦ rw other (row_there rows i f v (omega arith) e t)
]

-- no row has the token
pub no_token : (rows : List ℕ) (v : ℕ) → ((i : ℕ) → i < length rows → token_of (slice_index rows i) ≢ v) → row_named rows v ≡ None
no_token [] v h = refl
no_token (g ∷ rows) v h =
    let first : (token_of g == v) ≡ false = let n = h zero (omega arith) in grind (arith, nat_tests) in
    rw first (no_token rows v (λ i lt. h (suc i) (omega arith)))

-- the label at a place of the list
pub label_there : (labels : List Pair) (b j f v : ℕ) (q : Pair) → slice_get labels j ≡ Some q → label_token (b + j) ≡ v → q.func ≡ f → label_named b labels f v ≡ Some q
label_there [] b j f v q e t s = absurd (cc)
label_there (p ∷ labels) b zero f v q e t s = let k : p ≡ q = cc in grind (arith, nat_tests)
label_there (p ∷ labels) b (suc j) f v q e t s =
    let apart : (label_token b == v) ≡ false = grind (arith, nat_tests) in
    let rest : label_named (suc b) labels f v ≡ Some q = label_there labels (suc b) j f v q e (omega arith) s in
    elim (cases_Bool (p.func == f)) [
      | inl same ↦ rw (same, apart) rest
      | inr other ↦ rw other rest
    ]

-- no label of the function has the token
pub no_label : (labels : List Pair) (b f v : ℕ) → ((j : ℕ) (q : Pair) → slice_get labels j ≡ Some q → label_token (b + j) ≡ v → q.func ≢ f) → label_named b labels f v ≡ None
no_label [] b f v h = refl
no_label (p ∷ labels) b f v h =
    let rest : label_named (suc b) labels f v ≡ None = no_label labels (suc b) f v (λ j q e t. h (suc j) q e (omega arith)) in
    elim (cases_Bool ((p.func == f) && (label_token b == v))) [
      | inl same ↦ let k : p.func ≡ f = grind (arith, nat_tests) in let t : label_token (b + zero) ≡ v = grind (arith, nat_tests) in absurd (h zero p refl t k)
      | inr other ↦ rw other rest
    ]

-- rows that rise are in order
sorted : (rows : List ℕ) → Rises rows → (i j : ℕ) → i ≤ j → j < length rows → slice_index rows i ≤ slice_index rows j
sorted rows h i j le lt = elim (cases_Bool (nat_lt i j)) [
  | inl less ↦ let k : i < j = grind (arith, nat_tests) in omega (arith, h i j k lt)
  | inr same ↦ let k : i ≡ j = grind (arith, nat_tests) in rw k (omega arith)
]

pub row_found : (rows : List ℕ) (x i v : ℕ) → Rises rows → IsBinarySearchResult (λ y. nat_cmp y x) rows (Ok i) → token_of x ≡ v → row_named rows v ≡ Some x
row_found rows x i v h r t = let s = searched rows x (Ok i) r (sorted rows h) in row_there rows i x v s.0 s.1 t

pub row_lost : (rows : List ℕ) (x i v : ℕ) → Rises rows → IsBinarySearchResult (λ y. nat_cmp y x) rows (Err i) → token_of x ≡ v → row_named rows v ≡ None
row_lost rows x i v h r t =
    let s = searched rows x (Err i) r (sorted rows h) in
    no_token rows v (λ j lt same. elim (cases_Bool (nat_lt j i)) [
      | inl less ↦ let k : j < i = grind (arith, nat_tests) in absurd (omega (arith, s.1 j k))
      | inr more ↦ let k : i ≤ j = grind (arith, nat_tests) in absurd (omega (arith, s.2 j k lt))
    ])

-- the element at a place of the list
pub got : (labels : List Pair) (j : ℕ) (d : Pair) → j < length labels → slice_get labels j ≡ Some (slice_index_or labels j d)
got [] j d h = absurd (omega arith)
got (p ∷ labels) zero d h = refl
got (p ∷ labels) (suc j) d h = got labels j d (omega arith)

-- and there is none behind the last
pub got_below : (labels : List Pair) (j : ℕ) (q : Pair) → slice_get labels j ≡ Some q → j < length labels
got_below [] j q e = absurd (cc)
got_below (p ∷ labels) zero q e = omega arith
got_below (p ∷ labels) (suc j) q e = omega (arith, got_below labels j q e)
