-- SPDX-License-Identifier: Apache-2.0
-- Names and contents side by side, as a map.
use Rattle.std.proofs.Common.{◌≡◌, ◌≢◌, ℕ, zero, suc, ◌<◌, List, [], ◌∷◌, ◌++◌, length, get_or, Bool, true, false, cond, refl, sym, ◌∙◌, ap, subst, arith, zip}
use Rattle.std.specs.Prelude.{slice_get, slice_set, Some, None}
use Rattle.std.specs.Ordering.{nat_cmp, eq_by_cmp, is_eq}
use Rattle.std.specs.declared.cmp.Ordering.{Ordering}
use Rattle.std.specs.declared.cmp.Ordering.TheVariants.{Less, Equal, Greater}
use Rattle.std.proofs.lemmas.Option.{slice_get_read, slice_get_within}
use Rattle.std.specs.Cmp.{tied_itself}
use Rattle.std.specs.Cmp.Lexicographic.{slice_cmp, nat_list_cmp_total}
use Rattle.std.specs.FinMap as map
use Rattle.sh_base.specs.Held.{as_map}
use Rattle.std.specs.FinMap.{find, slice_cmp-IsAntisymmetric, nat_cmp-IsAntisymmetric}

abbrev same : List ℕ → List ℕ → Bool
same a b = eq_by_cmp (slice_cmp nat_cmp) a b

same_self : (a : List ℕ) → same a a ≡ true
same_self a = ap is_eq (tied_itself nat_list_cmp_total a)

same_is : (a b : List ℕ) → same a b ≡ true → a ≡ b
same_is a b e = slice_cmp-IsAntisymmetric nat_cmp-IsAntisymmetric a b (is (slice_cmp nat_cmp a b) e)
  where
    is : (r : Ordering) → is_eq r ≡ true → r ≡ Equal
    is Equal e = refl
    is Less e = absurd (cc)
    is Greater e = absurd (cc)

differ : (a b : List ℕ) → a ≢ b → same a b ≡ false
differ a b apart = by (same a b) refl
  where
    by : (t : Bool) → same a b ≡ t → t ≡ false
    by true e = absurd (apart (same_is a b e))
    by false e = refl

pub find_hit : (names contents : List (List ℕ)) (i : ℕ) (name content : List ℕ) → slice_get names i ≡ Some name → slice_get contents i ≡ Some content
    → ((k : ℕ) → k < i → slice_get names k ≢ Some name) → find (slice_cmp nat_cmp) name (zip names contents) ≡ Some content
find_hit [] contents i name content here there first = absurd (cc)
find_hit (n ∷ names) [] i name content here there first = absurd (cc)
find_hit (n ∷ names) (c ∷ contents) zero name content here there first =
    let e : n ≡ name = cc in
    let t : same name n ≡ true = subst (λ m. same name m ≡ true) (sym e) (same_self name) in
    rw t there
find_hit (n ∷ names) (c ∷ contents) (suc i) name content here there first =
    let t : same name n ≡ false = differ name n (λ e. first zero (omega arith) (ap Some (sym e))) in
    rw t (find_hit names contents i name content here there (λ k lt. first (suc k) (omega arith)))

pub find_miss : (names contents : List (List ℕ)) (name : List ℕ) → ((k : ℕ) → slice_get names k ≢ Some name) → find (slice_cmp nat_cmp) name (zip names contents) ≡ None
find_miss [] contents name none = refl
find_miss (n ∷ names) [] name none = refl
find_miss (n ∷ names) (c ∷ contents) name none =
    let t : same name n ≡ false = differ name n (λ e. none zero (ap Some (sym e))) in
    rw t (find_miss names contents name (λ k. none (suc k)))

module _ (names contents : List (List ℕ)) where
  pub get_hit : (i : ℕ) (name content : List ℕ) → slice_get names i ≡ Some name → slice_get contents i ≡ Some content
      → ((k : ℕ) → k < i → slice_get names k ≢ Some name) → map.get (as_map names contents) name ≡ Some content
  get_hit i name content here there first =
      map.get-from_entries nat_list_cmp_total (zip names contents) name ∙ find_hit names contents i name content here there first

  pub get_miss : (name : List ℕ) → ((k : ℕ) → slice_get names k ≢ Some name) → map.get (as_map names contents) name ≡ None
  get_miss name none = map.get-from_entries nat_list_cmp_total (zip names contents) name ∙ find_miss names contents name none

find_put : (names contents : List (List ℕ)) (i : ℕ) (name bytes q : List ℕ) → slice_get names i ≡ Some name → length names ≡ length contents
    → ((k : ℕ) → k < i → slice_get names k ≢ Some name)
    → find (slice_cmp nat_cmp) q (zip names (slice_set contents i bytes)) ≡ cond (same q name) (Some bytes) (find (slice_cmp nat_cmp) q (zip names contents))
find_put [] contents i name bytes q here long first = absurd (cc)
find_put (n ∷ names) [] i name bytes q here long first = absurd (omega arith)
find_put (n ∷ names) (c ∷ contents) zero name bytes q here long first =
    let e : n ≡ name = cc in
    rw e (by (same q name))
  where
    by : (t : Bool) → cond t (Some bytes) (find (slice_cmp nat_cmp) q (zip names contents)) ≡ cond t (Some bytes) (cond t (Some c) (find (slice_cmp nat_cmp) q (zip names contents)))
    by true = refl
    by false = refl
find_put (n ∷ names) (c ∷ contents) (suc i) name bytes q here long first =
    let e : n ≢ name = λ (is : n ≡ name). first zero (omega arith) (ap Some is) in
    let rest = find_put names contents i name bytes q here (omega arith) (λ k lt. first (suc k) (omega arith)) in
    by (same q n) refl (same q name) refl rest
  where
    by : (t : Bool) → same q n ≡ t → (u : Bool) → same q name ≡ u
        → find (slice_cmp nat_cmp) q (zip names (slice_set contents i bytes)) ≡ cond u (Some bytes) (find (slice_cmp nat_cmp) q (zip names contents))
        → cond t (Some c) (find (slice_cmp nat_cmp) q (zip names (slice_set contents i bytes))) ≡ cond u (Some bytes) (cond t (Some c) (find (slice_cmp nat_cmp) q (zip names contents)))
    by true p true r rest = absurd (first zero (omega arith) (ap Some (sym (same_is q n p) ∙ same_is q name r)))
    by true p false r rest = refl
    by false p u r rest = rest

pub put_at : (names contents : List (List ℕ)) (i : ℕ) (name bytes : List ℕ) → slice_get names i ≡ Some name → length names ≡ length contents
    → ((k : ℕ) → k < i → slice_get names k ≢ Some name)
    → as_map names (slice_set contents i bytes) ≡ map.insert (as_map names contents) name bytes
put_at names contents i name bytes here long first =
    map.same_map nat_list_cmp_total (slice_cmp-IsAntisymmetric nat_cmp-IsAntisymmetric) _ _
    (λ q. map.get-from_entries nat_list_cmp_total _ q ∙ find_put names contents i name bytes q here long first
    ∙ sym (map.get-insert nat_list_cmp_total (as_map names contents) name bytes q ∙ ap (cond (same q name) (Some bytes)) (map.get-from_entries nat_list_cmp_total (zip names contents) q)))

zip_push : (names contents : List (List ℕ)) (name bytes : List ℕ) → length names ≡ length contents → zip (names ++ name ∷ []) (contents ++ bytes ∷ []) ≡ zip names contents ++ (name, bytes) ∷ []
zip_push [] [] name bytes long = refl
zip_push [] (c ∷ contents) name bytes long = absurd (omega arith)
zip_push (n ∷ names) [] name bytes long = absurd (omega arith)
zip_push (n ∷ names) (c ∷ contents) name bytes long = ap (λ (l : List (List ℕ × List ℕ)). (n, c) ∷ l) (zip_push names contents name bytes (omega arith))

pub put_new : (names contents : List (List ℕ)) (name bytes : List ℕ) → length names ≡ length contents → ((k : ℕ) → slice_get names k ≢ Some name)
    → as_map (names ++ name ∷ []) (contents ++ bytes ∷ []) ≡ map.insert (as_map names contents) name bytes
put_new names contents name bytes long none =
    ap (λ es. map.from_entries {R = slice_cmp nat_cmp} es) (zip_push names contents name bytes long)
    ∙ map.from_entries_push nat_list_cmp_total (slice_cmp-IsAntisymmetric nat_cmp-IsAntisymmetric) (zip names contents) name bytes (find_miss names contents name none)

-- the same by what an index reads
pub get_hit_read : (names contents : List (List ℕ)) (i : ℕ) (name content : List ℕ) → length names ≡ length contents → content ≡ get_or contents i content
    → slice_get names i ≡ Some name → ((k : ℕ) → k < i → slice_get names k ≢ Some name)
    → map.get (as_map names contents) name ≡ Some content
get_hit_read names contents i name content long read here first =
    let within = slice_get_within names i name here in
    get_hit names contents i name content here (slice_get_read contents (length contents) i content refl (omega arith) read) first
