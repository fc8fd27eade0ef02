-- SPDX-License-Identifier: Apache-2.0
-- One pass over starts in stable order joins those of one home.
use Rattle.std.proofs.Common.{◌≡◌, ℕ, suc, ◌<◌, ◌≤◌, true, false, cond, ◌&&◌, List, [], ◌∷◌, length, get_or, refl, sym, ap, ◌∙◌, subst, arith}
use Rattle.std.specs.Prelude.{◌==◌, nat_lt, not, max, map}
use Rattle.std.proofs.Common.{nat_cmp}
use Rattle.std.proofs.lemmas.Bool.{cases_Bool}
use Rattle.std.proofs.Common.{inl, inr}
use Rattle.std.specs.Ordering.{is_lt}
use Rattle.std.specs.List.{AllByRecursion}
use Rattle.std.specs.List.Sorted.{IsPermutation, IsNonDecreasingBy, IsStableByKey, ties}
use Rattle.std.proofs.lemmas.List.Elements.{filter_agree}
use Rattle.std.proofs.lemmas.Bool.Decides.{nat_tests}
use Rattle.std.proofs.Math.Path.{fun_ext}
use Rattle.elf_rules.specs.declared.starts.Start.{Start}
use Rattle.elf_rules.specs.Splitting.{put, homes, greatest, first, all_at, joined_at, joined, no_start}
use Rattle.fn_split.specs.Merge.{grown, merged, merged_all}
use Rattle.fn_split.proofs.Homes.{chosen, Above, put-above, homes-permutation}

-- starts in order of their homes
abbrev Rises : ℕ → List Start → Type 0
Rises low [] = Unit {0}
Rises low (s ∷ starts) = (low ≤ s.home) × Rises s.home starts

-- later starts are above
later : (low : ℕ) (h : ℕ) (starts : List Start) → low < h → Rises h starts → AllByRecursion (λ (s : Start). low < s.home) starts
later low h [] lt r = tt
later low h (s ∷ starts) lt r = (omega (arith, lt, r.0), later low s.home starts (omega (arith, lt, r.0)) r.1)

homes-above : (low : ℕ) (starts : List Start) → AllByRecursion (λ (s : Start). low < s.home) starts → Above low (homes starts)
homes-above low [] a = tt
homes-above low (s ∷ starts) a = put-above low s.home (homes starts) a.0 (homes-above low starts a.1)

none_at : (low : ℕ) (starts : List Start) → AllByRecursion (λ (s : Start). low < s.home) starts → all_at starts low ≡ []
none_at low [] a = refl
none_at low (s ∷ starts) a =
    let ne : (s.home == low) ≡ false = grind (arith, nat_tests, a.0) in
    ap (λ b. cond b (s ∷ all_at starts low) (all_at starts low)) ne ∙ none_at low starts a.1

put-below : (v : ℕ) (ws : List ℕ) → Above v ws → put v ws ≡ v ∷ ws
put-below v [] a = refl
put-below v (w ∷ ws) a =
    let lt : nat_lt v w ≡ true = grind (arith, nat_tests, a.0) in
    ap (λ b. cond b (v ∷ w ∷ ws) (cond (v == w) (w ∷ ws) (w ∷ put v ws))) lt

-- a start below does not change what is joined above it
map_above : (f : Start) (xs : List Start) (ws : List ℕ) → Above f.home ws → map (joined_at (f ∷ xs)) ws ≡ map (joined_at xs) ws
map_above f xs [] a = refl
map_above f xs (w ∷ ws) a =
    let ne : (f.home == w) ≡ false = grind (arith, nat_tests, a.0) in
    let one : joined_at (f ∷ xs) w ≡ joined_at xs w =
    ap (λ b. record (first (cond b (f ∷ all_at xs w) (all_at xs w))) { size = greatest (cond b (f ∷ all_at xs w) (all_at xs w)) }) ne in
    let two = map_above f xs ws a.1 in
    cc

alone : (f : Start) (xs : List Start) → AllByRecursion (λ (s : Start). f.home < s.home) xs → joined_at (f ∷ xs) f.home ≡ f
alone f xs a =
    let eq : (f.home == f.home) ≡ true = grind (arith, nat_tests) in
    let none = none_at f.home xs a in
    ap (λ b. record (first (cond b (f ∷ all_at xs f.home) (all_at xs f.home))) { size = greatest (cond b (f ∷ all_at xs f.home) (all_at xs f.home)) }) eq
    ∙ ap (λ rest. record f { size = max f.size (greatest rest) }) none
    ∙ ap (λ n. record f { size = n }) (omega arith)

max_assoc : (a b c : ℕ) → max (max a b) c ≡ max a (max b c)
max_assoc a b c = omega arith

abbrev joint : List Start → Start
joint same = record (first same) { size = greatest same }

-- two starts of one home join as one
two_as_one : (f s : Start) (xs : List Start) (v : ℕ) → s.home ≡ f.home → joined_at (grown f s ∷ xs) v ≡ joined_at (f ∷ s ∷ xs) v
two_as_one f s xs v e =
    elim (cases_Bool (f.home == v)) [
      | inl p ↦
          let q : (s.home == v) ≡ true = subst (λ h. (h == v) ≡ true) (sym e) p in
          let xs' = all_at xs v in
          let one : all_at (grown f s ∷ xs) v ≡ grown f s ∷ xs' = ap (λ b. cond b (grown f s ∷ xs') xs') p in
          let two : all_at (s ∷ xs) v ≡ s ∷ xs' = ap (λ b. cond b (s ∷ xs') xs') q in
          let three : all_at (f ∷ s ∷ xs) v ≡ f ∷ s ∷ xs' = ap (λ b. cond b (f ∷ all_at (s ∷ xs) v) (all_at (s ∷ xs) v)) p ∙ ap (λ l. f ∷ l) two in
          ap joint one ∙ ap (λ n. record f { size = n }) (max_assoc f.size s.size (greatest xs')) ∙ ap joint (sym three)
      | inr p ↦
          let q : (s.home == v) ≡ false = subst (λ h. (h == v) ≡ false) (sym e) p in
          let xs' = all_at xs v in
          let one : all_at (grown f s ∷ xs) v ≡ xs' = ap (λ b. cond b (grown f s ∷ xs') xs') p in
          let two : all_at (s ∷ xs) v ≡ xs' = ap (λ b. cond b (s ∷ xs') xs') q in
          let three : all_at (f ∷ s ∷ xs) v ≡ xs' = ap (λ b. cond b (f ∷ all_at (s ∷ xs) v) (all_at (s ∷ xs) v)) p ∙ two in
          ap joint (one ∙ sym three)
    ]

again : (v : ℕ) (ws : List ℕ) → put v (put v ws) ≡ put v ws
again v [] =
    let lt : nat_lt v v ≡ false = grind (arith, nat_tests) in
    let eq : (v == v) ≡ true = grind (arith, nat_tests) in
    ap (λ b. cond b (v ∷ v ∷ []) (cond (v == v) (v ∷ []) (v ∷ v ∷ []))) lt ∙ ap (λ b. cond b (v ∷ []) (v ∷ v ∷ [])) eq
again v (w ∷ ws) =
    let lt : nat_lt v v ≡ false = grind (arith, nat_tests) in
    let eq : (v == v) ≡ true = grind (arith, nat_tests) in
    let P : List ℕ → Type 0 = λ l. put v l ≡ l in
    chosen (nat_lt v w) (v ∷ w ∷ ws) (cond (v == w) (w ∷ ws) (w ∷ put v ws)) P
    (λ e. ap (λ b. cond b (v ∷ v ∷ w ∷ ws) (cond (v == v) (v ∷ w ∷ ws) (v ∷ put v (w ∷ ws)))) lt ∙ ap (λ b. cond b (v ∷ w ∷ ws) (v ∷ put v (w ∷ ws))) eq)
    (λ e. chosen (v == w) (w ∷ ws) (w ∷ put v ws) P
    (λ f. ap (λ b. cond b (v ∷ w ∷ ws) (cond (v == w) (w ∷ ws) (w ∷ put v ws))) e ∙ ap (λ b. cond b (w ∷ ws) (w ∷ put v ws)) f)
    (λ f. ap (λ b. cond b (v ∷ w ∷ put v ws) (cond (v == w) (w ∷ put v ws) (w ∷ put v (put v ws)))) e
    ∙ ap (λ b. cond b (w ∷ put v ws) (w ∷ put v (put v ws))) f ∙ ap (λ l. w ∷ l) (again v ws)))

put_twice : (v w : ℕ) (ws : List ℕ) → v ≡ w → put v (put w ws) ≡ put v ws
put_twice v w ws e = subst (λ u. put v (put u ws) ≡ put v ws) e (again v ws)

merged_is : (f : Start) (starts : List Start) → Rises f.home starts → merged f starts ≡ map (joined_at (f ∷ starts)) (homes (f ∷ starts))
merged_is f [] r = ap (λ s. s ∷ []) (sym (alone f [] tt))
merged_is f (s ∷ starts) r =
    let P : List Start → Type 0 = λ l. l ≡ map (joined_at (f ∷ s ∷ starts)) (homes (f ∷ s ∷ starts)) in
    chosen (s.home == f.home) (merged (grown f s) starts) (f ∷ merged s starts) P
    (λ p.
    let e : s.home ≡ f.home = grind (arith, nat_tests, p) in
    merged_is (grown f s) starts (subst (λ h. Rises h starts) e r.1)
    ∙ ap (λ (g : ℕ → Start). map g (put f.home (homes starts))) (fun_ext (λ v. two_as_one f s starts v e))
    ∙ ap (map (joined_at (f ∷ s ∷ starts))) (sym (put_twice f.home s.home (homes starts) (sym e))))
    (λ p.
    let lt : f.home < s.home = grind (arith, nat_tests, p, r.0) in
    let above : AllByRecursion (λ (x : Start). f.home < x.home) (s ∷ starts) = (lt, later f.home s.home starts lt r.1) in
    let all = homes-above f.home (s ∷ starts) above in
    ap (λ t. f ∷ t) (merged_is s starts r.1)
    ∙ ap (λ t. f ∷ t) (sym (map_above f (s ∷ starts) (homes (s ∷ starts)) all))
    ∙ ap (λ h. h ∷ map (joined_at (f ∷ s ∷ starts)) (homes (s ∷ starts))) (sym (alone f (s ∷ starts) above))
    ∙ ap (map (joined_at (f ∷ s ∷ starts))) (sym (put-below f.home (homes (s ∷ starts)) all)))

rises : (low : ℕ) (xs : List Start) → ((d : Start) → 0 < length xs → low ≤ (get_or xs 0 d).home) → IsNonDecreasingBy (λ (s : Start). s.home) xs → Rises low xs
rises low [] h up = tt
rises low (x ∷ xs) h up =
    (h x (omega arith), rises x.home xs (λ d l. up 0 1 d (omega arith) (omega arith)) (λ i j d le lt. up (suc i) (suc j) d (omega arith) (omega arith)))

sorted_is : (ys : List Start) → IsNonDecreasingBy (λ (s : Start). s.home) ys → merged_all ys ≡ joined ys
unfolding joined
sorted_is [] up = refl
sorted_is (y ∷ ys) up = merged_is y ys (rises 0 (y ∷ ys) (λ d l. omega arith) up).1

same_at : (xs ys : List Start) (v : ℕ) → IsStableByKey (λ (s : Start). s.home) nat_cmp xs ys → all_at ys v ≡ all_at xs v
same_at xs ys v st =
    let x : Start = record no_start { home = v } in
    let lt = λ (a : Start) (b : Start). is_lt (nat_cmp a.home b.home) in
    filter_agree (λ (s : Start). s.home == v) (ties lt x) (λ s. tie s) ys ∙ st x ∙ sym (filter_agree (λ (s : Start). s.home == v) (ties lt x) (λ s. tie s) xs)
  where
    tie : (s : Start) → (s.home == v) ≡ (not (is_lt (nat_cmp v s.home)) && not (is_lt (nat_cmp s.home v)))
    tie s = grind (arith, nat_tests)

-- the pass over what a stable sort gives
pub joined-sorted : (xs ys : List Start) → IsPermutation xs ys → IsNonDecreasingBy (λ (s : Start). s.home) ys → IsStableByKey (λ (s : Start). s.home) nat_cmp xs ys → merged_all ys ≡ joined xs
unfolding joined
joined-sorted xs ys p up st =
    sorted_is ys up
    ∙ ap (λ (g : ℕ → Start). map g (homes ys)) (fun_ext (λ v. ap (λ same. record (first same) { size = greatest same }) (same_at xs ys v st)))
    ∙ ap (map (joined_at xs)) (homes-permutation xs ys p)
