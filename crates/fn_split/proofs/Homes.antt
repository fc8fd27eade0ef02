-- SPDX-License-Identifier: Apache-2.0
-- Homes rise, hold what the starts hold, and do not depend on the starts' order.
use Rattle.std.proofs.Common.{◌≡◌, ℕ, ◌<◌, ◌≤◌, Bool, true, false, cond, ◌||◌, List, [], ◌∷◌, refl, sym, ap, ◌∙◌, subst, arith, inl, inr}
use Rattle.std.specs.Prelude.{◌==◌, nat_lt}
use Rattle.std.specs.List.{list_any, AllByRecursion}
use Rattle.std.specs.List.Sorted.{IsPermutation}
use Rattle.std.proofs.lemmas.List.Sorted.{list_any-IsPermutation}
use Rattle.std.proofs.lemmas.Bool.{false≢true, true≢false, cases_order, cases_Bool}
use Rattle.std.proofs.lemmas.Bool.Decides.{nat_tests}
use Rattle.elf_rules.specs.declared.starts.Start.{Start}
use Rattle.elf_rules.specs.Splitting.{put, homes}

pub chosen : {X : Type 0} (b : Bool) (x y : X) (P : X → Type 0) → (b ≡ true → P x) → (b ≡ false → P y) → P (cond b x y)
chosen true x y P f g = f refl
chosen false x y P f g = g refl

abbrev pub Above : ℕ → List ℕ → Type 0
Above v ws = AllByRecursion (λ w. v < w) ws

abbrev pub Up : List ℕ → Type 0
Up [] = Unit {0}
Up (w ∷ ws) = Above w ws × Up ws

pub above_less : (u v : ℕ) (ws : List ℕ) → u ≤ v → Above v ws → Above u ws
above_less u v [] h a = tt
above_less u v (w ∷ ws) h a = (omega (arith, a.0), above_less u v ws h a.1)

pub put-above : (u v : ℕ) (ws : List ℕ) → u < v → Above u ws → Above u (put v ws)
put-above u v [] h a = (h, tt)
put-above u v (w ∷ ws) h a =
    chosen (nat_lt v w) (v ∷ w ∷ ws) _ (Above u) (λ e. (h, a))
    (λ e. chosen (v == w) (w ∷ ws) (w ∷ put v ws) (Above u) (λ f. a) (λ f. (a.0, put-above u v ws h a.1)))

pub put-up : (v : ℕ) (ws : List ℕ) → Up ws → Up (put v ws)
put-up v [] u = (tt, tt)
put-up v (w ∷ ws) u =
    chosen (nat_lt v w) (v ∷ w ∷ ws) _ Up
    (λ e. let lt : v < w = grind (arith, nat_tests, e) in ((lt, above_less v w ws (omega (arith, lt)) u.0), u))
    (λ e. chosen (v == w) (w ∷ ws) (w ∷ put v ws) Up (λ f. u)
    (λ f. let lt : w < v = grind (arith, nat_tests, e, f) in (put-above w v ws lt u.0, put-up v ws u.1)))

pub homes-up : (starts : List Start) → Up (homes starts)
homes-up [] = tt
homes-up (s ∷ starts) = put-up s.home (homes starts) (homes-up starts)

has : ℕ → List ℕ → Bool
has v ws = list_any (λ w. w == v) ws

has-cons : (v w : ℕ) (ws : List ℕ) → has v (w ∷ ws) ≡ (w == v || has v ws)
unfolding has
has-cons v w ws = refl

has-nil : (v : ℕ) → has v [] ≡ false
unfolding has
has-nil v = refl

swapped : (a b c : Bool) → (a || (b || c)) ≡ (b || (a || c))
swapped true true c = refl
swapped true false c = refl
swapped false b c = refl

has-put : (v w : ℕ) (ws : List ℕ) → has v (put w ws) ≡ (w == v || has v ws)
has-put v w [] = has-cons v w []
has-put v w (x ∷ ws) =
    let one = has-cons v x ws in
    let two = has-cons v x (put w ws) in
    let three = has-put v w ws in
    let P : List ℕ → Type 0 = λ l. has v l ≡ (w == v || has v (x ∷ ws)) in
    chosen (nat_lt w x) (w ∷ x ∷ ws) _ P (λ e. has-cons v w (x ∷ ws))
    (λ e. chosen (w == x) (x ∷ ws) (x ∷ put w ws) P
    (λ f. let same : w ≡ x = grind (arith, nat_tests, f) in grind (arith, nat_tests, same, one))
    (λ f. two ∙ ap (λ b. x == v || b) three ∙ swapped (x == v) (w == v) (has v ws) ∙ ap (λ b. w == v || b) (sym one)))

has-homes : (v : ℕ) (starts : List Start) → has v (homes starts) ≡ list_any (λ (s : Start). s.home == v) starts
has-homes v [] = has-nil v
has-homes v (s ∷ starts) = has-put v s.home (homes starts) ∙ ap (λ b. s.home == v || b) (has-homes v starts)

has-above : (v : ℕ) (ws : List ℕ) → Above v ws → has v ws ≡ false
has-above v [] a = has-nil v
has-above v (w ∷ ws) a =
    let one = has-cons v w ws in
    let ih = has-above v ws a.1 in
    let ne = a.0 in
    grind (arith, nat_tests, one, ih, ne)

has-head : (w : ℕ) (ws : List ℕ) → has w (w ∷ ws) ≡ true
has-head w ws =
    let one = has-cons w w ws in
    grind (arith, nat_tests, one)

-- rising lists that hold the same are the same
same_up : (us vs : List ℕ) → Up us → Up vs → ((n : ℕ) → has n us ≡ has n vs) → us ≡ vs
same_up [] [] a b h = refl
same_up [] (v ∷ vs) a b h = absurd (false≢true (sym (has-nil v) ∙ h v ∙ has-head v vs))
same_up (u ∷ us) [] a b h = absurd (false≢true (sym (has-nil u) ∙ sym (h u) ∙ has-head u us))
same_up (u ∷ us) (v ∷ vs) a b h =
    elim (cases_order u v) [
      | inl e ↦ both u v us vs e (same_up us vs a.1 b.1 (rest u v us vs e a.0 b.0 h))
      | inr o ↦ elim o [
        | inl lt ↦ absurd (true≢false (sym (has-head u us) ∙ h u ∙ has-above u (v ∷ vs) (lt, above_less u v vs (omega (arith, lt)) b.0)))
        | inr lt ↦ absurd (true≢false (sym (has-head v vs) ∙ sym (h v) ∙ has-above v (u ∷ us) (lt, above_less v u us (omega (arith, lt)) a.0)))
      ]
    ]
  where
    both : (u v : ℕ) (us vs : List ℕ) → u ≡ v → us ≡ vs → (u ∷ us) ≡ (v ∷ vs)
    both u v us vs e f = cc

    rest : (u v : ℕ) (us vs : List ℕ) → u ≡ v → Above u us → Above v vs → ((n : ℕ) → has n (u ∷ us) ≡ has n (v ∷ vs)) → (n : ℕ) → has n us ≡ has n vs
    rest u v us vs e a b h n =
        elim (cases_Bool (u == n)) [
          | inl f ↦
              let same : u ≡ n = grind (arith, nat_tests, f) in
              subst (λ m. has m us ≡ false) same (has-above u us a) ∙ sym (subst (λ m. has m vs ≡ false) (sym e ∙ same) (has-above v vs b))
          | inr f ↦
              let g : (v == n) ≡ false = subst (λ m. (m == n) ≡ false) e f in
              sym (has-cons n u us ∙ ap (λ x. x || has n us) f) ∙ h n ∙ has-cons n v vs ∙ ap (λ x. x || has n vs) g
        ]

pub homes-permutation : (xs ys : List Start) → IsPermutation xs ys → homes ys ≡ homes xs
homes-permutation xs ys p =
    same_up (homes ys) (homes xs) (homes-up ys) (homes-up xs) (λ n. has-homes n ys ∙ sym (list_any-IsPermutation (λ (s : Start). s.home == n) xs ys p) ∙ sym (has-homes n xs))
