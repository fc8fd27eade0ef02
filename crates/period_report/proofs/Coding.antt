-- SPDX-License-Identifier: Apache-2.0
-- The functions of a copy, one by one.
use Rattle.std.proofs.Common.{◌≡◌, ℕ, zero, suc, ◌+◌, List, [], ◌∷◌, ◌++◌, sym, ap, ◌∙◌, arith, append-nil}
use Rattle.std.specs.List.{flat_map, range_with_len}
use Rattle.std.proofs.lemmas.Grind.{flat_map-append}

range_more : (a n : ℕ) → range_with_len a (suc n) ≡ range_with_len a n ++ (a + n) ∷ []
range_more a zero = let e : a ≡ a + 0 = omega arith in ap (λ x. x ∷ []) e
range_more a (suc n) =
    let e : a + 1 + n ≡ a + suc n = omega arith in
    ap (λ xs. a ∷ xs) (range_more (a + 1) n ∙ ap (λ x. range_with_len (a + 1) n ++ x ∷ []) e)

pub function_more : (f : ℕ → List ℕ) (n : ℕ) (old new : List ℕ) → old ≡ flat_map f (range_with_len 0 n) → new ≡ old ++ f n → new ≡ flat_map f (range_with_len 0 (n + 1))
function_more f n old new eo en =
    let k : 0 + n ≡ n = omega arith in
    let m : n + 1 ≡ suc n = omega arith in
    en ∙ ap (λ xs. xs ++ f n) eo ∙ ap (λ ys. flat_map f (range_with_len 0 n) ++ ys) (sym (append-nil (f n)))
    ∙ sym (flat_map-append f (range_with_len 0 n) (n ∷ [])) ∙ ap (flat_map f) (ap (λ x. range_with_len 0 n ++ x ∷ []) (sym k) ∙ sym (range_more 0 n) ∙ ap (range_with_len 0) (sym m))
