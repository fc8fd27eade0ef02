-- SPDX-License-Identifier: Apache-2.0
-- The list of the classes of a function.
use Rattle.std.proofs.Common.{◌≡◌, ℕ, zero, suc, ◌+◌, ◌-◌, ◌<◌, ◌≤◌, [], ◌∷◌, ◌++◌, List, append_assoc, append-nil, length, refl, sym, ap, ◌∙◌, arith}
use Rattle.std.specs.Prelude.{slice_index_or}
use Rattle.sh_types.specs.declared.code.Site.{Site}
use Rattle.sh_types.specs.declared.code.Site.TheVariants.{Plain}
use Rattle.sh_machines.specs.Class.{Source, class_at}
use Rattle.image_rules.specs.Bound.{classes_from, classes_of}

-- a step: one more class is found
pub class_more : (b : Source) (found more all : List Site) (s : Site) (k n : ℕ) → k < n → more ≡ found ++ s ∷ [] → s ≡ class_at b k → found ++ classes_from b k (n - k) ≡ all → more ++ classes_from b (k + 1) (n - (k + 1)) ≡ all
class_more b found more all s k n h m q e =
    let next : suc (n - (k + 1)) ≡ n - k = omega (arith, h) in
    let one : k + 1 ≡ suc k = omega arith in
    ap (λ (xs : List Site). xs ++ classes_from b (k + 1) (n - (k + 1))) (m ∙ ap (λ (x : Site). found ++ x ∷ []) q)
    ∙ append_assoc found (class_at b k ∷ []) (classes_from b (k + 1) (n - (k + 1)))
    ∙ ap (λ (j : ℕ). found ++ (class_at b k ∷ classes_from b j (n - (k + 1)))) one
    ∙ ap (λ (m : ℕ). found ++ classes_from b k m) next ∙ e

pub class_all : (b : Source) (found all : List Site) (k n : ℕ) → n ≤ k → found ++ classes_from b k (n - k) ≡ all → found ≡ all
class_all b found all k n h e =
    let none : n - k ≡ 0 = omega (arith, h) in
    sym (append-nil found) ∙ ap (λ (m : ℕ). found ++ classes_from b k m) (sym none) ∙ e

-- ---- by their numbers

from_count : (b : Source) (k n : ℕ) → length (classes_from b k n) ≡ n
from_count b k zero = refl
from_count b k (suc n) = ap suc (from_count b (suc k) n)

from_class : (b : Source) (j n k : ℕ) → k < n → slice_index_or (classes_from b j n) k Plain ≡ class_at b (j + k)
from_class b j zero k h = absurd (omega (arith, h))
from_class b j (suc n) zero h = ap (class_at b) (omega arith)
from_class b j (suc n) (suc k) h = from_class b (suc j) n k (omega (arith, h)) ∙ ap (class_at b) (omega arith)

from_none : (b : Source) (j n k : ℕ) → n ≤ k → slice_index_or (classes_from b j n) k Plain ≡ Plain
from_none b j zero k h = refl
from_none b j (suc n) zero h = absurd (omega (arith, h))
from_none b j (suc n) (suc k) h = from_none b (suc j) n k (omega (arith, h))

pub count : (b : Source) → length (classes_of b) ≡ length b.words
count b = from_count b 0 (length b.words)

pub class_there : (b : Source) (k : ℕ) → k < length b.words → slice_index_or (classes_of b) k Plain ≡ class_at b k
class_there b k h = from_class b 0 (length b.words) k h ∙ ap (class_at b) (omega arith)

pub none_there : (b : Source) (k : ℕ) → length b.words ≤ k → slice_index_or (classes_of b) k Plain ≡ Plain
none_there b k h = from_none b 0 (length b.words) k h
