-- SPDX-License-Identifier: Apache-2.0
-- What the walk of a function's words asks for, of the functions of bound images.
use Rattle.std.proofs.Common.{◌≡◌, ◌⊎◌, inl, inr, ℕ, zero, suc, ◌+◌, ◌*◌, ◌<◌, ◌≤◌, List, [], ◌∷◌, length, get_or, refl, ap, ◌∙◌, arith}
use Rattle.std.specs.Prelude.{slice_index, slice_index_or}
use Rattle.std.specs.List.Sorted.{IsNonDecreasingBy}
use Rattle.std.proofs.lemmas.Bool.{cases_lt}
use Rattle.std.proofs.lemmas.Option.{slice_get-get_or}
use Rattle.sh_types.specs.declared.code.Function.{Function}
use Rattle.sh_types.specs.declared.code.Pair.{Pair}
use Rattle.sh_types.specs.Image.{sizes_of}
use Rattle.sh_types.specs.Limits.{most_code}
use Rattle.elf_rules.specs.Bindable.{IsBindable, file_functions, loaded_image, sum_of}
use Rattle.elf_rules.specs.Relocs.{relocs_of}
use Rattle.sh_machines.specs.Class.{Source, source_of}
use Rattle.image_rules.specs.Bound.{bound_image, bound_parts, classes_from, sites_from, with_sites}
use Rattle.bound_law.proofs.Coded.{bound_coded}
use Rattle.loaded_law.proofs.Bodies.{bound_in_order}

-- ---- how many words

one_low : (sizes : List ℕ) (f : ℕ) → slice_index sizes f ≤ sum_of sizes
one_low [] f = omega arith
one_low (s ∷ ss) zero = omega arith
one_low (s ∷ ss) (suc f) = let rest = one_low ss f in omega (arith, rest)

pub words_few : (b : List ℕ) (f : ℕ) → IsBindable b → f < length (bound_image b).functions → 4 * length (slice_index_or (bound_image b).words f []) ≤ most_code
words_few b f accepts l =
    let coded = bound_coded b accepts in
    let size = coded.words f l in
    let one = one_low (sizes_of (bound_image b)) f in
    let code = coded.code in
    omega (arith, size, one, code)

-- ---- as many classes

length-classes : (s : Source) (k n : ℕ) → length (classes_from s k n) ≡ n
length-classes s k zero = refl
length-classes s k (suc n) = ap suc (length-classes s (suc k) n)

sites_long : (source : ℕ → Source) (j f : ℕ) (gs : List Function) → f < length gs → length (get_or (sites_from source j gs) f []) ≡ length (source (j + f)).words
sites_long source j f [] l = absurd (omega (arith, l))
sites_long source j zero (g ∷ gs) l =
    let e : j ≡ j + 0 = omega arith in length-classes (source j) 0 (length (source j).words) ∙ ap (λ n. length (source n).words) e
sites_long source j (suc f) (g ∷ gs) l =
    let e : suc j + f ≡ j + suc f = omega arith in sites_long source (suc j) f gs (omega (arith, l)) ∙ ap (λ n. length (source n).words) e

pub sites_many : (b : List ℕ) (f : ℕ) → f < length (bound_image b).functions → length (slice_index_or (bound_image b).sites f []) ≡ length (slice_index_or (bound_image b).words f [])
unfolding bound_image with_sites bound_parts loaded_image
sites_many b f l =
    let source : ℕ → Source = source_of (bound_parts b (file_functions b) (relocs_of b)) (relocs_of b) in
    let e : 0 + f ≡ f = omega arith in
    sites_long source 0 f (file_functions b) l ∙ ap (λ n. length (source n).words) e

-- ---- labels by rising function

pub labels_rise : (b : List ℕ) → IsNonDecreasingBy (λ (q : Pair). q.func) (bound_image b).labels
labels_rise b i j d le lt = elim (cases_lt i j) [
  | inl l ↦ before ((bound_in_order b).labels_rise i j _ _ l (slice_get-get_or (bound_image b).labels i d (omega (arith, l, lt))) (slice_get-get_or (bound_image b).labels j d lt))
  | inr g ↦
      let e : i ≡ j = omega (arith, le, g) in
      let same = ap (λ k. (get_or (bound_image b).labels k d).func) e in
      omega (arith, same)
]
  where
    before : {p q : Pair} → (p.func < q.func) ⊎ ((p.func ≡ q.func) × (p.off < q.off)) → p.func ≤ q.func
    before (inl l) = omega (arith, l)
    before (inr h) = let e = h.0 in omega (arith, e)
