-- SPDX-License-Identifier: Apache-2.0
-- The classes of the bound image of a file are those of its words.
use Rattle.std.proofs.Common.{◌≡◌, ◌⊎◌, inl, inr, ℕ, zero, suc, ◌+◌, ◌<◌, ◌≤◌, List, [], ◌∷◌, length, get_or, refl, ap, ◌∙◌, arith}
use Rattle.std.specs.Prelude.{slice_index_or}
use Rattle.std.proofs.lemmas.Bool.{cases_lt}
use Rattle.std.proofs.lemmas.List.{get_or_past}
use Rattle.sh_types.specs.declared.code.Function.{Function}
use Rattle.sh_types.specs.declared.code.Site.{Site}
use Rattle.sh_types.specs.declared.code.Site.TheVariants.{Plain}
use Rattle.elf_rules.specs.Bindable.{file_functions, loaded_image}
use Rattle.elf_rules.specs.Relocs.{relocs_of}
use Rattle.image_rules.specs.Bound.{bound_image, bound_parts, classes_from, classes_of, sites_from, with_sites}
use Rattle.sh_machines.specs.Class.{Source, class_at, source_of}

class_in : (s : Source) (k n i : ℕ) → i < n → get_or (classes_from s k n) i Plain ≡ class_at s (k + i)
class_in s k zero i l = absurd (omega (arith, l))
class_in s k (suc n) zero l = let e : k ≡ k + 0 = omega arith in ap (class_at s) e
class_in s k (suc n) (suc i) l = let e : suc k + i ≡ k + suc i = omega arith in class_in s (suc k) n i (omega (arith, l)) ∙ ap (class_at s) e

length-classes : (s : Source) (k n : ℕ) → length (classes_from s k n) ≡ n
length-classes s k zero = refl
length-classes s k (suc n) = let rest = length-classes s (suc k) n in omega (arith, rest)

site_in : (source : ℕ → Source) (j : ℕ) (fs : List Function) (f : ℕ) → f < length fs → get_or (sites_from source j fs) f [] ≡ classes_of (source (j + f))
site_in source j [] f l = absurd (omega (arith, l))
site_in source j (g ∷ gs) zero l = let e : j ≡ j + 0 = omega arith in ap (λ n. classes_of (source n)) e
site_in source j (g ∷ gs) (suc f) l = let e : suc j + f ≡ j + suc f = omega arith in site_in source (suc j) gs f (omega (arith, l)) ∙ ap (λ n. classes_of (source n)) e

-- counted from 0
first_class : (s : Source) (n i : ℕ) → i < n → get_or (classes_from s 0 n) i Plain ≡ class_at s i
first_class s n i l = let e : 0 + i ≡ i = omega arith in class_in s 0 n i l ∙ ap (class_at s) e

first_in : (source : ℕ → Source) (fs : List Function) (f : ℕ) → f < length fs → get_or (sites_from source 0 fs) f [] ≡ classes_of (source f)
first_in source fs f l = let e : 0 + f ≡ f = omega arith in site_in source 0 fs f l ∙ ap (λ n. classes_of (source n)) e

length-sites : (source : ℕ → Source) (j : ℕ) (fs : List Function) → length (sites_from source j fs) ≡ length fs
length-sites source j [] = refl
length-sites source j (g ∷ gs) = let rest = length-sites source (suc j) gs in omega (arith, rest)

-- the class that a word of the bound image has
pub site_is : (b : List ℕ) (f k : ℕ) → f < length (bound_image b).functions → k < length (slice_index_or (bound_image b).words f []) → slice_index_or (slice_index_or (bound_image b).sites f []) k Plain ≡ class_at (source_of (bound_image b) (relocs_of b) f) k
unfolding bound_image with_sites bound_parts loaded_image
site_is b f k l m =
    let s : ℕ → Source = source_of (bound_parts b (file_functions b) (relocs_of b)) (relocs_of b) in
    ap (λ (ss : List Site). get_or ss k Plain) (first_in s (file_functions b) f l) ∙ first_class (s f) (length (s f).words) k m

-- behind the last word, and the last function, there is none
pub no_site : (b : List ℕ) (f k : ℕ) → (length (bound_image b).functions ≤ f) ⊎ (length (slice_index_or (bound_image b).words f []) ≤ k) → slice_index_or (slice_index_or (bound_image b).sites f []) k Plain ≡ Plain
unfolding bound_image with_sites bound_parts loaded_image
no_site b f k h = elim (cases_lt f (length (file_functions b))) [
  | inl l ↦ within l h
  | inr l ↦ past l
]
  where
    s : ℕ → Source
    s = source_of (bound_parts b (file_functions b) (relocs_of b)) (relocs_of b)

    past : length (file_functions b) ≤ f → get_or (get_or (sites_from s 0 (file_functions b)) f []) k Plain ≡ Plain
    past l =
        let many = length-sites s 0 (file_functions b) in
        ap (λ (ss : List Site). get_or ss k Plain) (get_or_past (sites_from s 0 (file_functions b)) f [] (omega (arith, l, many)))

    within : f < length (file_functions b) → (length (file_functions b) ≤ f) ⊎ (length (s f).words ≤ k) → get_or (get_or (sites_from s 0 (file_functions b)) f []) k Plain ≡ Plain
    within l (inl m) = absurd (omega (arith, l, m))
    within l (inr m) =
        let many = length-classes (s f) 0 (length (s f).words) in
        ap (λ (ss : List Site). get_or ss k Plain) (first_in s (file_functions b) f l) ∙ get_or_past (classes_of (s f)) k Plain (omega (arith, m, many))
