-- SPDX-License-Identifier: Apache-2.0
-- A copy of the framed image of an accepted file can be made.
use Rattle.std.proofs.Common.{◌≡◌, ℕ, ◌+◌, ◌*◌, ◌/◌, ◌%◌, ◌<◌, ◌≤◌, true, List, [], ◌∷◌, length, refl, sym, ap, subst, arith}
use Rattle.std.specs.Prelude.{slice_index}
use Rattle.std.specs.List.{list_all}
use Rattle.std.proofs.lemmas.List.{length-map}
use Rattle.sh_types.specs.declared.code.Function.{Function}
use Rattle.sh_types.specs.Image.{sizes_of}
use Rattle.sh_types.specs.Limits.{most_code}
use Rattle.sh_types.specs.Sized.{IsSized, total}
use Rattle.elf_rules.specs.Bindable.{IsBindable, file_functions, loaded_image, sum_of}
use Rattle.elf_rules.specs.Relocs.{relocs_of}
use Rattle.image_rules.specs.Bound.{bound_image, bound_parts, with_sites}
use Rattle.image_rules.specs.Framed.{framed_image, with_frames, with_literals}
use Rattle.sh_machines.specs.Class.{source_of}
use Rattle.sh_machines.specs.Copy.{IsCopyable, goes_to, literals_below}
use Rattle.bound_law.proofs.Coded.{bound_coded}
use Rattle.loaded_law.proofs.Literals.{few_literals}
use Rattle.loaded_law.proofs.Through.{bound_through, sites_go}

-- ---- the functions are those of the bound image

pub same_sizes : (b : List ℕ) → sizes_of (framed_image b) ≡ sizes_of (bound_image b)
unfolding framed_image with_frames with_literals sizes_of
same_sizes b = refl

pub many_sizes : (b : List ℕ) → length (sizes_of (framed_image b)) ≡ length (bound_image b).functions
unfolding framed_image with_frames with_literals sizes_of
many_sizes b = length-map (bound_image b).functions (λ (f : Function). f.size)

same_functions : (b : List ℕ) → (framed_image b).functions ≡ (bound_image b).functions
unfolding framed_image with_frames with_literals
same_functions b = refl

pub framed_few : (b : List ℕ) → IsBindable b → 4 * literals_below (framed_image b) (length (sizes_of (framed_image b))) ≤ most_code
framed_few b accepts =
    let few = few_literals (framed_image b) in
    let code = (bound_coded b accepts).code in
    let same = ap sum_of (same_sizes b) in
    omega (arith, few, code, same)

-- ---- sizes

total_is : (sizes : List ℕ) → total sizes ≡ sum_of sizes + 4 * length sizes
total_is [] = refl
total_is (s ∷ ss) = let rest = total_is ss in omega (arith, rest)

pub framed_sized : (b : List ℕ) → IsBindable b → IsSized (sizes_of (framed_image b))
framed_sized b accepts =
    let coded = bound_coded b accepts in
    let many = many_sizes b in
    let sum = total_is (sizes_of (framed_image b)) in
    let same = ap sum_of (same_sizes b) in
    let few = coded.few in
    let code = coded.code in
    let entry = coded.entry in
    record {
      some = omega (arith, many, entry);
      few = omega (arith, many, few);
      fits = omega (arith, many, sum, same, few, code);
      whole = subst (λ sizes. (i : ℕ) → slice_index sizes i % 4 ≡ 0) (sym (same_sizes b)) coded.whole;
    }

-- ---- classes

bound_goes : (b : List ℕ) → list_all (λ sites. list_all (goes_to (length (bound_image b).functions)) sites) (bound_image b).sites ≡ true
unfolding bound_image with_sites bound_parts loaded_image
bound_goes b = sites_go (source_of (bound_parts b (file_functions b) (relocs_of b)) (relocs_of b)) (length (file_functions b)) (λ f. refl) 0 (file_functions b)

few_of : (b : List ℕ) → IsBindable b → literals_below (framed_image b) (length (framed_image b).functions) ≤ most_code / 4
few_of b accepts =
    let few = framed_few b accepts in
    let many = ap (literals_below (framed_image b)) (many_sizes b) in
    let same = ap (λ fs. literals_below (framed_image b) (length fs)) (same_functions b) in
    omega (arith, few, many, same)

pub framed_copyable : (b : List ℕ) → IsBindable b → IsCopyable (framed_image b)
unfolding framed_image with_frames with_literals
framed_copyable b accepts = record { goes = bound_goes b; literals = few_of b accepts; through = λ p i t e. bound_through b p t i e }

pub framed_entry : (b : List ℕ) → IsBindable b → (framed_image b).entry < length (framed_image b).functions
unfolding framed_image with_frames with_literals
framed_entry b accepts = (bound_coded b accepts).entry
