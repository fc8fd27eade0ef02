-- SPDX-License-Identifier: Apache-2.0
-- The regions of the bound image of an accepted file end where the first stack does, or before.
use Rattle.std.proofs.Common.{◌≡◌, ℕ, zero, suc, ◌+◌, ◌<◌, ◌≤◌, Some, List, [], ◌∷◌, ◌++◌, length, get_or, refl, sym, ap, ◌∙◌, subst, arith, length-append}
use Rattle.std.specs.Prelude.{map, slice_get}
use Rattle.std.proofs.lemmas.List.{get_or-append-add}
use Rattle.sh_types.specs.declared.code.Region.{Region}
use Rattle.sh_types.specs.Image.{first_stack}
use Rattle.sh_types.specs.Limits.{first_cell}
use Rattle.elf_rules.specs.Bindable.{IsBindable, codes_in_order, data_regions, file_functions, filled_in_order}
use Rattle.elf_rules.specs.Relocs.{relocs_of}
use Rattle.image_rules.specs.Binding.{labels_of}
use Rattle.image_rules.specs.Bound.{bound_image, bound_parts, bound_region, bound_regions, tokens_of, with_sites}
use Rattle.load_law.proofs.Coded.{taken}
use Rattle.load_law.proofs.Rising.{regions_apart}
use Rattle.load_law.proofs.Stack.{stack_end_is, stack_start_is}
use Rattle.region_law.proofs.Regions.{bound_apart}

-- each ends where the next starts or before, and so where the last ends or before
low_each : (rs : List Region) (last : Region) (end : ℕ) → last.start ≤ end → last.end ≤ end → ((j k : ℕ) (d : Region) → j < k → k < length (rs ++ last ∷ []) → (get_or (rs ++ last ∷ []) j d).end ≤ (get_or (rs ++ last ∷ []) k d).start) → (k : ℕ) (r : Region) → slice_get (rs ++ last ∷ []) k ≡ Some r → r.end ≤ end
low_each [] last end s e apart zero r is = let q : last ≡ r = cc in subst (λ (r : Region). r.end ≤ end) q e
low_each [] last end s e apart (suc k) r is = absurd (cc)
low_each (x ∷ rs) last end s e apart zero r is =
    let q : x ≡ r = cc in
    let many = length-append rs (last ∷ []) in
    let n : length rs + 0 ≡ length rs = omega arith in
    let at = ap (λ (r : Region). r.start) (sym (ap (λ k. get_or (rs ++ last ∷ []) k x) n) ∙ get_or-append-add rs (last ∷ []) 0 x) in
    let near = apart 0 (suc (length rs)) x (omega arith) (omega (arith, many)) in
    subst (λ (r : Region). r.end ≤ end) q (omega (arith, near, at, s))
low_each (x ∷ rs) last end s e apart (suc k) r is =
    low_each rs last end s e (λ i j d l m. apart (suc i) (suc j) d (omega (arith, l)) (omega (arith, m))) k r is

-- the last is the first stack
with_stack : (b : List ℕ) → (bound_image b).regions ≡ map (bound_region (tokens_of (file_functions b) (labels_of (file_functions b) (relocs_of b)) (relocs_of b))) (data_regions b (codes_in_order b) (filled_in_order b)) ++ first_stack ∷ []
unfolding bound_image with_sites bound_parts bound_regions
with_stack b = refl

pub bound_low : (b : List ℕ) → IsBindable b → (k : ℕ) (r : Region) → slice_get (bound_image b).regions k ≡ Some r → r.end ≤ first_cell
bound_low b accepts =
    subst (λ rs. ((j k : ℕ) (d : Region) → j < k → k < length rs → (get_or rs j d).end ≤ (get_or rs k d).start) → (k : ℕ) (r : Region) → slice_get rs k ≡ Some r → r.end ≤ first_cell) (sym (with_stack b))
    (low_each (map (bound_region (tokens_of (file_functions b) (labels_of (file_functions b) (relocs_of b)) (relocs_of b))) (data_regions b (codes_in_order b) (filled_in_order b))) first_stack first_cell (omega (arith, stack_start_is)) (omega (arith, stack_end_is)))
    (bound_apart b (regions_apart b (taken b accepts).tables))
