-- SPDX-License-Identifier: Apache-2.0
-- The framed image of a bindable file has the words of its functions, and regions that rise, share no byte and are full.
use Rattle.std.proofs.Common.{◌≡◌, inl, inr, ℕ, ◌*◌, ◌<◌, ◌≤◌, List, [], length, get_or, refl, sym, ap, ◌∙◌, subst, arith}
use Rattle.std.specs.Prelude.{All, slice_index, slice_index_or}
use Rattle.std.proofs.lemmas.Bool.{cases_lt}
use Rattle.std.proofs.lemmas.List.{get_or_past}
use Rattle.sh_types.specs.declared.code.Region.{Region}
use Rattle.sh_types.specs.Image.{sizes_of}
use Rattle.elf_rules.specs.Bindable.{IsBindable}
use Rattle.image_rules.specs.Bound.{bound_image}
use Rattle.image_rules.specs.Framed.{framed_image, with_frames, with_literals}
use Rattle.load_law.specs.Readable.{IsFull}
use Rattle.load_law.proofs.Coded.{taken}
use Rattle.load_law.proofs.Rising.{regions_apart, regions_full}
use Rattle.region_law.proofs.Regions.{bound_apart, bound_full}
use Rattle.bound_law.proofs.Coded.{bound_coded}
use Rattle.loaded_law.proofs.Copied.{many_sizes, same_sizes}

same_words : (b : List ℕ) → (framed_image b).words ≡ (bound_image b).words
unfolding framed_image with_frames with_literals
same_words b = refl

same_regions : (b : List ℕ) → (framed_image b).regions ≡ (bound_image b).regions
unfolding framed_image with_frames with_literals
same_regions b = refl

module _ (b : List ℕ) (accepts : IsBindable b) where
  bound_words : (f : ℕ) → 4 * length (slice_index_or (bound_image b).words f []) ≡ slice_index (sizes_of (framed_image b)) f
  bound_words f =
      let coded = bound_coded b accepts in
      let many = many_sizes b in
      elim (cases_lt f (length (bound_image b).functions)) [
        | inl l ↦ coded.words f l ∙ ap (λ sizes. slice_index sizes f) (sym (same_sizes b))
        | inr past ↦
            let words : slice_index_or (bound_image b).words f [] ≡ [] = let more = coded.many in get_or_past (bound_image b).words f [] (omega (arith, past, more)) in
            let size : slice_index (sizes_of (framed_image b)) f ≡ 0 = get_or_past (sizes_of (framed_image b)) f 0 (omega (arith, past, many)) in
            let none = ap (length {A = ℕ}) words in
            omega (arith, none, size)
      ]

  pub framed_words : (f : ℕ) → 4 * length (slice_index_or (framed_image b).words f []) ≡ slice_index (sizes_of (framed_image b)) f
  framed_words f = ap (λ words. 4 * length (slice_index_or words f [])) (same_words b) ∙ bound_words f

  pub framed_apart : (j k : ℕ) (d : Region) → j < k → k < length (framed_image b).regions → (slice_index_or (framed_image b).regions j d).end ≤ (slice_index_or (framed_image b).regions k d).start
  framed_apart =
      subst (λ rs. (j k : ℕ) (d : Region) → j < k → k < length rs → (get_or rs j d).end ≤ (get_or rs k d).start) (sym (same_regions b))
      (bound_apart b (regions_apart b (taken b accepts).tables))

  pub framed_full : All IsFull (framed_image b).regions
  framed_full = subst (All IsFull) (sym (same_regions b)) (bound_full b (regions_full b (taken b accepts).tables))
