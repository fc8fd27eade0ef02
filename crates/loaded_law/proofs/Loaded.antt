-- SPDX-License-Identifier: Apache-2.0
-- The framed image of an accepted file in which no function is refused is as loading finds it.
use Rattle.std.proofs.Common.{◌≡◌, ◌≢◌, ◌⊎◌, inl, inr, ℕ, ◌+◌, ◌%◌, ◌<◌, ◌≤◌, true, Some, None, List, [], length, sym, ap, ◌∙◌, subst, arith}
use Rattle.std.specs.Prelude.{◌==◌, slice_get, slice_index, slice_index_or}
use Rattle.std.proofs.lemmas.Bool.Decides.{nat_tests}
use Rattle.sh_types.specs.declared.code.Function.{Function}
use Rattle.sh_types.specs.Image.{sizes_of, starts_of}
use Rattle.sh_types.specs.Limits.{image_end}
use Rattle.elf_rules.specs.Bindable.{IsBindable, file_functions, loaded_image}
use Rattle.elf_rules.specs.Relocs.{relocs_of}
use Rattle.image_rules.specs.Bound.{bound_image, bound_parts, with_sites}
use Rattle.image_rules.specs.Framed.{AllFit, framed_image, with_frames, with_literals}
use Rattle.image_rules.specs.Refusals.{record_refusal}
use Rattle.sh_machines.specs.Tabled.{IsLoaded, IsSited, IsTabled}
use Rattle.sh_machines.specs.Tokens.{AreInOrder}
use Rattle.bound_law.proofs.Coded.{bound_coded}
use Rattle.bound_law.proofs.Rows.{row_low, row_other}
use Rattle.bound_law.proofs.Sited.{no_site, site_is}
use Rattle.loaded_law.proofs.Bodies.{bound_in_order}
use Rattle.loaded_law.proofs.Copied.{framed_few, many_sizes, same_sizes}
use Rattle.loaded_law.proofs.Frames.{fitted_at, found, no_record, no_rows_past}
use Rattle.loaded_law.proofs.Regions.{bound_low}

-- rows are functions, and not the entry, which no record refuses
row_placed : (b : List ℕ) (entry : Function) → slice_get (bound_image b).functions (bound_image b).entry ≡ Some entry → record_refusal true entry (relocs_of b) ≡ None → (k f : ℕ) → slice_get (bound_image b).rows k ≡ Some f → (f < length (bound_image b).functions) × (f ≢ (bound_image b).entry)
unfolding bound_image with_sites bound_parts loaded_image
row_placed b entry there none k f e = (row_low (file_functions b) (relocs_of b) k f e, row_other (file_functions b) (relocs_of b) (bound_image b).entry k f entry there none e)

module _ (b : List ℕ) (accepts : IsBindable b) where
  -- below the number of sizes is below the number of functions
  low_of : (f : ℕ) → f < length (sizes_of (framed_image b)) → f < length (bound_image b).functions
  low_of f l = let many = many_sizes b in omega (arith, l, many)

  past_of : (f : ℕ) → length (sizes_of (framed_image b)) ≤ f → length (bound_image b).functions ≤ f
  past_of f l = let many = many_sizes b in omega (arith, l, many)

  size_same : (f : ℕ) → slice_index (sizes_of (framed_image b)) f ≡ slice_index (sizes_of (bound_image b)) f
  size_same f = ap (λ sizes. slice_index sizes f) (same_sizes b)

  sited : IsSited (framed_image b) (relocs_of b)
  unfolding framed_image with_frames with_literals
  sited =
      record {
        sites = λ f k l m. site_is b f k (low_of f l) m;
        none = λ f k h. no_site b f k (beyond f k h);
        low = λ f l. below f (low_of f l);
        labels = λ j q e. ((bound_in_order b).pairs j q e).whole;
      }
    where
      beyond : (f k : ℕ) → (length (sizes_of (framed_image b)) ≤ f) ⊎ (length (slice_index_or (bound_image b).words f []) ≤ k) → (length (bound_image b).functions ≤ f) ⊎ (length (slice_index_or (bound_image b).words f []) ≤ k)
      beyond f k (inl l) = inl (past_of f l)
      beyond f k (inr l) = inr l

      below : (f : ℕ) → f < length (bound_image b).functions → slice_index (starts_of (bound_image b).functions) f + slice_index (sizes_of (framed_image b)) f ≤ image_end
      below f l = let low = (bound_coded b accepts).low f l in let same = size_same f in omega (arith, low, same)

  module _ (fit : AllFit (bound_image b) (relocs_of b)) where
    tabled : IsTabled (framed_image b)
    unfolding framed_image with_frames with_literals
    tabled =
        record {
          words = λ f l. (bound_coded b accepts).words f (low_of f l) ∙ sym (size_same f);
          rows = λ f l. (fitted_at b accepts f (low_of f l) fit).long;
          none = λ f l. no_rows_past b f (past_of f l);
          least = λ f l. (fitted_at b accepts f (low_of f l) fit).least;
        }

    rows : (k f : ℕ) → slice_get (bound_image b).rows k ≡ Some f → (f < length (sizes_of (framed_image b))) × (f ≢ (bound_image b).entry)
    rows k f e =
        let coded = bound_coded b accepts in
        let there = found (bound_image b).functions (bound_image b).entry coded.entry in
        let same : ((bound_image b).entry == (bound_image b).entry) ≡ true = grind (arith, nat_tests) in
        let none = no_record (bound_image b) (relocs_of b) fit (bound_image b).entry there.value there.there in
        let placed = row_placed b there.value there.there (subst (λ t. record_refusal t there.value (relocs_of b) ≡ None) same none) k f e in
        let many = many_sizes b in
        (omega (arith, placed.0, many), placed.1)

    entry : (bound_image b).entry < length (sizes_of (framed_image b))
    entry = let entry = (bound_coded b accepts).entry in let many = many_sizes b in omega (arith, entry, many)

    pub loaded : IsLoaded (framed_image b) (relocs_of b)
    unfolding framed_image with_frames with_literals
    loaded =
        record {
          entry = entry;
          whole = subst (λ sizes. (f : ℕ) → slice_index sizes f % 4 ≡ 0) (sym (same_sizes b)) (bound_coded b accepts).whole;
          low = bound_low b accepts;
          rows = rows;
          ordered = subst (λ sizes. AreInOrder sizes (bound_image b).rows (bound_image b).labels) (sym (same_sizes b)) (bound_in_order b);
          literals = let few = framed_few b accepts in omega (arith, few);
          tabled = tabled;
          sited = sited;
        }
