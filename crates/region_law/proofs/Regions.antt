-- SPDX-License-Identifier: Apache-2.0
-- The regions of the bound image of a file, by those of the file.
use Rattle.std.proofs.Common.{◌≡◌, inl, inr, ℕ, ◌<◌, ◌≤◌, Option, Some, None, List, [], ◌∷◌, ◌++◌, length, get_or, refl, sym, ap, ◌∙◌, subst, arith, All}
use Rattle.std.specs.Prelude.{find}
use Rattle.std.proofs.lemmas.Bool.{cases_Bool}
use Rattle.std.proofs.lemmas.List.Elements.{All-from_recursion, recursion_from_All}
use Rattle.sh_types.specs.declared.code.Region.{Region}
use Rattle.sh_types.specs.Image.{first_stack}
use Rattle.elf_rules.specs.Bindable.{codes_in_order, data_regions, file_functions, file_regions, filled_in_order}
use Rattle.elf_rules.specs.ElfRules.{first_failing, table_rules}
use Rattle.elf_rules.specs.Relocs.{relocs_of}
use Rattle.image_rules.specs.declared.tokens.Token.{Token}
use Rattle.image_rules.specs.Binding.{labels_of}
use Rattle.image_rules.specs.Bound.{bound_image, bound_parts, bound_regions, takes_byte, with_sites}
use Rattle.load_law.specs.Placed.{HasBytes}
use Rattle.load_law.specs.Readable.{IsFull, Readable, is_stack_at, read_at, readable_at}
use Rattle.load_law.proofs.Stack.{stack_passed}
use Rattle.region_law.specs.BoundReadable.{bound_readable_at, data_tokens, with_token}
use Rattle.region_law.proofs.Lists.{all_full, all_read, length-bound, same_end, same_start}
use Rattle.region_law.proofs.StackTokens.{stack_untaken}

-- no token changes nothing
untouched : (a : ℕ) (o : Option Readable) → with_token a None o ≡ o
untouched a None = refl
untouched a (Some r) = refl

module _ (b : List ℕ) where
  abbrev parts : List Region
  parts = data_regions b (codes_in_order b) (filled_in_order b)

  regions_are : (bound_image b).regions ≡ bound_regions b (data_tokens b)
  unfolding bound_image with_sites bound_parts
  regions_are = refl

  -- ---- where they lie

  apart : (ts : List Token) → ((j k : ℕ) (d : Region) → j < k → k < length (file_regions b) → (get_or (file_regions b) j d).end ≤ (get_or (file_regions b) k d).start) → (j k : ℕ) (d : Region) → j < k → k < length (bound_regions b ts) → (get_or (bound_regions b ts) j d).end ≤ (get_or (bound_regions b ts) k d).start
  unfolding file_regions bound_regions
  apart ts file j k d l m =
      let inner : k < length (parts ++ first_stack ∷ []) = omega (arith, m, length-bound ts parts (first_stack ∷ [])) in
      let end = same_end ts parts (first_stack ∷ []) j d in
      let start = same_start ts parts (first_stack ∷ []) k d in
      omega (arith, file j k d l inner, end, start)

  full : (ts : List Token) → All IsFull (file_regions b) → All IsFull (bound_regions b ts)
  unfolding file_regions bound_regions
  full ts file = All-from_recursion IsFull (bound_regions b ts) (all_full ts parts (first_stack ∷ []) (recursion_from_All IsFull (file_regions b) file))

  pub bound_apart : ((j k : ℕ) (d : Region) → j < k → k < length (file_regions b) → (get_or (file_regions b) j d).end ≤ (get_or (file_regions b) k d).start) → (j k : ℕ) (d : Region) → j < k → k < length (bound_image b).regions → (get_or (bound_image b).regions j d).end ≤ (get_or (bound_image b).regions k d).start
  bound_apart file =
      subst (λ rs. (j k : ℕ) (d : Region) → j < k → k < length rs → (get_or rs j d).end ≤ (get_or rs k d).start) (sym regions_are) (apart (data_tokens b) file)

  pub bound_full : All IsFull (file_regions b) → All IsFull (bound_image b).regions
  bound_full file = subst (All IsFull) (sym regions_are) (full (data_tokens b) file)

  -- ---- what they read

  stack_same : (a : ℕ) → first_failing table_rules b ≡ None → All (HasBytes b) (relocs_of b) → read_at (first_stack ∷ []) a ≡ with_token a (find (takes_byte a) (data_tokens b)) (read_at (first_stack ∷ []) a)
  stack_same a fine bytes =
      elim (cases_Bool (is_stack_at a)) [
        | inl e ↦
            let none = stack_untaken b (file_functions b) (labels_of (file_functions b) (relocs_of b)) a fine bytes e in
            sym (ap (λ t. with_token a t (read_at (first_stack ∷ []) a)) none ∙ untouched a (read_at (first_stack ∷ []) a))
        | inr e ↦
            let none = stack_passed a e in
            none ∙ sym (ap (with_token a (find (takes_byte a) (data_tokens b))) none)
      ]

  reads : (a : ℕ) → first_failing table_rules b ≡ None → All (HasBytes b) (relocs_of b) → All IsFull (file_regions b) → read_at (bound_regions b (data_tokens b)) a ≡ with_token a (find (takes_byte a) (data_tokens b)) (read_at (file_regions b) a)
  unfolding file_regions bound_regions
  reads a fine bytes file = all_read (data_tokens b) a parts (first_stack ∷ []) (recursion_from_All IsFull (file_regions b) file) (stack_same a fine bytes)

  pub bound_reads : (a : ℕ) → first_failing table_rules b ≡ None → All (HasBytes b) (relocs_of b) → All IsFull (file_regions b) → read_at (file_regions b) a ≡ readable_at b a → read_at (bound_image b).regions a ≡ bound_readable_at b a
  unfolding bound_readable_at
  bound_reads a fine bytes file same =
      ap (λ rs. read_at rs a) regions_are ∙ reads a fine bytes file ∙ ap (with_token a (find (takes_byte a) (data_tokens b))) same
