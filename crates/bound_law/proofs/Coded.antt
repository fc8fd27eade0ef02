-- SPDX-License-Identifier: Apache-2.0
-- The bound image of a file that can be bound has the functions of what stands in the file, and words and regions of the
-- same sizes.
use Rattle.std.proofs.Common.{◌≡◌, ℕ, zero, suc, ◌+◌, ◌*◌, List, [], ◌∷◌, ◌++◌, length, get_or, refl, ap, ◌∙◌, arith, length-append}
use Rattle.std.specs.Prelude.{map}
use Rattle.std.proofs.lemmas.List.{length-map}
use Rattle.sh_types.specs.declared.code.Function.{Function}
use Rattle.sh_types.specs.declared.code.Region.{Region}
use Rattle.sh_types.specs.declared.relocs.Reloc.{Reloc}
use Rattle.elf_rules.specs.Bindable.{IsBindable, codes_in_order, data_regions, file_functions, filled_in_order, function_words, loaded_image}
use Rattle.elf_rules.specs.Coded.{IsCoded}
use Rattle.elf_rules.specs.Relocs.{relocs_of}
use Rattle.image_rules.specs.declared.tokens.Token.{Token}
use Rattle.image_rules.specs.Binding.{labels_of}
use Rattle.image_rules.specs.Bound.{bound_image, bound_parts, bound_region, bound_regions, bound_words, tokens_of, with_sites, words_by}
use Rattle.sh_types.specs.Image.{first_stack, sizes_of}
use Rattle.load_law.proofs.Coded.{accepted_coded}

length-words : (fs : List Function) (rs : List Reloc) (address : ℕ) (ws : List ℕ) → length (words_by fs rs address ws) ≡ length ws
length-words fs rs address [] = refl
length-words fs rs address (w ∷ ws) = let rest = length-words fs rs (address + 4) ws in omega (arith, rest)

length-bound : (b : List ℕ) (fs : List Function) (rs : List Reloc) (f : Function) → length (bound_words b fs rs f) ≡ length (function_words b (codes_in_order b) f)
unfolding bound_words
length-bound b fs rs f = length-words fs rs f.home (function_words b (codes_in_order b) f)

same_lengths : (b : List ℕ) (all : List Function) (rs : List Reloc) (fs : List Function) (k : ℕ) → length (get_or (map (bound_words b all rs) fs) k []) ≡ length (get_or (map (function_words b (codes_in_order b)) fs) k [])
same_lengths b all rs [] k = refl
same_lengths b all rs (f ∷ fs) zero = length-bound b all rs f
same_lengths b all rs (f ∷ fs) (suc k) = same_lengths b all rs fs k

sole : (rs : List Region) (stack : Region) → length (rs ++ stack ∷ []) ≡ 1 → (rs ++ stack ∷ []) ≡ stack ∷ []
sole [] stack e = refl
sole (r ∷ rs) stack e = absurd (omega (arith, e, length-append rs (stack ∷ [])))

stack_alone : (b : List ℕ) (ts : List Token) → length (bound_regions b ts) ≡ 1 → bound_regions b ts ≡ first_stack ∷ []
unfolding bound_regions
stack_alone b ts e = sole (map (bound_region ts) (data_regions b (codes_in_order b) (filled_in_order b))) first_stack e

module _ (b : List ℕ) (bindable : IsBindable b) where
  file : IsCoded (loaded_image b)
  file = accepted_coded b bindable

  many_words : length (map (bound_words b (file_functions b) (relocs_of b)) (file_functions b)) ≡ length (file_functions b)
  many_words = length-map (file_functions b) (bound_words b (file_functions b) (relocs_of b))

  coded : IsCoded (bound_image b)
  unfolding bound_image with_sites bound_parts loaded_image sizes_of
  coded =
      record {
        few = file.few;
        code = file.code;
        entry = file.entry;
        filled = file.filled;
        whole = file.whole;
        low = file.low;
        apart = file.apart;
        many = many_words;
        words = λ k l. ap (λ n. 4 * n) (same_lengths b (file_functions b) (relocs_of b) (file_functions b) k) ∙ file.words k l;
        stack = stack_alone b (tokens_of (file_functions b) (labels_of (file_functions b) (relocs_of b)) (relocs_of b));
      }

pub bound_coded : (b : List ℕ) → IsBindable b → IsCoded (bound_image b)
bound_coded b bindable = coded b bindable
