-- SPDX-License-Identifier: Apache-2.0
-- What the bound image of a file that can be bound says of its functions, and how wide tokens are.
use Rattle.std.proofs.Common.{◌≡◌, ℕ, ◌*◌, ◌<◌, ◌≤◌, ◌^◌, Option, Some, None, List, [], ◌∷◌, ◌++◌, length, All, sym, arith}
use Rattle.std.specs.Prelude.{map}
use Rattle.std.specs.List.{AllByRecursion}
use Rattle.std.proofs.lemmas.Bool.{cond_both}
use Rattle.std.proofs.lemmas.List.{get_or-map}
use Rattle.std.proofs.lemmas.List.Elements.{All-from_recursion}
use Rattle.sh_types.specs.declared.code.Function.{Function}
use Rattle.sh_types.specs.declared.code.Pair.{Pair}
use Rattle.sh_types.specs.declared.relocs.Reloc.{Reloc}
use Rattle.elf_rules.specs.Bindable.{code_by, file_functions, loaded_image, rising_by}
use Rattle.elf_rules.specs.Coded.{IsCoded}
use Rattle.elf_rules.specs.Relocs.{relocs_of, takes_eight, takes_four, width_of}
use Rattle.fn_lookup.specs.Apart.{AreApart}
use Rattle.image_rules.specs.declared.tokens.Token.{Token}
use Rattle.image_rules.specs.Binding.{bound_data, is_data_pointer, labels_of}
use Rattle.image_rules.specs.Bound.{bound_image, bound_parts, bound_words, token_by, token_of_record, tokens_of, with_sites}
use Rattle.sh_types.specs.Image.{sizes_of}
use Rattle.image_binding.specs.Binds.{AreCoded, AreLow, EndsInImage, HaveWords, IsNarrow}
use Rattle.image_binding.proofs.Ordered.{all_rising}

-- ---- functions

pub coded_functions : (b : List ℕ) → IsCoded (bound_image b) → AreCoded (file_functions b)
unfolding bound_image with_sites bound_parts loaded_image sizes_of
coded_functions b c = record { few = c.few; code = c.code; filled = c.filled; low = c.low; apart = c.apart }

pub as_apart : (fs : List Function) → AreCoded fs → AreApart fs
as_apart fs c =
    let few = c.few in
    record {
      few = omega (arith, few);
      rise = λ j k l m. let a = c.apart j k l m in let s = c.filled j (omega (arith, l, m)) in omega (arith, a, s);
      apart = c.apart;
    }

pub few_labels : (fs : List Function) (rs : List Reloc) → AreCoded fs → 4 * length (labels_of fs rs) ≤ code_by fs → length (labels_of fs rs) < 2 ^ 32
few_labels fs rs c l = let code = c.code in omega (arith, l, code)

pub as_low : (fs : List Function) → AreCoded fs → AreLow fs
as_low fs c k l = let low = c.low k l in omega (arith, low)

pub end_in_image : (fs : List Function) → AreCoded fs → All EndsInImage fs
end_in_image fs c k d l =
    let low = c.low k l in
    let home = get_or-map (λ (f : Function). f.home) fs k d 0 l in
    let size = get_or-map (λ (f : Function). f.size) fs k d 0 l in
    omega (arith, low, home, size)

pub have_bound_words : (b : List ℕ) (words : List (List ℕ)) → IsCoded (bound_image b) → words ≡ map (bound_words b (file_functions b) (relocs_of b)) (file_functions b) → HaveWords (file_functions b) words
unfolding bound_image with_sites bound_parts loaded_image sizes_of
have_bound_words b words c e k l = rw e (sym (c.words k l))

-- ---- tokens

width_small : (kind : ℕ) → width_of kind ≤ 8
unfolding width_of
width_small kind =
    cond_both (takes_eight kind) 8 _ (λ n. n ≤ 8) (λ e. omega arith) (λ e. cond_both (takes_four kind) 4 0 (λ n. n ≤ 8) (λ e. omega arith) (λ e. omega arith))

record_narrow : (fs : List Function) (ls : List Pair) (r : Reloc) (ts : List Token) → AllByRecursion IsNarrow ts → AllByRecursion IsNarrow (token_of_record fs ls r ++ ts)
unfolding token_of_record
record_narrow fs ls r ts all =
    cond_both (is_data_pointer r) (token_by r (bound_data fs ls r)) [] (λ us. AllByRecursion IsNarrow (us ++ ts)) (λ e. by (bound_data fs ls r)) (λ e. all)
  where
    by : (o : Option ℕ) → AllByRecursion IsNarrow (token_by r o ++ ts)
    by None = all
    by (Some v) = (width_small r.kind, all)

tokens_narrow : (fs : List Function) (ls : List Pair) (rs : List Reloc) → AllByRecursion IsNarrow (tokens_of fs ls rs)
tokens_narrow fs ls [] = tt
tokens_narrow fs ls (r ∷ rs) = record_narrow fs ls r (tokens_of fs ls rs) (tokens_narrow fs ls rs)

pub all_narrow : (fs : List Function) (ls : List Pair) (rs : List Reloc) (ts : List Token) → ts ≡ rising_by (λ (t : Token). t.place) (tokens_of fs ls rs) → All IsNarrow ts
all_narrow fs ls rs ts e =
    rw e (all_rising (λ (t : Token). t.place) IsNarrow (tokens_of fs ls rs) (All-from_recursion IsNarrow (tokens_of fs ls rs) (tokens_narrow fs ls rs)))
