-- SPDX-License-Identifier: Apache-2.0
-- No token takes a byte of the first stack: the bytes that a record takes lie in a segment, and that ends below.
use Rattle.std.proofs.Common.{◌≡◌, inl, inr, ℕ, ◌+◌, ◌<◌, ◌≤◌, true, false, Option, Some, None, List, [], ◌∷◌, ◌++◌, arith, All}
use Rattle.std.specs.Prelude.{find, unwrap_or}
use Rattle.std.specs.List.{AllByRecursion}
use Rattle.std.proofs.lemmas.Bool.{cases_lt, cond_both}
use Rattle.std.proofs.lemmas.Bool.Decides.{nat_tests}
use Rattle.std.proofs.lemmas.List.Elements.{recursion_from_All}
use Rattle.sh_types.specs.declared.code.Function.{Function}
use Rattle.sh_types.specs.declared.code.Pair.{Pair}
use Rattle.sh_types.specs.declared.relocs.Reloc.{Reloc}
use Rattle.sh_types.specs.Image.{stack_start}
use Rattle.elf_rules.specs.declared.elf.Segment.{Segment}
use Rattle.elf_rules.specs.Bindable.{filled_in_order, is_mapped_at, no_segment, segment_with}
use Rattle.elf_rules.specs.ElfRules.{first_failing, table_rules}
use Rattle.elf_rules.specs.Relocs.{relocs_of, takes_eight, takes_four, width_of}
use Rattle.image_rules.specs.declared.tokens.Token.{Token}
use Rattle.image_rules.specs.Binding.{bound_data, is_data_pointer}
use Rattle.image_rules.specs.Bound.{takes_byte, token_by, token_of_record, tokens_of}
use Rattle.load_law.specs.Placed.{HasBytes, IsPlaced}
use Rattle.load_law.specs.Readable.{is_stack_at}
use Rattle.load_law.proofs.Covers.{none_found}
use Rattle.load_law.proofs.Reading.{placed}
use Rattle.load_law.proofs.Rules.{each}

-- where bytes are taken, they end at or below the first stack
abbrev EndsBelow : (place width : ℕ) → Type 0
EndsBelow place width = 0 < width → place + width ≤ stack_start

-- ---- of records

at_most_eight : (kind : ℕ) → width_of kind ≤ 8
unfolding width_of
at_most_eight kind =
    cond_both (takes_eight kind) 8 _ (λ n. n ≤ 8) (λ e. omega arith) (λ e. cond_both (takes_four kind) 4 0 (λ n. n ≤ 8) (λ t. omega arith) (λ t. omega arith))

mapped_below : (b : List ℕ) (place : ℕ) (gs : List Segment) → AllByRecursion (IsPlaced b) gs → is_mapped_at place (segment_with gs place) ≡ true → place < 0x3f000000
mapped_below b place [] all e = absurd (none place e)
  where
    none : (place : ℕ) → is_mapped_at place no_segment ≡ true → ⊥
    none place e = grind (arith, nat_tests, e)
mapped_below b place (g ∷ gs) all mapped =
    let rest = mapped_below b place gs all.1 in
    cond_both (is_mapped_at place g) (Some g) (find (is_mapped_at place) gs) (λ o. is_mapped_at place (unwrap_or o no_segment) ≡ true → place < 0x3f000000) (λ e q. within g all.0 e) (λ e. rest) mapped
  where
    within : (g : Segment) → IsPlaced b g → is_mapped_at place g ≡ true → place < 0x3f000000
    within g p e = let l : place < g.start + g.size = grind (arith, nat_tests, e) in omega (arith, l, p.low)

record_below : (b : List ℕ) → first_failing table_rules b ≡ None → (r : Reloc) → HasBytes b r → EndsBelow r.place (width_of r.kind)
record_below b fine r h some =
    let low = mapped_below b r.place (filled_in_order b) (placed b fine) (h.found some) in
    omega (arith, low, at_most_eight r.kind)

-- ---- of tokens

module _ (fs : List Function) (ls : List Pair) where
  abbrev TokenBelow : Token → Type 0
  TokenBelow t = EndsBelow t.place t.width

  one_below : (r : Reloc) (ts : List Token) → EndsBelow r.place (width_of r.kind) → AllByRecursion TokenBelow ts → AllByRecursion TokenBelow (token_of_record fs ls r ++ ts)
  unfolding token_of_record
  one_below r ts below rest =
      cond_both (is_data_pointer r) (token_by r (bound_data fs ls r)) [] (λ us. AllByRecursion TokenBelow (us ++ ts)) (λ e. by (bound_data fs ls r)) (λ e. rest)
    where
      by : (o : Option ℕ) → AllByRecursion TokenBelow (token_by r o ++ ts)
      by None = rest
      by (Some v) = (below, rest)

  all_below : (rs : List Reloc) → AllByRecursion (λ r. EndsBelow r.place (width_of r.kind)) rs → AllByRecursion TokenBelow (tokens_of fs ls rs)
  all_below [] all = tt
  all_below (r ∷ rs) all = one_below r (tokens_of fs ls rs) all.0 (all_below rs all.1)

untaken : (a : ℕ) → is_stack_at a ≡ true → (t : Token) → EndsBelow t.place t.width → takes_byte a t ≡ false
untaken a e t below =
    let above : stack_start ≤ a = grind (arith, nat_tests, e) in
    elim (cases_lt 0 t.width) [
      | inl some ↦ let end = below some in grind (arith, nat_tests, above, end)
      | inr none ↦ grind (arith, nat_tests, none)
    ]

pub stack_untaken : (b : List ℕ) (fs : List Function) (ls : List Pair) (a : ℕ) → first_failing table_rules b ≡ None → All (HasBytes b) (relocs_of b) → is_stack_at a ≡ true → find (takes_byte a) (tokens_of fs ls (relocs_of b)) ≡ None
stack_untaken b fs ls a fine all e =
    let below = each (HasBytes b) (λ (r : Reloc). EndsBelow r.place (width_of r.kind)) (record_below b fine) (relocs_of b) (recursion_from_All (HasBytes b) (relocs_of b) all) in
    none_found (takes_byte a) (tokens_of fs ls (relocs_of b))
    (each (λ (t : Token). EndsBelow t.place t.width) (λ t. takes_byte a t ≡ false) (untaken a e) (tokens_of fs ls (relocs_of b)) (all_below fs ls (relocs_of b) below))
