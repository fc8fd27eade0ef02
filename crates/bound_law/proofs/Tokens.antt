-- SPDX-License-Identifier: Apache-2.0
-- No two tokens in data share a byte, as no two records do.
use Rattle.std.proofs.Common.{◌≡◌, inl, inr, ℕ, ◌<◌, true, false, Option, Some, None, List, [], ◌∷◌, ◌++◌, refl, sym, ap, ◌∙◌, subst, arith}
use Rattle.std.specs.Prelude.{filter, find, map, not, ◌==◌, ◌||◌}
use Rattle.std.specs.List.{list_any, AllByRecursion}
use Rattle.std.proofs.lemmas.Bool.{and_parts, cases_Bool, cond-true, cond-false, cond_both, eqb-true, or_cases, or_parts}
use Rattle.std.proofs.lemmas.Bool.Decides.{nat_tests}
use Rattle.sh_types.specs.declared.code.Function.{Function}
use Rattle.sh_types.specs.declared.code.Pair.{Pair}
use Rattle.sh_types.specs.declared.symbols.Symbol.{Symbol}
use Rattle.sh_types.specs.declared.relocs.Reloc.{Reloc}
use Rattle.elf_rules.specs.declared.elf.Head.{Head}
use Rattle.elf_rules.specs.declared.elf.Span.{Span}
use Rattle.elf_rules.specs.declared.relocs.RawReloc.{RawReloc}
use Rattle.elf_rules.specs.Bindable.{rising_by}
use Rattle.elf_rules.specs.Elf.{heads_of, symbols_of}
use Rattle.elf_rules.specs.ElfRules.{first_failing, reloc_rules}
use Rattle.elf_rules.specs.RelocRules.{taken_span, taken_spans, takes_bytes}
use Rattle.elf_rules.specs.Relocs.{reloc, relocs_of, used_of, width_of}
use Rattle.elf_rules.specs.Spans.{any_share, share, span}
use Rattle.image_rules.specs.declared.tokens.Token.{Token}
use Rattle.image_rules.specs.Binding.{bound_data, is_data_pointer}
use Rattle.image_rules.specs.Bound.{takes_byte, token_by, token_of_record, tokens_of}
use Rattle.load_law.proofs.Apart.{IsFilled, found, is_at, rising_all, rising_apart, rising_keeps, start_of}
use Rattle.load_law.proofs.Covers.{IsFound, is_found, none_found}
use Rattle.load_law.proofs.Records.{recorded}
use Rattle.load_law.proofs.Rules.{none_of}

-- ---- what does not share bytes is found in any order

module _ {A : Type 0} (over : A → Span) where
  -- each shares no byte with those behind it
  abbrev NoneShare : List A → Type 0
  NoneShare [] = Unit {0}
  NoneShare (x ∷ xs) = AllByRecursion (λ y. share (over x) (over y) ≡ false) xs × NoneShare xs

  none_any : (s : Span) (xs : List A) → AllByRecursion (λ y. share s (over y) ≡ false) xs → list_any (share s) (map over xs) ≡ false
  none_any s [] all = refl
  none_any s (x ∷ xs) all = rw (all.0, none_any s xs all.1)

  unshared : (xs : List A) → NoneShare xs → any_share (map over xs) ≡ false
  unshared [] none = refl
  unshared (x ∷ xs) none = rw (none_any (over x) xs none.0, unshared xs none.1)

  same_found : (a : ℕ) (xs : List A) → AllByRecursion (IsFilled over) xs → NoneShare xs → find (is_at over a) (rising_by (start_of over) xs) ≡ find (is_at over a) xs
  same_found a xs filled none = by (find (is_at over a) xs) (is_found (is_at over a) xs)
    where
      by : (o : Option A) → IsFound (is_at over a) xs o → find (is_at over a) (rising_by (start_of over) xs) ≡ o
      by None all = none_found (is_at over a) (rising_by (start_of over) xs) (rising_all (start_of over) (λ x. is_at over a x ≡ false) xs all)
      by (Some y) h = found over a (rising_by (start_of over) xs) y (rising_apart over xs filled (unshared xs none)) (rising_keeps (start_of over) y xs h.0) h.1

-- ---- tokens by their records

abbrev token_span : Token → Span
token_span t = span t.place t.width

four : (kind : ℕ) → kind ≡ 1 → 0 < width_of kind
unfolding width_of
four kind e = rw e (omega arith)

eight : (kind : ℕ) → kind ≡ 2 → 0 < width_of kind
unfolding width_of
eight kind e = rw e (omega arith)

takes_some : (r : Reloc) → is_data_pointer r ≡ true → 0 < width_of r.kind
unfolding is_data_pointer
takes_some r e =
    elim (or_cases (r.kind == 1) (r.kind == 2) (and_parts (not r.code) ((r.kind == 1) || (r.kind == 2)) e).1) [
      | inl one ↦ four r.kind (eqb-true r.kind 1 one)
      | inr two ↦ eight r.kind (eqb-true r.kind 2 two)
    ]

-- a record gives no token, or one where its bytes are
by_token : (fs : List Function) (ls : List Pair) (r : Reloc) (P : List Token → Type 0) → P [] → ((v : ℕ) → 0 < width_of r.kind → P (record { place = r.place; width = width_of r.kind; value = v } ∷ [])) → P (token_of_record fs ls r)
unfolding token_of_record
by_token fs ls r P none some = cond_both (is_data_pointer r) (token_by r (bound_data fs ls r)) [] P (λ e. by (takes_some r e) (bound_data fs ls r)) (λ e. none)
  where
    by : 0 < width_of r.kind → (o : Option ℕ) → P (token_by r o)
    by w None = none
    by w (Some v) = some v w

-- ---- the bytes that records take

first_alone : (r : RawReloc) (rs : List RawReloc) → any_share (taken_spans (r ∷ rs)) ≡ false → 0 < width_of r.kind → AllByRecursion (λ s. share (taken_span r) s ≡ false) (taken_spans rs)
unfolding taken_spans
first_alone r rs none some =
    let takes : takes_bytes r ≡ true = grind (arith, nat_tests, some) in
    let kept : filter takes_bytes (r ∷ rs) ≡ r ∷ filter takes_bytes rs = cond-true (takes_bytes r) (r ∷ filter takes_bytes rs) (filter takes_bytes rs) takes in
    let two : any_share (taken_span r ∷ map taken_span (filter takes_bytes rs)) ≡ false = sym (ap (λ xs. any_share (map taken_span xs)) kept) ∙ none in
    none_of (share (taken_span r)) (map taken_span (filter takes_bytes rs)) (or_parts (list_any (share (taken_span r)) (map taken_span (filter takes_bytes rs))) (any_share (map taken_span (filter takes_bytes rs))) two).0

others_alone : (r : RawReloc) (rs : List RawReloc) → any_share (taken_spans (r ∷ rs)) ≡ false → any_share (taken_spans rs) ≡ false
unfolding taken_spans
others_alone r rs none =
    elim (cases_Bool (takes_bytes r)) [
      | inl t ↦
          let kept : filter takes_bytes (r ∷ rs) ≡ r ∷ filter takes_bytes rs = cond-true (takes_bytes r) (r ∷ filter takes_bytes rs) (filter takes_bytes rs) t in
          let two : any_share (taken_span r ∷ map taken_span (filter takes_bytes rs)) ≡ false = sym (ap (λ xs. any_share (map taken_span xs)) kept) ∙ none in
          (or_parts (list_any (share (taken_span r)) (map taken_span (filter takes_bytes rs))) (any_share (map taken_span (filter takes_bytes rs))) two).1
      | inr f ↦
          let left : filter takes_bytes (r ∷ rs) ≡ filter takes_bytes rs = cond-false (takes_bytes r) (r ∷ filter takes_bytes rs) (filter takes_bytes rs) f in
          sym (ap (λ xs. any_share (map taken_span xs)) left) ∙ none
    ]

has_first : (Q : Span → Type 0) (r : RawReloc) (rs : List RawReloc) → AllByRecursion Q (taken_spans (r ∷ rs)) → 0 < width_of r.kind → Q (taken_span r)
unfolding taken_spans
has_first Q r rs all some =
    let takes : takes_bytes r ≡ true = grind (arith, nat_tests, some) in
    let kept : filter takes_bytes (r ∷ rs) ≡ r ∷ filter takes_bytes rs = cond-true (takes_bytes r) (r ∷ filter takes_bytes rs) (filter takes_bytes rs) takes in
    let two : AllByRecursion Q (taken_span r ∷ map taken_span (filter takes_bytes rs)) = subst (λ xs. AllByRecursion Q (map taken_span xs)) kept all in
    two.0

has_others : (Q : Span → Type 0) (r : RawReloc) (rs : List RawReloc) → AllByRecursion Q (taken_spans (r ∷ rs)) → AllByRecursion Q (taken_spans rs)
unfolding taken_spans
has_others Q r rs all =
    elim (cases_Bool (takes_bytes r)) [
      | inl t ↦
          let two : AllByRecursion Q (taken_span r ∷ map taken_span (filter takes_bytes rs)) = subst (λ xs. AllByRecursion Q (map taken_span xs)) (cond-true (takes_bytes r) (r ∷ filter takes_bytes rs) (filter takes_bytes rs) t) all in
          two.1
      | inr f ↦ subst (λ xs. AllByRecursion Q (map taken_span xs)) (cond-false (takes_bytes r) (r ∷ filter takes_bytes rs) (filter takes_bytes rs) f) all
    ]

-- ---- of the records of a file

module _ (fs : List Function) (ls : List Pair) (hs : List Head) (ss : List Symbol) where
  abbrev tokens_by : List RawReloc → List Token
  tokens_by rs = tokens_of fs ls (map (reloc hs ss) rs)

  all_tokens : (Q : Span → Type 0) (rs : List RawReloc) → AllByRecursion Q (taken_spans rs) → AllByRecursion (λ t. Q (token_span t)) (tokens_by rs)
  all_tokens Q [] all = tt
  all_tokens Q (r ∷ rs) all =
      let rest = all_tokens Q rs (has_others Q r rs all) in
      by_token fs ls (reloc hs ss r) (λ ts. AllByRecursion (λ t. Q (token_span t)) (ts ++ tokens_by rs)) rest (λ v w. (has_first Q r rs all w, rest))

  all_filled : (rs : List RawReloc) → AllByRecursion (IsFilled token_span) (tokens_by rs)
  all_filled [] = tt
  all_filled (r ∷ rs) =
      let rest = all_filled rs in
      by_token fs ls (reloc hs ss r) (λ ts. AllByRecursion (IsFilled token_span) (ts ++ tokens_by rs)) rest (λ v w. (w, rest))

  none_share : (rs : List RawReloc) → any_share (taken_spans rs) ≡ false → NoneShare token_span (tokens_by rs)
  none_share [] none = tt
  none_share (r ∷ rs) none =
      let rest = none_share rs (others_alone r rs none) in
      by_token fs ls (reloc hs ss r) (λ ts. NoneShare token_span (ts ++ tokens_by rs)) rest
      (λ v w. (all_tokens (λ s. share (taken_span r) s ≡ false) rs (first_alone r rs none w), rest))

pub tokens_found : (b : List ℕ) (fs : List Function) (ls : List Pair) (address : ℕ) → first_failing reloc_rules b ≡ None → find (takes_byte address) (rising_by (λ (t : Token). t.place) (tokens_of fs ls (relocs_of b))) ≡ find (takes_byte address) (tokens_of fs ls (relocs_of b))
unfolding relocs_of
tokens_found b fs ls address h =
    same_found token_span address (tokens_by fs ls (heads_of b) (symbols_of b) (used_of b)) (all_filled fs ls (heads_of b) (symbols_of b) (used_of b))
    (none_share fs ls (heads_of b) (symbols_of b) (used_of b) (recorded b h).bytes_apart)
