-- SPDX-License-Identifier: Apache-2.0
-- Words that are no text stand in no table.
use Rattle.std.proofs.Common.{◌≡◌, ℕ, zero, suc, ◌<◌, Bool, true, false, List, [], ◌∷◌, get_or, lit<, refl, sym, subst}
use Rattle.std.proofs.lemmas.Bool.{ltb-true}
use Rattle.std.proofs.lemmas.Str.{IsUtf8-from_ascii}
use Rattle.std.specs.List.{list_all}
use Rattle.std.specs.Prelude.{Option, Some, None, nat_lt, ◌&&◌, if◌then◌else◌, option_map}
use Rattle.std.specs.Str.{IsUtf8, bytes_eq}
use Rattle.std.proofs.lemmas.Slice.Eq.{bytes_eq-Decides}
use Rattle.asm_words.specs.Tables.{named, first_of}
use Rattle.asm_words.specs.Registers.{pointers, temporaries, saved, arguments, by_use, below_ten, below_twenty, from_twenty, numbered, register_named}
use Rattle.asm_words.specs.Mnemonics.{base_rows, product_rows, low_word_rows, register_rows, immediate_rows, memory_rows, store_rows, branch_rows, upper_rows, atomic_word_rows, atomic_double_rows, atomic_rows, reserve_rows, bare_rows, plain_rows, naming_rows, value_rows, instruction_shape, shape_of}

-- a name of ASCII characters
abbrev pub is_text : List ℕ → Bool
is_text name = list_all (λ (c : ℕ). nat_lt c 128) name

-- each name of the table is text
abbrev pub are_text : {A : Type 0} → List (List ℕ × A) → Bool
are_text [] = true
are_text (row ∷ rows) = is_text row.0 && are_text rows

both : (a b : Bool) → (a && b) ≡ true → (a ≡ true) × (b ≡ true)
both true b h = (refl, h)
both false b h = (cc, cc)

below : (name : List ℕ) → is_text name ≡ true → (i : ℕ) → get_or name i 0 < 128
below [] h zero = lit< tt
below [] h (suc i) = lit< tt
below (c ∷ cs) h zero = ltb-true c 128 (both (nat_lt c 128) (is_text cs) h).0
below (c ∷ cs) h (suc i) = below cs (both (nat_lt c 128) (is_text cs) h).1 i

utf8_text : (name : List ℕ) → is_text name ≡ true → IsUtf8 name
utf8_text name h = IsUtf8-from_ascii name (below name h)

passed : {A : Type 0} (b : Bool) (x : A) (rest : Option A) → (b ≡ true → ⊥) → rest ≡ None → (if b then Some x else rest) ≡ None
passed true x rest h e = absurd (h refl)
passed false x rest h e = e

same_utf8 : (name other : List ℕ) → name ≡ other → IsUtf8 other → IsUtf8 name
same_utf8 name other e u = subst (λ (w : List ℕ). IsUtf8 w) (sym e) u

pub unlisted : {A : Type 0} (rows : List (List ℕ × A)) (name : List ℕ) → are_text rows ≡ true → (IsUtf8 name → ⊥) → named rows name ≡ None
unlisted [] name h bad = refl
unlisted (row ∷ rows) name h bad =
    let p : (is_text row.0 ≡ true) × (are_text rows ≡ true) = both (is_text row.0) (are_text rows) h in
    passed (bytes_eq name row.0) row.1 (named rows name)
    (λ e. bad (same_utf8 name row.0 ((bytes_eq-Decides name row.0).0 e) (utf8_text row.0 p.0)))
    (unlisted rows name p.1 bad)

first_none : {A : Type 0} (a b : Option A) → a ≡ None → b ≡ None → first_of a b ≡ None
first_none a b e f = rw e f

mapped_none : {A B : Type 0} (f : A → B) (a : Option A) → a ≡ None → option_map f a ≡ None
mapped_none f a e = rw e refl

pub no_register : (name : List ℕ) → (IsUtf8 name → ⊥) → register_named name ≡ None
unfolding register_named by_use pointers temporaries saved arguments numbered below_ten below_twenty from_twenty
no_register name bad = first_none (named by_use name) (named numbered name) (unlisted by_use name refl bad) (unlisted numbered name refl bad)

no_instruction : (name : List ℕ) → (IsUtf8 name → ⊥) → instruction_shape name ≡ None
unfolding instruction_shape register_rows base_rows product_rows low_word_rows immediate_rows memory_rows store_rows branch_rows upper_rows atomic_rows atomic_word_rows atomic_double_rows reserve_rows bare_rows
no_instruction name bad =
    first_none _ _ (mapped_none _ _ (unlisted register_rows name refl bad)) (
    first_none _ _ (mapped_none _ _ (unlisted immediate_rows name refl bad)) (
    first_none _ _ (mapped_none _ _ (unlisted memory_rows name refl bad)) (
    first_none _ _ (mapped_none _ _ (unlisted store_rows name refl bad)) (
    first_none _ _ (mapped_none _ _ (unlisted upper_rows name refl bad)) (
    first_none _ _ (mapped_none _ _ (unlisted atomic_rows name refl bad)) (
    first_none _ _ (mapped_none _ _ (unlisted reserve_rows name refl bad)) (
    first_none _ _ (mapped_none _ _ (unlisted bare_rows name refl bad))
    (mapped_none _ _ (unlisted branch_rows name refl bad)))))))))

pub no_shape : (name : List ℕ) → (IsUtf8 name → ⊥) → shape_of name ≡ None
unfolding shape_of plain_rows naming_rows value_rows
no_shape name bad =
    first_none _ _ (no_instruction name bad) (
    first_none _ _ (mapped_none _ _ (unlisted plain_rows name refl bad)) (
    first_none _ _ (mapped_none _ _ (unlisted naming_rows name refl bad)) (unlisted value_rows name refl bad)))
