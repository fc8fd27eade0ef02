-- SPDX-License-Identifier: Apache-2.0
-- A table in parts has at a name what the first part has that has the name.
use Rattle.std.proofs.Common.{◌≡◌, ℕ, Bool, true, false, List, [], ◌∷◌, ◌++◌, refl, ap, ◌∙◌}
use Rattle.std.specs.Prelude.{Option, Some, if◌then◌else◌}
use Rattle.std.specs.Str.{bytes_eq}
use Rattle.asm_words.specs.Tables.{named, first_of}
use Rattle.asm_words.specs.Registers.{pointers, temporaries, saved, arguments, by_use, below_ten, below_twenty, from_twenty, numbered}
use Rattle.asm_words.specs.Mnemonics.{base_rows, product_rows, low_word_rows, register_rows, atomic_word_rows, atomic_double_rows, atomic_rows}

row_first : {A : Type 0} (found : Bool) (x : A) (whole first second : Option A) → whole ≡ first_of first second → (if found then Some x else whole) ≡ first_of (if found then Some x else first) second
row_first true x whole first second e = refl
row_first false x whole first second e = e

in_two : {A : Type 0} (first second : List (List ℕ × A)) (name : List ℕ) → named (first ++ second) name ≡ first_of (named first name) (named second name)
in_two [] second name = refl
in_two (row ∷ first) second name = row_first (bytes_eq name row.0) row.1 (named (first ++ second) name) (named first name) (named second name) (in_two first second name)

in_three : {A : Type 0} (first second third : List (List ℕ × A)) (name : List ℕ) → named (first ++ (second ++ third)) name ≡ first_of (named first name) (first_of (named second name) (named third name))
in_three first second third name = in_two first (second ++ third) name ∙ ap (first_of (named first name)) (in_two second third name)

pub by_use_parts : (name : List ℕ) → named by_use name ≡ first_of (named pointers name) (first_of (named temporaries name) (first_of (named saved name) (named arguments name)))
unfolding by_use
by_use_parts name = in_two pointers (temporaries ++ (saved ++ arguments)) name ∙ ap (first_of (named pointers name)) (in_three temporaries saved arguments name)

pub numbered_parts : (name : List ℕ) → named numbered name ≡ first_of (named below_ten name) (first_of (named below_twenty name) (named from_twenty name))
unfolding numbered
numbered_parts name = in_three below_ten below_twenty from_twenty name

pub register_parts : (name : List ℕ) → named register_rows name ≡ first_of (named base_rows name) (first_of (named product_rows name) (named low_word_rows name))
unfolding register_rows
register_parts name = in_three base_rows product_rows low_word_rows name

pub atomic_parts : (name : List ℕ) → named atomic_rows name ≡ first_of (named atomic_word_rows name) (named atomic_double_rows name)
unfolding atomic_rows
atomic_parts name = in_two atomic_word_rows atomic_double_rows name
