-- SPDX-License-Identifier: Apache-2.0
-- How many marks and symbols there are at most, and that the addresses of marks are numbers of eight bytes.
use Rattle.std.proofs.Common.{ℕ, zero, suc, ◌+◌, ◌<◌, ◌≤◌, ◌^◌, Bool, true, false, List, [], ◌∷◌, length, map, get_or, arith, add-one}
use Rattle.std.specs.Prelude.{filter, if◌then◌else◌}
use Rattle.std.specs.List.{All}
use Rattle.std.proofs.lemmas.List.{length-append}
use Rattle.std.proofs.lemmas.List.Sums.{length-filter, count_by-le-length}
use Rattle.std.proofs.lemmas.List.Elements.{All-weaker, All-filter}
use Rattle.sh_types.specs.declared.symbols.Symbol.{Symbol}
use Rattle.sh_types.specs.declared.objects.Object.{Object}
use Rattle.sh_types.specs.declared.objects.Mark.{Mark}
use Rattle.elf_write.specs.Parts.{is_in, marks_in, string_table, names_in, text_part, data_part}
use Rattle.elf_write.specs.Writable.{IsMark, IsWritable}
use Rattle.elf_write.proofs.Sorting.{length_by_place, all_by_place}

inside : (b : Bool) (at text data_size n : ℕ) → text ≤ n → data_size ≤ n → at < (if b then text else data_size) → at < n
inside true at text data_size n t d h = omega arith
inside false at text data_size n t d h = omega arith

low_mark : (object : Object) → IsWritable object → (mark : Mark) → IsMark object mark → mark.at < 67108864
low_mark object w mark m =
    inside mark.in_text mark.at (text_part object).size (data_part object).size 67108864 w.text w.data_size m.inside

low_marks : (object : Object) → IsWritable object → All (λ (m : Mark). m.at < 67108864) object.marks
low_marks object w =
    All-weaker (IsMark object) (λ (m : Mark). m.at < 67108864) (low_mark object w) object.marks w.marks

pub few_filtered : (object : Object) → IsWritable object → (in_text : Bool) → length (filter (is_in in_text) object.marks) < 2 ^ 32
few_filtered object w in_text =
    omega (arith, w.few, length-filter (is_in in_text) object.marks, count_by-le-length (is_in in_text) object.marks)

pub few_marks : (object : Object) → IsWritable object → (in_text : Bool) → length (marks_in in_text object.marks) < 2 ^ 32
unfolding marks_in
few_marks object w in_text = omega (arith, few_filtered object w in_text, length_by_place (filter (is_in in_text) object.marks))

-- the address of each mark of a part, behind a low one, is a number of eight bytes
pub placed_marks : (object : Object) → IsWritable object → (in_text : Bool) (home : ℕ) → home < 2 ^ 61 → All (λ (m : Mark). home + m.at < 2 ^ 64) (marks_in in_text object.marks)
unfolding marks_in
placed_marks object w in_text home low =
    let all = All-weaker (λ (m : Mark). m.at < 67108864) (λ (m : Mark). home + m.at < 2 ^ 64) (λ m h. omega arith) object.marks (low_marks object w) in
    all_by_place (λ (m : Mark). home + m.at < 2 ^ 64) (filter (is_in in_text) object.marks) (All-filter (is_in in_text) (λ (m : Mark). home + m.at < 2 ^ 64) object.marks all)

-- each symbol has a byte of the string table at least
at_most_bytes : (symbols : List Symbol) → length symbols ≤ length (string_table (names_in symbols))
unfolding string_table
at_most_bytes [] = omega arith
at_most_bytes (s ∷ symbols) =
    let rest = at_most_bytes symbols in
    simp length-append (omega arith)

pub few_symbols : (object : Object) → IsWritable object → length object.symbols < 2 ^ 32
few_symbols object w = omega (arith, at_most_bytes object.symbols, w.names)
