-- SPDX-License-Identifier: Apache-2.0
-- How many bytes fields and entries of tables have.
use Rattle.std.proofs.Common.{◌≡◌, ℕ, zero, suc, ◌+◌, ◌*◌, ◌/◌, List, [], ◌∷◌, length, refl, ap, arith}
use Rattle.std.specs.List.{concat, flat_map}
use Rattle.std.proofs.lemmas.List.{length-append}
use Rattle.elf_rules.specs.declared.elf.Head.{Head}
use Rattle.elf_rules.specs.declared.elf.Segment.{Segment}
use Rattle.sh_types.specs.declared.symbols.Symbol.{Symbol}
use Rattle.sh_types.specs.declared.objects.Mark.{Mark}
use Rattle.elf_write.specs.declared.parts.Parts.{Parts}
use Rattle.elf_write.specs.Fields.{little, fields}
use Rattle.elf_write.specs.Tables.{file_header, program_header, section_header, record_of, records, symbol_entry, symbol_table}
use Rattle.elf_write.specs.Written.{code, front, section_headers}

abbrev pub widths : List (ℕ × ℕ) → ℕ
widths [] = 0
widths (field ∷ rest) = field.0 + widths rest

pub length_little : (n value : ℕ) → length (little n value) ≡ n
unfolding little
length_little zero value = refl
length_little (suc n) value = ap suc (length_little n (value / 256))

pub length_fields : (all : List (ℕ × ℕ)) → length (fields all) ≡ widths all
unfolding fields
length_fields [] = refl
length_fields (field ∷ rest) =
    let rest_is : length (fields rest) ≡ widths rest = length_fields rest in
    rw (length-append, length_little, rest_is)

pub length_header : (entry heads_at : ℕ) → length (file_header entry heads_at) ≡ 64
unfolding file_header
length_header entry heads_at = length_fields _

pub length_program : (segment : Segment) → length (program_header segment) ≡ 56
unfolding program_header
length_program segment = length_fields _

pub length_section : (align : ℕ) (head : Head) → length (section_header align head) ≡ 64
unfolding section_header
length_section align head = length_fields _

pub length_record : (home : ℕ) (mark : Mark) → length (record_of home mark) ≡ 24
unfolding record_of
length_record home mark = length_fields _

pub length_symbol : (name : ℕ) (symbol : Symbol) → length (symbol_entry name symbol) ≡ 24
unfolding symbol_entry
length_symbol name symbol = length_fields _

-- entries of one width
pub length_entries : {X : Type 0} (f : X → List ℕ) (n : ℕ) → ((x : X) → length (f x) ≡ n) → (xs : List X) → length (flat_map f xs) ≡ n * length xs
length_entries f n each [] = omega arith
length_entries f n each (x ∷ xs) =
    let rest : length (flat_map f xs) ≡ n * length xs = length_entries f n each xs in
    let this : length (f x) ≡ n = each x in
    rw length-append (omega arith)

pub length_code : (words : List (List ℕ)) → length (code words) ≡ 4 * length (concat words)
unfolding code
length_code words = length_entries (little 4) 4 (length_little 4) (concat words)

pub length_records : (home : ℕ) (marks : List Mark) → length (records home marks) ≡ 24 * length marks
unfolding records
length_records home marks = length_entries (record_of home) 24 (length_record home) marks

pub length_heads : (sections : List (ℕ × Head)) → length (section_headers sections) ≡ 64 * length sections
unfolding section_headers
length_heads sections =
    length_entries (λ (s : ℕ × Head). section_header s.0 s.1) 64 (λ (s : ℕ × Head). length_section s.0 s.1) sections

pub length_symbols : (name : ℕ) (symbols : List Symbol) → length (symbol_table name symbols) ≡ 24 * length symbols
unfolding symbol_table
length_symbols name [] = omega arith
length_symbols name (symbol ∷ rest) =
    let rest_is : length (symbol_table (name + length symbol.name + 1) rest) ≡ 24 * length rest =
    length_symbols (name + length symbol.name + 1) rest in
    rw (length-append, length_symbol) (omega arith)

pub length_front : (entry : ℕ) (parts : Parts) → length (front entry parts) ≡ 176
unfolding front
length_front entry parts = simp (length-append, length_header, length_program)
