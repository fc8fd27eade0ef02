-- SPDX-License-Identifier: Apache-2.0
-- What the headers of the file of an object say.
use Rattle.std.proofs.Common.{◌≡◌, ℕ, ◌+◌, ◌^◌, ◌<◌, true, false, List, [], ◌∷◌, ◌++◌, length, map, take, drop, refl, ap, sym, ◌∙◌, append_assoc, arith}
use Rattle.std.proofs.Math.Seq.{take-length}
use Rattle.std.proofs.lemmas.List.{append-nil, length-append, length-drop, length-take-le, take-append-drop}
use Rattle.elf_rules.specs.declared.elf.Head.{Head}
use Rattle.elf_rules.specs.declared.elf.Program.{Program}
use Rattle.elf_rules.specs.declared.elf.Segment.{Segment}
use Rattle.elf_rules.specs.Elf.{number_at, head_at, program, places, program_at, program_count, section_at, section_count, programs_of, heads_of, loads}
use Rattle.sh_types.specs.declared.objects.Object.{Object}
use Rattle.elf_write.specs.declared.parts.Parts.{Parts}
use Rattle.elf_write.specs.Held.{SaysAll, loadable}
use Rattle.elf_write.specs.Parts.{text_part, data_part, heads_part, parts_of}
use Rattle.elf_write.specs.Tables.{header_fields, file_header, program_header}
use Rattle.elf_write.specs.Writable.{IsWritable}
use Rattle.elf_write.specs.Written.{entry_home, front, sections, section_headers, segment_of, elf_file}
use Rattle.elf_write.proofs.Bounds.{text_fits, data_fits, heads_low, sections_fit}
use Rattle.elf_write.proofs.Laying.{begins, file_is, parts_list, holds_all}
use Rattle.elf_write.proofs.Numbers.{nth, field_is}
use Rattle.elf_write.proofs.Reading.{AllFit, FitsSegment, program_read, heads_read}
use Rattle.elf_write.proofs.Widths.{widths, length_header, length_program}

-- ---- the header

-- a field of the header, for a file that begins with it
header_says : (file : List ℕ) (entry heads_at : ℕ) (behind : List ℕ) (k : ℕ) → file ≡ file_header entry heads_at ++ behind → k < 19 → (nth (header_fields entry heads_at) k).1 < 256 ^ (nth (header_fields entry heads_at) k).0 → number_at (nth (header_fields entry heads_at) k).0 file (0 + widths (take k (header_fields entry heads_at))) ≡ (nth (header_fields entry heads_at) k).1
unfolding file_header
header_says file entry heads_at behind k is inside small =
    rw is (field_is [] 0 (header_fields entry heads_at) k behind refl inside small)

-- ---- the section headers are the end of the file

all_taken : (n : ℕ) (xs : List ℕ) → length xs ≡ n → take n xs ≡ xs
all_taken n xs e = ap (λ (m : ℕ). take m xs) (sym e) ∙ take-length xs

ends : (file heads : List ℕ) (at size : ℕ) → length file ≡ at + size → take size (drop at file) ≡ heads → file ≡ (take at file ++ heads) ++ []
ends file heads at size whole held =
    let rest : length (drop at file) ≡ size = rw length-drop (omega arith) in
    let is : drop at file ≡ heads = sym (all_taken size (drop at file) rest) ∙ held in
    sym (append-nil (take at file ++ heads) ∙ ap (λ (b : List ℕ). take at file ++ b) (sym is) ∙ take-append-drop at file)

heads_are : (file : List ℕ) (at size : ℕ) (all : List (ℕ × Head)) → length file ≡ at + size → take size (drop at file) ≡ section_headers all → map (head_at file) (places 64 at (length all)) ≡ map (head_at ((take at file ++ section_headers all) ++ [])) (places 64 at (length all))
heads_are file at size all whole held =
    ap (λ (b : List ℕ). map (head_at b) (places 64 at (length all))) (ends file (section_headers all) at size whole held)

-- ---- the file of an object

-- it begins with its headers
front_is : (object : Object) → (tail : List ℕ) × (elf_file object ≡ front (entry_home object) (parts_of object) ++ tail)
front_is object =
    let b = begins (front (entry_home object) (parts_of object)) (parts_list object) in
    (b.0, file_is object ∙ b.1)

programs_are : (file : List ℕ) (entry heads_at : ℕ) (text stored : Segment) (tail : List ℕ) → file ≡ ((file_header entry heads_at ++ program_header text) ++ program_header stored) ++ tail → FitsSegment text → FitsSegment stored → programs_of file ≡ loadable text ∷ loadable stored ∷ []
unfolding programs_of
programs_are file entry heads_at text stored tail is text_fits stored_fits =
    let header = file_header entry heads_at in
    let before : file ≡ file_header entry heads_at ++ ((program_header text ++ program_header stored) ++ tail) = is ∙ simp append_assoc in
    let after : file ≡ (file_header entry heads_at ++ program_header text) ++ (program_header stored ++ tail) = is ∙ simp append_assoc in
    let behind = (program_header text ++ program_header stored) ++ tail in
    let at : program_at file ≡ 64 = header_says file entry heads_at behind 10 before (omega arith) (omega arith) in
    let count : program_count file ≡ 2 = header_says file entry heads_at behind 15 before (omega arith) (omega arith) in
    let table : map (program file) (places 56 (program_at file) (program_count file)) ≡ program file 64 ∷ program file 120 ∷ [] =
    ap (λ (p : ℕ). map (program file) (places 56 p (program_count file))) at ∙ ap (λ (n : ℕ). map (program file) (places 56 64 n)) count in
    let first : program file 64 ≡ loadable text =
    ap (λ (b : List ℕ). program b 64) after ∙ program_read header 64 text (program_header stored ++ tail) (length_header entry heads_at) text_fits in
    let end : length (header ++ program_header text) ≡ 120 = rw (length-append, length_header, length_program) in
    let second : program file 120 ≡ loadable stored =
    ap (λ (b : List ℕ). program b 120) is ∙ program_read (header ++ program_header text) 120 stored tail end stored_fits in
    table
    ∙ ap (λ (p : Program). p ∷ program file 120 ∷ []) first
    ∙ ap (λ (p : Program). loadable text ∷ p ∷ []) second

sections_are : (file : List ℕ) (entry at size : ℕ) (all : List (ℕ × Head)) (behind : List ℕ) → file ≡ file_header entry at ++ behind → at < 2 ^ 64 → length all ≡ 8 → length file ≡ at + size → take size (drop at file) ≡ section_headers all → AllFit all → heads_of file ≡ map (λ (s : ℕ × Head). s.1) all
unfolding heads_of
sections_are file entry at size all behind is low eight whole held fits =
    let place : section_at file ≡ at = header_says file entry at behind 11 is (omega arith) low in
    let count : section_count file ≡ length all =
    header_says file entry at behind 17 is (omega arith) (omega arith) ∙ sym eight in
    let start : length (take at file) ≡ at = length-take-le at file (omega arith) in
    ap (λ (p : ℕ). map (head_at file) (places 64 p (section_count file))) place
    ∙ ap (λ (n : ℕ). map (head_at file) (places 64 at n)) count
    ∙ heads_are file at size all whole held
    ∙ heads_read (take at file) at all [] start fits

eight_sections : (parts : Parts) (symbols : ℕ) → length (sections parts symbols) ≡ 8
unfolding sections
eight_sections parts symbols = refl

pub says_all : (object : Object) → IsWritable object → entry_home object < 2 ^ 64 → SaysAll object (parts_of object) (elf_file object)
unfolding front parts_of
says_all object w entry_fits =
    let entry = entry_home object in
    let at = (heads_part object).at in
    let text = segment_of (text_part object) false in
    let stored = segment_of (data_part object) true in
    let file = elf_file object in
    let start = front_is object in
    let is : elf_file object ≡ ((file_header (entry_home object) (heads_part object).at ++ program_header text) ++ program_header stored) ++ start.0 = start.1 in
    let behind = (program_header text ++ program_header stored) ++ start.0 in
    let header : elf_file object ≡ file_header (entry_home object) (heads_part object).at ++ behind = is ∙ simp append_assoc in
    let low = heads_low object w in
    let at_low : (heads_part object).at < 2 ^ 64 = omega arith in
    let parts_held = holds_all object w in
    let programs = programs_are file entry at text stored start.0 is (text_fits object w) (data_fits object w) in
    record {
      magic = header_says file entry at behind 0 header (omega arith) (omega arith);
      class = header_says file entry at behind 1 header (omega arith) (omega arith);
      order = header_says file entry at behind 2 header (omega arith) (omega arith);
      kind = header_says file entry at behind 6 header (omega arith) (omega arith);
      machine = header_says file entry at behind 7 header (omega arith) (omega arith);
      entry = header_says file entry at behind 9 header (omega arith) entry_fits;
      programs = programs;
      segments = ap loads programs;
      heads =
          sections_are file entry at (heads_part object).size (sections (parts_of object) (length object.symbols)) behind header at_low (eight_sections (parts_of object) (length object.symbols)) parts_held.whole parts_held.heads_are (sections_fit object w);
      names = header_says file entry at behind 18 header (omega arith) (omega arith);
    }
