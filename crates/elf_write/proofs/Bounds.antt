-- SPDX-License-Identifier: Apache-2.0
-- The places and the sizes of the parts are numbers of eight bytes.
use Rattle.std.proofs.Common.{◌≡◌, ℕ, ◌+◌, ◌*◌, ◌^◌, ◌<◌, Bool, true, false, length, refl, arith}
use Rattle.sh_types.specs.declared.objects.Object.{Object}
use Rattle.elf_write.specs.declared.parts.Part.{Part}
use Rattle.elf_write.specs.Parts.{marks_in, names_in, section_names, string_table, behind, text_part, data_part, text_records_part, data_records_part, symbols_part, strings_part, names_part, heads_part, parts_of}
use Rattle.elf_write.specs.Writable.{IsWritable}
use Rattle.elf_write.specs.Written.{loaded, unloaded, sections, segment_of}
use Rattle.elf_write.proofs.Marks.{few_marks, few_symbols}
use Rattle.elf_write.proofs.Reading.{AllFit, FitsHead, FitsSegment}

low_behind : (part : Part) (size n m : ℕ) → part.at + part.size < n → size < m → (behind part size).at + (behind part size).size < n + m + 8
unfolding behind
low_behind part size n m low small = omega arith

text_low : (object : Object) → IsWritable object → (text_part object).at + (text_part object).size < 2 ^ 27
unfolding text_part
text_low object w = omega (arith, w.text)

data_low : (object : Object) → IsWritable object → (data_part object).at + (data_part object).size < 2 ^ 28
unfolding text_part data_part
data_low object w = omega (arith, w.text, w.data_size)

text_records_low : (object : Object) → IsWritable object → (text_records_part object).at + (text_records_part object).size < 2 ^ 38
unfolding text_records_part
text_records_low object w =
    let few = few_marks object w true in
    let low = low_behind (data_part object) (24 * length (marks_in true object.marks)) (2 ^ 28) (2 ^ 37) (data_low object w) (omega arith) in
    omega arith

data_records_low : (object : Object) → IsWritable object → (data_records_part object).at + (data_records_part object).size < 2 ^ 39
unfolding data_records_part
data_records_low object w =
    let few = few_marks object w false in
    let low = low_behind (text_records_part object) (24 * length (marks_in false object.marks)) (2 ^ 38) (2 ^ 37) (text_records_low object w) (omega arith) in
    omega arith

symbols_low : (object : Object) → IsWritable object → (symbols_part object).at + (symbols_part object).size < 2 ^ 40
unfolding symbols_part
symbols_low object w =
    let few = few_symbols object w in
    let low = low_behind (data_records_part object) (24 * length object.symbols) (2 ^ 39) (2 ^ 37) (data_records_low object w) (omega arith) in
    omega arith

strings_low : (object : Object) → IsWritable object → (strings_part object).at + (strings_part object).size < 2 ^ 41
unfolding strings_part
strings_low object w =
    let few = w.names in
    let low = low_behind (symbols_part object) (length (string_table (names_in object.symbols))) (2 ^ 40) (2 ^ 32) (symbols_low object w) (omega arith) in
    omega arith

names_size : length (string_table section_names) ≡ 61
unfolding string_table
names_size = refl

names_low : (object : Object) → IsWritable object → (names_part object).at + (names_part object).size < 2 ^ 42
unfolding names_part
names_low object w =
    let size = names_size in
    let low = low_behind (strings_part object) (length (string_table section_names)) (2 ^ 41) (2 ^ 32) (strings_low object w) (omega arith) in
    omega arith

pub heads_low : (object : Object) → IsWritable object → (heads_part object).at + (heads_part object).size < 2 ^ 43
unfolding heads_part
heads_low object w =
    let low = low_behind (names_part object) (8 * 64) (2 ^ 42) (2 ^ 32) (names_low object w) (omega arith) in
    omega arith

fits_segment : (part : Part) (writable : Bool) → part.at + part.size < 2 ^ 60 → FitsSegment (segment_of part writable)
fits_segment part writable low =
    record { start = omega arith; file_at = omega arith; file_size = omega arith; size = omega arith }

pub text_fits : (object : Object) → IsWritable object → FitsSegment (segment_of (text_part object) false)
text_fits object w =
    let low = text_low object w in fits_segment (text_part object) false (omega arith)

pub data_fits : (object : Object) → IsWritable object → FitsSegment (segment_of (data_part object) true)
data_fits object w =
    let low = data_low object w in fits_segment (data_part object) true (omega arith)

fits_loaded : (name flags : ℕ) (part : Part) → name < 2 ^ 32 → flags < 2 ^ 64 → part.at + part.size < 2 ^ 60 → FitsHead (loaded name flags part)
fits_loaded name flags part n f low =
    record {
      name = n;
      kind = omega arith;
      flags = f;
      start = omega arith;
      file_at = omega arith;
      size = omega arith;
      link = omega arith;
      info = omega arith;
      each = omega arith;
    }

fits_unloaded : (name kind : ℕ) (part : Part) (link info each : ℕ) → name < 2 ^ 32 → kind < 2 ^ 32 → part.at + part.size < 2 ^ 60 → link < 2 ^ 32 → info < 2 ^ 32 → each < 2 ^ 64 → FitsHead (unloaded name kind part link info each)
fits_unloaded name kind part link info each n k low l i e =
    record {
      name = n;
      kind = k;
      flags = omega arith;
      start = omega arith;
      file_at = omega arith;
      size = omega arith;
      link = l;
      info = i;
      each = e;
    }

pub sections_fit : (object : Object) → IsWritable object → AllFit (sections (parts_of object) (length object.symbols))
unfolding sections parts_of
sections_fit object w =
    let a = text_low object w in
    let b = data_low object w in
    let c = text_records_low object w in
    let d = data_records_low object w in
    let e = symbols_low object w in
    let f = strings_low object w in
    let g = names_low object w in
    let few = few_symbols object w in (
      record {
        name = omega arith;
        kind = omega arith;
        flags = omega arith;
        start = omega arith;
        file_at = omega arith;
        size = omega arith;
        link = omega arith;
        info = omega arith;
        each = omega arith;
      },
      (
        fits_loaded 1 6 (text_part object) (omega arith) (omega arith) (omega arith),
        (
          fits_loaded 7 3 (data_part object) (omega arith) (omega arith) (omega arith),
          (
            fits_unloaded 13 4 (text_records_part object) 5 1 24 (omega arith) (omega arith) (omega arith) (omega arith) (omega arith) (omega arith),
            (
              fits_unloaded 24 4 (data_records_part object) 5 2 24 (omega arith) (omega arith) (omega arith) (omega arith) (omega arith) (omega arith),
              (
                fits_unloaded 35 2 (symbols_part object) 6 (length object.symbols) 24 (omega arith) (omega arith) (omega arith) (omega arith) few (omega arith),
                (
                  fits_unloaded 43 3 (strings_part object) 0 0 0 (omega arith) (omega arith) (omega arith) (omega arith) (omega arith) (omega arith),
                  (
                    fits_unloaded 51 3 (names_part object) 0 0 0 (omega arith) (omega arith) (omega arith) (omega arith) (omega arith) (omega arith),
                    tt,
                  ),
                ),
              ),
            ),
          ),
        ),
      ),
    )
