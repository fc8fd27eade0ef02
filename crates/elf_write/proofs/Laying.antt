-- SPDX-License-Identifier: Apache-2.0
-- Parts that are laid one behind the other are where they were put.
use Rattle.std.proofs.Common.{◌≡◌, ℕ, ◌+◌, ◌-◌, ◌≤◌, true, false, List, [], ◌∷◌, ◌++◌, length, take, drop, refl, sym, ◌∙◌, append_assoc, arith}
use Rattle.std.specs.Prelude.{replicate}
use Rattle.std.proofs.lemmas.List.{append-nil, length-append, length-replicate}
use Rattle.std.proofs.Math.Seq.{drop-append_seam, take-append_seam}
use Rattle.sh_types.specs.declared.objects.Object.{Object}
use Rattle.elf_write.specs.declared.parts.Part.{Part}
use Rattle.elf_write.specs.Held.{Holds, HoldsAll}
use Rattle.elf_write.specs.Parts.{home_of, marks_in, names_in, section_names, string_table, behind, text_part, data_part, text_records_part, data_records_part, symbols_part, strings_part, names_part, heads_part, parts_of}
use Rattle.elf_write.specs.Tables.{records, symbol_table}
use Rattle.elf_write.specs.Writable.{IsWritable}
use Rattle.elf_write.specs.Written.{code, entry_home, front, sections, section_headers, placed, file_of, elf_file}
use Rattle.elf_write.proofs.Widths.{length_code, length_records, length_symbols, length_heads, length_front}

-- ---- parts in general

-- each begins at the end of the one before or behind it, and has the size that it says
abbrev pub InOrder : ℕ → List (Part × List ℕ) → Type 0
InOrder here [] = Unit {0}
InOrder here (p ∷ rest) = (here ≤ p.0.at) × (length p.1 ≡ p.0.size) × InOrder (p.0.at + p.0.size) rest

abbrev pub end_of : ℕ → List (Part × List ℕ) → ℕ
end_of here [] = here
end_of here (p ∷ rest) = end_of (p.0.at + p.0.size) rest

abbrev pub AllHeld : List ℕ → List (Part × List ℕ) → Type 0
AllHeld file [] = Unit {0}
AllHeld file (p ∷ rest) = Holds file p.0 p.1 × AllHeld file rest

held : (before bytes tail : List ℕ) (at size : ℕ) → length before ≡ at → length bytes ≡ size → take size (drop at ((before ++ bytes) ++ tail)) ≡ bytes
held before bytes tail at size a s = rw (← a, ← s, append_assoc, drop-append_seam) (take-append_seam bytes tail)

-- what is laid begins with what was there
pub begins : (file : List ℕ) (parts : List (Part × List ℕ)) → (tail : List ℕ) × (placed file parts ≡ file ++ tail)
unfolding placed
begins file [] = ([], sym (append-nil file))
begins file (p ∷ rest) =
    let zeros = replicate (p.0.at - length file) 0 in
    let b = begins ((file ++ zeros) ++ p.1) rest in
    (zeros ++ (p.1 ++ b.0), b.1 ∙ append_assoc (file ++ zeros) p.1 b.0 ∙ append_assoc file zeros (p.1 ++ b.0))

filled : (file : List ℕ) (at : ℕ) → length file ≤ at → length (file ++ replicate (at - length file) 0) ≡ at
filled file at below = rw (length-append, length-replicate) (omega arith)

laid : (file : List ℕ) (p : Part × List ℕ) → length file ≤ p.0.at → length p.1 ≡ p.0.size → length ((file ++ replicate (p.0.at - length file) 0) ++ p.1) ≡ p.0.at + p.0.size
laid file p below size =
    rw (length-append, filled file p.0.at below, size)

pub all_held : (file : List ℕ) (here : ℕ) (parts : List (Part × List ℕ)) → length file ≡ here → InOrder here parts → AllHeld (placed file parts) parts
unfolding placed
all_held file here [] at order = tt
all_held file here (p ∷ rest) at order =
    let below : length file ≤ p.0.at = omega (arith, order.0) in
    let before = file ++ replicate (p.0.at - length file) 0 in
    let b = begins (before ++ p.1) rest in (
      rw b.1 (held before p.1 b.0 p.0.at p.0.size (filled file p.0.at below) order.1),
      all_held (before ++ p.1) (p.0.at + p.0.size) rest (laid file p below order.1) order.2,
    )

pub length_placed : (file : List ℕ) (here : ℕ) (parts : List (Part × List ℕ)) → length file ≡ here → InOrder here parts → length (placed file parts) ≡ end_of here parts
unfolding placed
length_placed file here [] at order = at
length_placed file here (p ∷ rest) at order =
    let below : length file ≤ p.0.at = omega (arith, order.0) in
    length_placed ((file ++ replicate (p.0.at - length file) 0) ++ p.1) (p.0.at + p.0.size) rest (laid file p below order.1) order.2

-- ---- the parts of an object

after : (part : Part) (size : ℕ) → part.at + part.size ≤ (behind part size).at
unfolding behind
after part size = omega arith

size_behind : (part : Part) (size : ℕ) → size ≡ (behind part size).size
unfolding behind
size_behind part size = refl

abbrev pub parts_list : Object → List (Part × List ℕ)
parts_list object =
    (text_part object, code object.words)
    ∷ (data_part object, object.bytes)
    ∷ (text_records_part object, records (home_of (text_part object)) (marks_in true object.marks))
    ∷ (data_records_part object, records (home_of (data_part object)) (marks_in false object.marks))
    ∷ (symbols_part object, symbol_table 0 object.symbols)
    ∷ (strings_part object, string_table (names_in object.symbols))
    ∷ (names_part object, string_table section_names)
    ∷ (heads_part object, section_headers (sections (parts_of object) (length object.symbols)))
    ∷ []

pub file_is : (object : Object) → elf_file object ≡ placed (front (entry_home object) (parts_of object)) (parts_list object)
unfolding file_of parts_of
file_is object = refl

text_at : (object : Object) → 176 ≤ (text_part object).at
unfolding text_part
text_at object = omega arith

text_size : (object : Object) → length (code object.words) ≡ (text_part object).size
unfolding text_part
text_size object = length_code object.words

data_at : (object : Object) → (text_part object).at + (text_part object).size ≤ (data_part object).at
unfolding text_part data_part
data_at object = omega arith

data_size : (object : Object) → length object.bytes ≡ (data_part object).size
unfolding data_part
data_size object = refl

text_records_at : (object : Object) → (data_part object).at + (data_part object).size ≤ (text_records_part object).at
unfolding text_records_part
text_records_at object = after (data_part object) _

text_records_size : (object : Object) → length (records (home_of (text_part object)) (marks_in true object.marks)) ≡ (text_records_part object).size
unfolding text_records_part
text_records_size object = length_records _ _ ∙ size_behind (data_part object) _

data_records_at : (object : Object) → (text_records_part object).at + (text_records_part object).size ≤ (data_records_part object).at
unfolding data_records_part
data_records_at object = after (text_records_part object) _

data_records_size : (object : Object) → length (records (home_of (data_part object)) (marks_in false object.marks)) ≡ (data_records_part object).size
unfolding data_records_part
data_records_size object = length_records _ _ ∙ size_behind (text_records_part object) _

pub symbols_at : (object : Object) → (data_records_part object).at + (data_records_part object).size ≤ (symbols_part object).at
unfolding symbols_part
symbols_at object = after (data_records_part object) _

pub symbols_size : (object : Object) → length (symbol_table 0 object.symbols) ≡ (symbols_part object).size
unfolding symbols_part
symbols_size object = length_symbols 0 object.symbols ∙ size_behind (data_records_part object) _

pub strings_at : (object : Object) → (symbols_part object).at + (symbols_part object).size ≤ (strings_part object).at
unfolding strings_part
strings_at object = after (symbols_part object) _

pub strings_size : (object : Object) → length (string_table (names_in object.symbols)) ≡ (strings_part object).size
unfolding strings_part
strings_size object = size_behind (symbols_part object) _

pub names_at : (object : Object) → (strings_part object).at + (strings_part object).size ≤ (names_part object).at
unfolding names_part
names_at object = after (strings_part object) _

names_size : (object : Object) → length (string_table section_names) ≡ (names_part object).size
unfolding names_part
names_size object = size_behind (strings_part object) _

pub heads_at : (object : Object) → (names_part object).at + (names_part object).size ≤ (heads_part object).at
unfolding heads_part
heads_at object = after (names_part object) _

heads_size : (object : Object) → length (section_headers (sections (parts_of object) (length object.symbols))) ≡ (heads_part object).size
unfolding heads_part sections
heads_size object = length_heads _ ∙ size_behind (names_part object) _

in_order : (object : Object) → InOrder 176 (parts_list object)
in_order object = (
  text_at object,
  text_size object,
  (
    data_at object,
    data_size object,
    (
      text_records_at object,
      text_records_size object,
      (
        data_records_at object,
        data_records_size object,
        (
          symbols_at object,
          symbols_size object,
          (
            strings_at object,
            strings_size object,
            (
              names_at object,
              names_size object,
              (heads_at object, heads_size object, tt),
            ),
          ),
        ),
      ),
    ),
  ),
)

pub holds_all : (object : Object) → IsWritable object → HoldsAll object (parts_of object) (elf_file object)
unfolding parts_of
holds_all object w =
    let start = length_front (entry_home object) (parts_of object) in
    let file = front (entry_home object) (parts_of object) in
    let all = all_held file 176 (parts_list object) start (in_order object) in
    let whole = length_placed file 176 (parts_list object) start (in_order object) in
    rw (file_is object) (record {
      code_is = all.0;
      data_is = all.1.0;
      text_records_are = all.1.1.0;
      data_records_are = all.1.1.1.0;
      symbols_are = all.1.1.1.1.0;
      strings_are = all.1.1.1.1.1.0;
      names_are = all.1.1.1.1.1.1.0;
      heads_are = all.1.1.1.1.1.1.1.0;
      whole = whole;
    })
