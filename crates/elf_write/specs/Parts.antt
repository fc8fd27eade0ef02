-- SPDX-License-Identifier: Apache-2.0
-- Where the parts of the file of an object stand, and their sizes. The code stands at 0x1000 and the data at the next
-- multiple of 0x1000; their addresses are 0xf000 more. Each part behind them begins at the next multiple of 8.
use Rattle.std.specs.Prelude.{ℕ, ◌+◌, ◌*◌, Bool, true, false, not, List, [], ◌∷◌, ◌++◌, length, map, filter, codes, nat_le, if◌then◌else◌}
use Rattle.std.specs.List.{concat, flat_map}
use Rattle.std.specs.Int.{next_multiple_of}
use Rattle.sh_types.specs.declared.symbols.Symbol.{Symbol}
use Rattle.sh_types.specs.declared.objects.Object.{Object}
use Rattle.sh_types.specs.declared.objects.Mark.{Mark}
use Rattle.elf_write.specs.declared.parts.Part.{Part}
use Rattle.elf_write.specs.declared.parts.Parts.{Parts}

-- ---- marks

-- the marks of the code, or those of the data
abbrev pub is_in : Bool → Mark → Bool
is_in true mark = mark.in_text
is_in false mark = not mark.in_text

-- a mark in front of the first that stands no lower
abbrev pub put_by_place : Mark → List Mark → List Mark
put_by_place m [] = m ∷ []
put_by_place m (n ∷ ns) = if nat_le m.at n.at then m ∷ n ∷ ns else n ∷ put_by_place m ns

-- marks by rising places; those of one place stay in their order
abbrev pub by_place : List Mark → List Mark
by_place [] = []
by_place (m ∷ ms) = put_by_place m (by_place ms)

unfoldable pub marks_in : Bool → List Mark → List Mark
marks_in text marks = by_place (filter (is_in text) marks)

-- ---- string tables

-- the names, each with a zero byte behind it
unfoldable pub string_table : List (List ℕ) → List ℕ
string_table names = flat_map (λ name. name ++ 0 ∷ []) names

-- the names of the symbols; the first symbol is the null symbol, which has none
abbrev pub names_in : List Symbol → List (List ℕ)
names_in symbols = map (λ (s : Symbol). s.name) symbols

-- the names of the sections, by their numbers; the null section has none
abbrev pub section_names : List (List ℕ)
section_names =
    []
    ∷ codes ".text"
    ∷ codes ".data"
    ∷ codes ".rela.text"
    ∷ codes ".rela.data"
    ∷ codes ".symtab"
    ∷ codes ".strtab"
    ∷ codes ".shstrtab"
    ∷ []

-- ---- the parts

abbrev pub home_of : Part → ℕ
home_of part = 0xf000 + part.at

-- a part of this size behind another
unfoldable pub behind : Part → ℕ → Part
behind part size = record { at = next_multiple_of (part.at + part.size) 8; size = size }

unfoldable pub text_part : Object → Part
text_part object = record { at = 0x1000; size = 4 * length (concat object.words) }

unfoldable pub data_part : Object → Part
data_part object =
    record { at = next_multiple_of (0x1000 + 4 * length (concat object.words)) 0x1000; size = length object.bytes }

unfoldable pub text_records_part : Object → Part
text_records_part object = behind (data_part object) (24 * length (marks_in true object.marks))

unfoldable pub data_records_part : Object → Part
data_records_part object = behind (text_records_part object) (24 * length (marks_in false object.marks))

unfoldable pub symbols_part : Object → Part
symbols_part object = behind (data_records_part object) (24 * length object.symbols)

unfoldable pub strings_part : Object → Part
strings_part object = behind (symbols_part object) (length (string_table (names_in object.symbols)))

unfoldable pub names_part : Object → Part
names_part object = behind (strings_part object) (length (string_table section_names))

-- the section headers
unfoldable pub heads_part : Object → Part
heads_part object = behind (names_part object) (8 * 64)

unfoldable pub parts_of : Object → Parts
parts_of object =
    record {
      text_bytes = text_part object;
      data_bytes = data_part object;
      text_records = text_records_part object;
      data_records = data_records_part object;
      symbols = symbols_part object;
      strings = strings_part object;
      names = names_part object;
      heads = heads_part object;
    }
