-- SPDX-License-Identifier: Apache-2.0
-- The file of an object, part by part (System V gABI, "Object Files"). The layout is this project's own.
use Rattle.std.specs.Prelude.{ℕ, ◌-◌, Bool, true, false, List, [], ◌∷◌, ◌++◌, length, replicate, slice_index}
use Rattle.std.specs.List.{concat, flat_map}
use Rattle.elf_rules.specs.declared.elf.Head.{Head}
use Rattle.elf_rules.specs.declared.elf.Segment.{Segment}
use Rattle.elf_rules.specs.Elf.{no_head}
use Rattle.sh_types.specs.Image.{starts_of}
use Rattle.sh_types.specs.declared.objects.Object.{Object}
use Rattle.elf_write.specs.declared.parts.Part.{Part}
use Rattle.elf_write.specs.declared.parts.Parts.{Parts}
use Rattle.elf_write.specs.Fields.{little}
use Rattle.elf_write.specs.Parts.{marks_in, string_table, names_in, section_names, home_of, parts_of}
use Rattle.elf_write.specs.Tables.{file_header, program_header, section_header, records, symbol_table}

-- ---- code and segments

-- the words of the functions, one behind the other
unfoldable pub code : List (List ℕ) → List ℕ
code words = flat_map (little 4) (concat words)

-- where the entry function stands
abbrev pub entry_home : Object → ℕ
entry_home object = slice_index (starts_of object.functions) object.entry

abbrev pub segment_of : Part → Bool → Segment
segment_of part writable =
    record { start = home_of part; file_at = part.at; file_size = part.size; size = part.size; writable = writable }

-- the headers at the front of the file: that of the file, and those of code and data
unfoldable pub front : ℕ → Parts → List ℕ
front entry parts =
    file_header entry parts.heads.at
    ++ program_header (segment_of parts.text_bytes false)
    ++ program_header (segment_of parts.data_bytes true)

-- ---- sections

-- of type SHT_PROGBITS, with an address: the place of its name, and sh_flags
abbrev pub loaded : ℕ → ℕ → Part → Head
loaded name flags part =
    record { name = name; kind = 1; flags = flags; start = home_of part; file_at = part.at; size = part.size; link = 0; info = 0; each = 0 }

-- without an address: the place of its name, and sh_type, sh_link, sh_info and sh_entsize
abbrev pub unloaded : ℕ → ℕ → Part → ℕ → ℕ → ℕ → Head
unloaded name kind part link info each =
    record { name = name; kind = kind; flags = 0; start = 0; file_at = part.at; size = part.size; link = link; info = info; each = each }

-- each section by its number, with its alignment, where there are so many symbols, all of them local
unfoldable pub sections : Parts → ℕ → List (ℕ × Head)
sections parts symbols =
    (0, no_head)
    ∷ (4, loaded 1 6 parts.text_bytes)  -- .text: SHF_ALLOC and SHF_EXECINSTR
    ∷ (8, loaded 7 3 parts.data_bytes)  -- .data: SHF_WRITE and SHF_ALLOC
    ∷ (8, unloaded 13 4 parts.text_records 5 1 24)  -- .rela.text: SHT_RELA, the symbol table, .text
    ∷ (8, unloaded 24 4 parts.data_records 5 2 24)  -- .rela.data: SHT_RELA, the symbol table, .data
    ∷ (8, unloaded 35 2 parts.symbols 6 symbols 24)  -- .symtab: SHT_SYMTAB, its string table
    ∷ (8, unloaded 43 3 parts.strings 0 0 0)  -- .strtab: SHT_STRTAB
    ∷ (8, unloaded 51 3 parts.names 0 0 0)  -- .shstrtab: SHT_STRTAB
    ∷ []

unfoldable pub section_headers : List (ℕ × Head) → List ℕ
section_headers sections = flat_map (λ (s : ℕ × Head). section_header s.0 s.1) sections

-- ---- the file

-- parts behind what is there, each at its place, with zeros up to it
unfoldable pub placed : List ℕ → List (Part × List ℕ) → List ℕ
placed file [] = file
placed file (part ∷ rest) = placed ((file ++ replicate (part.0.at - length file) 0) ++ part.1) rest

-- the file with these parts
unfoldable pub file_of : Parts → Object → List ℕ
file_of parts object =
    placed (front (entry_home object) parts) (
    (parts.text_bytes, code object.words)
    ∷ (parts.data_bytes, object.bytes)
    ∷ (parts.text_records, records (home_of parts.text_bytes) (marks_in true object.marks))
    ∷ (parts.data_records, records (home_of parts.data_bytes) (marks_in false object.marks))
    ∷ (parts.symbols, symbol_table 0 object.symbols)
    ∷ (parts.strings, string_table (names_in object.symbols))
    ∷ (parts.names, string_table section_names)
    ∷ (parts.heads, section_headers (sections parts (length object.symbols)))
    ∷ [])

abbrev pub elf_file : Object → List ℕ
elf_file object = file_of (parts_of object) object
