-- SPDX-License-Identifier: Apache-2.0
-- What the file of an object holds, and where, and what its headers say.
use Rattle.std.specs.List.{All}
use Rattle.std.specs.Prelude.{◌≡◌, ℕ, ◌+◌, ◌^◌, ◌<◌, true, false, List, [], ◌∷◌, length, map, take, drop}
use Rattle.elf_rules.specs.declared.elf.Head.{Head}
use Rattle.elf_rules.specs.declared.elf.Program.{Program}
use Rattle.elf_rules.specs.declared.elf.Segment.{Segment}
use Rattle.sh_types.specs.declared.symbols.Symbol.{Symbol}
use Rattle.elf_rules.specs.Elf.{magic_of, class_of, order_of, type_of, machine_of, entry_of, names_of, programs_of, segments_of, heads_of}
use Rattle.sh_types.specs.declared.objects.Object.{Object}
use Rattle.elf_write.specs.declared.parts.Part.{Part}
use Rattle.elf_write.specs.declared.parts.Parts.{Parts}
use Rattle.elf_write.specs.Parts.{home_of, marks_in, names_in, section_names, string_table}
use Rattle.elf_write.specs.Tables.{records, symbol_table}
use Rattle.elf_write.specs.Written.{code, entry_home, sections, section_headers, segment_of}

-- the bytes of the part are these
abbrev pub Holds : List ℕ → Part → List ℕ → Type 0
Holds file part bytes = take part.size (drop part.at file) ≡ bytes

pub record HoldsAll (object : Object) (parts : Parts) (file : List ℕ) : Type 0 where
  pub code_is : Holds file parts.text_bytes (code object.words)
  pub data_is : Holds file parts.data_bytes object.bytes
  pub text_records_are : Holds file parts.text_records (records (home_of parts.text_bytes) (marks_in true object.marks))
  pub data_records_are : Holds file parts.data_records (records (home_of parts.data_bytes) (marks_in false object.marks))
  pub symbols_are : Holds file parts.symbols (symbol_table 0 object.symbols)
  pub strings_are : Holds file parts.strings (string_table (names_in object.symbols))
  pub names_are : Holds file parts.names (string_table section_names)
  pub heads_are : Holds file parts.heads (section_headers (sections parts (length object.symbols)))
  -- nothing is behind the section headers
  pub whole : length file ≡ parts.heads.at + parts.heads.size

abbrev pub loadable : Segment → Program
loadable segment = record { kind = 1; segment = segment }

pub record SaysAll (object : Object) (parts : Parts) (file : List ℕ) : Type 0 where
  -- an executable of ELF-64 for RISC-V, with its lowest bytes first
  pub magic : magic_of file ≡ 0x464c457f
  pub class : class_of file ≡ 2
  pub order : order_of file ≡ 1
  pub kind : type_of file ≡ 2
  pub machine : machine_of file ≡ 243
  pub entry : entry_of file ≡ entry_home object
  -- code is loaded, and data, which can be written
  pub programs : programs_of file ≡ loadable (segment_of parts.text_bytes false) ∷ loadable (segment_of parts.data_bytes true) ∷ []
  pub segments : segments_of file ≡ segment_of parts.text_bytes false ∷ segment_of parts.data_bytes true ∷ []
  -- the sections by their numbers, the last with their names
  pub heads : heads_of file ≡ map (λ (s : ℕ × Head). s.1) (sections parts (length object.symbols))
  pub names : names_of file ≡ 7

-- the fields of the symbol fit their places in a file, and no byte of its name is zero
pub record IsPlain (symbol : Symbol) : Type 0 where
  pub name : All (λ c. 0 < c) symbol.name
  pub kind : symbol.kind < 16
  pub section : symbol.section < 2 ^ 16
  pub value : symbol.value < 2 ^ 64
  pub size : symbol.size < 2 ^ 64
