-- SPDX-License-Identifier: Apache-2.0
-- Where the fields of an ELF-64 file stand (System V gABI, "ELF Header", "Program Header", "Section Header",
-- "Symbol Table", "String Table"), and its tables. The numbers have their lowest byte first; bytes past the end of the file read as zeros.
use Rattle.std.specs.Prelude.{ℕ, zero, suc, ◌+◌, ◌*◌, ◌/◌, ◌%◌, ◌==◌, ◌&&◌, not, nat_le, Bool, Option, Some, None, unwrap_or, List, [], ◌∷◌, length, map, filter, take, drop, take_while, get_or, bit_and, slice_index, if◌then◌else◌}
use Rattle.std.specs.List.{list_any}
use Rattle.elf_rules.specs.declared.elf.Segment.{Segment}
use Rattle.elf_rules.specs.declared.elf.Program.{Program}
use Rattle.elf_rules.specs.declared.elf.Head.{Head}
use Rattle.elf_rules.specs.declared.elf.RawSymbol.{RawSymbol}
use Rattle.sh_types.specs.declared.symbols.Section.{Section}
use Rattle.sh_types.specs.declared.symbols.Symbol.{Symbol}

-- the number of n bytes at a place
unfoldable pub number_at : ℕ → List ℕ → ℕ → ℕ
number_at zero bytes place = 0
number_at (suc n) bytes place = slice_index bytes place + 256 * number_at n bytes (place + 1)

-- a part of the file, wholly inside
abbrev pub lies_in : List ℕ → ℕ → ℕ → Bool
lies_in bytes start size = nat_le (start + size) (length bytes)

-- flags have a bit of the mask
abbrev pub has : ℕ → ℕ → Bool
has flags mask = not (bit_and flags mask == 0)

-- ---- the header: EI_MAG0 to EI_MAG3, EI_CLASS, EI_DATA and EI_VERSION of e_ident, and e_type, e_machine,
-- e_version and e_entry

abbrev pub magic_of : List ℕ → ℕ
magic_of bytes = number_at 4 bytes 0

abbrev pub class_of : List ℕ → ℕ
class_of bytes = number_at 1 bytes 4

abbrev pub order_of : List ℕ → ℕ
order_of bytes = number_at 1 bytes 5

abbrev pub ident_version_of : List ℕ → ℕ
ident_version_of bytes = number_at 1 bytes 6

abbrev pub type_of : List ℕ → ℕ
type_of bytes = number_at 2 bytes 16

abbrev pub machine_of : List ℕ → ℕ
machine_of bytes = number_at 2 bytes 18

abbrev pub version_of : List ℕ → ℕ
version_of bytes = number_at 4 bytes 20

abbrev pub entry_of : List ℕ → ℕ
entry_of bytes = number_at 8 bytes 24

-- where the program headers and the section headers begin in the file, e_flags, and how many headers there are
abbrev pub program_at : List ℕ → ℕ
program_at bytes = number_at 8 bytes 32

abbrev pub section_at : List ℕ → ℕ
section_at bytes = number_at 8 bytes 40

abbrev pub flags_of : List ℕ → ℕ
flags_of bytes = number_at 4 bytes 48

abbrev pub program_count : List ℕ → ℕ
program_count bytes = number_at 2 bytes 56

abbrev pub section_count : List ℕ → ℕ
section_count bytes = number_at 2 bytes 60

-- e_phentsize, e_shentsize and e_shstrndx
abbrev pub program_size : List ℕ → ℕ
program_size bytes = number_at 2 bytes 54

abbrev pub section_size : List ℕ → ℕ
section_size bytes = number_at 2 bytes 58

abbrev pub names_of : List ℕ → ℕ
names_of bytes = number_at 2 bytes 62

-- ---- entries of tables

-- n places, each a step after the one before
abbrev pub places : ℕ → ℕ → ℕ → List ℕ
places step place zero = []
places step place (suc n) = place ∷ places step (place + step) n

-- the program header at a place, as a segment
abbrev pub segment_at : List ℕ → ℕ → Segment
segment_at bytes place =
    record {
      start = number_at 8 bytes (place + 16);
      file_at = number_at 8 bytes (place + 8);
      file_size = number_at 8 bytes (place + 32);
      size = number_at 8 bytes (place + 40);
      writable = has (number_at 4 bytes (place + 4)) 2;
    }

-- the program header at a place
abbrev pub program : List ℕ → ℕ → Program
program bytes place = record { kind = number_at 4 bytes place; segment = segment_at bytes place }

-- the section header at a place
abbrev pub head_at : List ℕ → ℕ → Head
head_at bytes place =
    record {
      name = number_at 4 bytes place;
      kind = number_at 4 bytes (place + 4);
      flags = number_at 8 bytes (place + 8);
      start = number_at 8 bytes (place + 16);
      file_at = number_at 8 bytes (place + 24);
      size = number_at 8 bytes (place + 32);
      link = number_at 4 bytes (place + 40);
      info = number_at 4 bytes (place + 44);
      each = number_at 8 bytes (place + 56);
    }

-- the symbol at a place
abbrev pub raw_symbol : List ℕ → ℕ → RawSymbol
raw_symbol bytes place =
    record {
      name = number_at 4 bytes place;
      kind = number_at 1 bytes (place + 4) % 16;
      section = number_at 2 bytes (place + 6);
      value = number_at 8 bytes (place + 8);
      size = number_at 8 bytes (place + 16);
    }

-- ---- the tables

-- all program headers, all section headers
unfoldable pub programs_of : List ℕ → List Program
programs_of bytes = map (program bytes) (places 56 (program_at bytes) (program_count bytes))

unfoldable pub heads_of : List ℕ → List Head
heads_of bytes = map (head_at bytes) (places 64 (section_at bytes) (section_count bytes))

-- the segments of the headers with PT_LOAD
abbrev pub loads : List Program → List Segment
loads programs = map (λ (p : Program). p.segment) (filter (λ (p : Program). p.kind == 1) programs)

abbrev pub segments_of : List ℕ → List Segment
segments_of bytes = loads (programs_of bytes)

-- code stands in the section: SHF_ALLOC, SHF_EXECINSTR and a size
abbrev pub is_code : Head → Bool
is_code head = has head.flags 2 && has head.flags 4 && not (head.size == 0)

abbrev pub section_of : Head → Section
section_of head = record { start = head.start; size = head.size; executable = is_code head }

-- the sections of a file, by their numbers
abbrev pub sections_of : List ℕ → List Section
sections_of bytes = map section_of (heads_of bytes)

-- what stands for a header where there is none
abbrev pub no_head : Head
no_head = record { name = 0; kind = 0; flags = 0; start = 0; file_at = 0; size = 0; link = 0; info = 0; each = 0 }

-- ---- the symbol table: the only section of type SHT_SYMTAB, and the string table that its sh_link names

-- the only entry of a list that has one
abbrev pub only : {A : Type 0} → List A → Option A
only [] = None
only (x ∷ []) = Some x
only (x ∷ y ∷ rest) = None

abbrev pub is_symtab : Head → Bool
is_symtab h = h.kind == 2

abbrev pub sole_table : List ℕ → Option Head
sole_table bytes = only (filter is_symtab (heads_of bytes))

unfoldable pub table_of : List ℕ → Head
table_of bytes = unwrap_or (sole_table bytes) no_head

abbrev pub string_head : List Head → Head → Head
string_head heads table = get_or heads table.link no_head

-- the symbols as they stand in the table
unfoldable pub raws_of : List ℕ → List RawSymbol
raws_of bytes = map (raw_symbol bytes) (places 24 (table_of bytes).file_at ((table_of bytes).size / 24))

-- ---- names

-- the bytes of a section, none where they are not inside the file
unfoldable pub part_of : List ℕ → Head → List ℕ
part_of bytes h = if lies_in bytes h.file_at h.size then take h.size (drop h.file_at bytes) else []

-- the string tables of the symbols and of the sections
abbrev pub symbol_names : List ℕ → List ℕ
symbol_names bytes = part_of bytes (string_head (heads_of bytes) (table_of bytes))

abbrev pub section_names : List ℕ → List ℕ
section_names bytes = part_of bytes (get_or (heads_of bytes) (names_of bytes) no_head)

-- the name that begins at a place of a string table ends with a zero byte
unfoldable pub ends : List ℕ → ℕ → Bool
ends names place = list_any (λ c. c == 0) (drop place names)

-- the name: the bytes up to the zero byte
unfoldable pub name_at : List ℕ → ℕ → List ℕ
name_at names place = take_while (λ c. not (c == 0)) (drop place names)

abbrev pub symbol : List ℕ → RawSymbol → Symbol
symbol names s = record { name = name_at names s.name; kind = s.kind; section = s.section; value = s.value; size = s.size }

unfoldable pub symbols_of : List ℕ → List Symbol
symbols_of bytes = map (symbol (symbol_names bytes)) (raws_of bytes)
