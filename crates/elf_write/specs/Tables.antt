-- SPDX-License-Identifier: Apache-2.0
-- The headers and the entries of tables, field by field (System V gABI, "ELF Header", "Program Header", "Section
-- Header", "Symbol Table", "Relocation"; RISC-V psABI, "File Header").
use Rattle.std.specs.Prelude.{ℕ, ◌+◌, ◌*◌, ◌%◌, ◌^◌, List, [], ◌∷◌, ◌++◌, length, if◌then◌else◌}
use Rattle.std.specs.List.{flat_map}
use Rattle.elf_rules.specs.declared.elf.Head.{Head}
use Rattle.elf_rules.specs.declared.elf.Segment.{Segment}
use Rattle.sh_types.specs.declared.symbols.Symbol.{Symbol}
use Rattle.sh_types.specs.declared.objects.Mark.{Mark}
use Rattle.elf_write.specs.Fields.{fields}

-- ---- headers

-- the header of an executable of RISC-V with two program headers and eight sections, the last with their names
abbrev pub header_fields : ℕ → ℕ → List (ℕ × ℕ)
header_fields entry heads_at =
    (4, 0x464c457f)  -- EI_MAG0 to EI_MAG3: 0x7f, E, L, F
    ∷ (1, 2)  -- EI_CLASS: ELFCLASS64
    ∷ (1, 1)  -- EI_DATA: ELFDATA2LSB
    ∷ (1, 1)  -- EI_VERSION: EV_CURRENT
    ∷ (1, 0)  -- EI_OSABI
    ∷ (8, 0)  -- EI_ABIVERSION and padding
    ∷ (2, 2)  -- e_type: ET_EXEC
    ∷ (2, 243)  -- e_machine: EM_RISCV
    ∷ (4, 1)  -- e_version: EV_CURRENT
    ∷ (8, entry)  -- e_entry
    ∷ (8, 64)  -- e_phoff
    ∷ (8, heads_at)  -- e_shoff
    ∷ (4, 0)  -- e_flags
    ∷ (2, 64)  -- e_ehsize
    ∷ (2, 56)  -- e_phentsize
    ∷ (2, 2)  -- e_phnum
    ∷ (2, 64)  -- e_shentsize
    ∷ (2, 8)  -- e_shnum
    ∷ (2, 7)  -- e_shstrndx
    ∷ []

unfoldable pub file_header : ℕ → ℕ → List ℕ
file_header entry heads_at = fields (header_fields entry heads_at)

-- PF_R, and PF_W for what can be written, else PF_X
abbrev pub flags_of : Segment → ℕ
flags_of segment = if segment.writable then 6 else 5

abbrev pub program_fields : Segment → List (ℕ × ℕ)
program_fields segment =
    (4, 1)  -- p_type: PT_LOAD
    ∷ (4, flags_of segment)  -- p_flags
    ∷ (8, segment.file_at)  -- p_offset
    ∷ (8, segment.start)  -- p_vaddr
    ∷ (8, segment.start)  -- p_paddr
    ∷ (8, segment.file_size)  -- p_filesz
    ∷ (8, segment.size)  -- p_memsz
    ∷ (8, 0x1000)  -- p_align
    ∷ []

unfoldable pub program_header : Segment → List ℕ
program_header segment = fields (program_fields segment)

-- the header of a section with an alignment
abbrev pub section_fields : ℕ → Head → List (ℕ × ℕ)
section_fields align head =
    (4, head.name)  -- sh_name
    ∷ (4, head.kind)  -- sh_type
    ∷ (8, head.flags)  -- sh_flags
    ∷ (8, head.start)  -- sh_addr
    ∷ (8, head.file_at)  -- sh_offset
    ∷ (8, head.size)  -- sh_size
    ∷ (4, head.link)  -- sh_link
    ∷ (4, head.info)  -- sh_info
    ∷ (8, align)  -- sh_addralign
    ∷ (8, head.each)  -- sh_entsize
    ∷ []

unfoldable pub section_header : ℕ → Head → List ℕ
section_header align head = fields (section_fields align head)

-- ---- records: the place, the symbol and the kind, and no addend

abbrev pub record_fields : ℕ → Mark → List (ℕ × ℕ)
record_fields home mark =
    (8, home + mark.at)  -- r_offset
    ∷ (8, mark.symbol * 2 ^ 32 + mark.kind)  -- r_info
    ∷ (8, 0)  -- r_addend
    ∷ []

unfoldable pub record_of : ℕ → Mark → List ℕ
record_of home mark = fields (record_fields home mark)

-- those of the marks of a part, whose address is given
unfoldable pub records : ℕ → List Mark → List ℕ
records home marks = flat_map (record_of home) marks

-- ---- symbols

-- the symbol, with its name at a place of the string table: a local one, with the default visibility
abbrev pub symbol_fields : ℕ → Symbol → List (ℕ × ℕ)
symbol_fields name symbol =
    (4, name)  -- st_name
    ∷ (1, symbol.kind % 16)  -- st_info: STB_LOCAL above the kind
    ∷ (1, 0)  -- st_other
    ∷ (2, symbol.section)  -- st_shndx
    ∷ (8, symbol.value)  -- st_value
    ∷ (8, symbol.size)  -- st_size
    ∷ []

unfoldable pub symbol_entry : ℕ → Symbol → List ℕ
symbol_entry name symbol = fields (symbol_fields name symbol)

-- the symbols, whose names stand one behind the other from a place on
unfoldable pub symbol_table : ℕ → List Symbol → List ℕ
symbol_table name [] = []
symbol_table name (symbol ∷ rest) = symbol_entry name symbol ++ symbol_table (name + length symbol.name + 1) rest
