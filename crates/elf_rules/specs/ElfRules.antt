-- SPDX-License-Identifier: Apache-2.0
-- Where each rule on a file fails, a row of the table for each, and which rule is answered. The fields are those of the
-- System V gABI ("ELF Header", "Program Header", "Section Header", "Symbol Table", "String Table") and of the RISC-V
-- psABI ("File Header"). Sums are whole numbers. The rules and their order are this project's own; those on relocation
-- records stand in RelocRules.
use Rattle.std.specs.Prelude.{◌≡◌, ℕ, ◌+◌, ◌*◌, ◌%◌, ◌==◌, ◌&&◌, ◌||◌, nat_lt, nat_le, not, Bool, true, List, [], ◌∷◌, ◌++◌, length, filter, map, Option, Some, None, Result, Ok, Err, if◌then◌else◌}
use Rattle.std.specs.List.{list_any}
use Rattle.elf_rules.specs.declared.elf.Elf.{Elf}
use Rattle.elf_rules.specs.declared.elf.Head.{Head}
use Rattle.elf_rules.specs.declared.elf.Program.{Program}
use Rattle.elf_rules.specs.declared.elf.RawSymbol.{RawSymbol}
use Rattle.sh_types.specs.declared.symbols.Section.{Section}
use Rattle.elf_rules.specs.declared.elf.Segment.{Segment}
use Rattle.elf_rules.specs.declared.elf.Span.{Span}
use Rattle.elf_rules.specs.declared.refusals.ElfFault.{ElfFault}
use Rattle.elf_rules.specs.declared.refusals.ElfFault.TheVariants.{NoMemory, Rule}
use Rattle.elf_rules.specs.declared.refusals.ElfRule.{ElfRule}
use Rattle.elf_rules.specs.declared.refusals.ElfRule.TheVariants as rules
use Rattle.elf_rules.specs.RelocRules.{bad_total, bad_records, bad_undefined, bad_kinds}
use Rattle.elf_rules.specs.Spans.{any_share, head_span}
use Rattle.elf_rules.specs.Elf.{lies_in, has, magic_of, class_of, order_of, ident_version_of, type_of, machine_of, version_of, entry_of, program_at, section_at, flags_of, program_count, section_count, program_size, section_size, names_of, programs_of, heads_of, segments_of, is_code, sections_of, sole_table, string_head, raws_of, symbol_names, section_names, ends}
use Rattle.sh_types.specs.Limits.{image_end}

-- ---- Tables: the entries have the sizes of ELF-64, there are some of each, e_shstrndx is the number of a section, and
-- the two tables lie in the file
unfoldable pub bad_tables : List ℕ → Bool
bad_tables b =
    not (program_size b == 56)
    || not (section_size b == 64)
    || (program_count b == 0)
    || (section_count b == 0)
    || nat_le (section_count b) (names_of b)
    || not (lies_in b (program_at b) (56 * program_count b))
    || not (lies_in b (section_at b) (64 * section_count b))

-- ---- Dynamic: PT_DYNAMIC or PT_INTERP
abbrev pub is_dynamic : Program → Bool
is_dynamic p = p.kind == 2 || p.kind == 3

-- ---- Segment

-- a PT_LOAD by itself: p_filesz above p_memsz, its bytes outside the file, a start below 0x1000 where it has memory, or
-- an end above that of an image
unfoldable pub bad_segment : List ℕ → Segment → Bool
bad_segment b g =
    nat_lt g.size g.file_size
    || not (lies_in b g.file_at g.file_size)
    || (nat_lt g.start 0x1000 && nat_lt 0 g.size)
    || nat_lt image_end (g.start + g.size)

abbrev pub segment_span : Segment → Span
segment_span g = record { start = g.start; size = g.size }

abbrev pub has_memory : Segment → Bool
has_memory g = nat_lt 0 g.size

-- the addresses of the segments with memory
abbrev pub filled : List Segment → List Span
filled segments = map segment_span (filter has_memory segments)

abbrev pub bad_segments : List ℕ → List Segment → Bool
bad_segments b segments = list_any (bad_segment b) segments || any_share (filled segments)

-- ---- Code

-- the section lies in the bytes of the segment, and in the file where the segment puts them
unfoldable pub holds : Head → Segment → Bool
holds h g =
    nat_le g.start h.start
    && nat_le (h.start + h.size) (g.start + g.file_size)
    && (h.file_at + g.start == g.file_at + h.start)

-- an executable section by itself: not SHT_PROGBITS, not of whole words, or in no PT_LOAD
unfoldable pub bad_code : List Segment → Head → Bool
bad_code segments h =
    not (h.kind == 1) || not (h.start % 4 == 0) || not (h.size % 4 == 0) || not (list_any (holds h) segments)

abbrev pub bad_codes : List Segment → List Head → Bool
bad_codes segments codes = list_any (bad_code segments) codes || any_share (map head_span codes)

-- ---- Symbols: one SHT_SYMTAB, of whole entries, whose bytes and those of the SHT_STRTAB that sh_link names are in the
-- file
unfoldable pub bad_table : List ℕ → List Head → Option Head → Bool
bad_table b heads None = true
bad_table b heads (Some table) =
    not (table.each == 24)
    || not (table.size % 24 == 0)
    || not (lies_in b table.file_at table.size)
    || not ((string_head heads table).kind == 3)
    || not (lies_in b (string_head heads table).file_at (string_head heads table).size)

-- ---- Start: the entry is no whole word of an executable section

-- the address lies in the section, which is executable
unfoldable pub runs_at : ℕ → Section → Bool
runs_at address s = s.executable && nat_le s.start address && nat_lt address (s.start + s.size)

abbrev pub bad_start : ℕ → List Section → Bool
bad_start entry sections = not (entry % 4 == 0) || not (list_any (runs_at entry) sections)

-- ---- NameAt: the name of a symbol or of a section does not end in its string table
abbrev pub bad_names : List ℕ → List ℕ → List RawSymbol → List Head → Bool
bad_names symbol_names section_names raws heads =
    list_any (λ (s : RawSymbol). not (ends symbol_names s.name)) raws
    || list_any (λ (h : Head). not (ends section_names h.name)) heads

-- ---- SectionAt: st_shndx is no section's number, and below SHN_LORESERVE
unfoldable pub bad_section : ℕ → RawSymbol → Bool
bad_section count s = nat_le count s.section && nat_lt s.section 0xff00

-- ---- the table

-- the rule fails of the file
unfoldable pub fails : ElfRule → List ℕ → Bool
fails rules.Short b = nat_lt (length b) 64
fails rules.Magic b = not (magic_of b == 0x464c457f)
fails rules.Class b = not (class_of b == 2)
fails rules.Order b = not (order_of b == 1)
fails rules.Version b = not (ident_version_of b == 1) || not (version_of b == 1)
fails rules.Kind2 b = not (type_of b == 2)
fails rules.Machine b = not (machine_of b == 243)
fails rules.Flags b = has (flags_of b) 15
fails rules.Tables b = bad_tables b
fails rules.Dynamic b = list_any is_dynamic (programs_of b)
fails rules.Segment b = bad_segments b (segments_of b)
fails rules.Code b = bad_codes (segments_of b) (filter is_code (heads_of b))
fails rules.Symbols b = bad_table b (heads_of b) (sole_table b)
fails rules.Start b = bad_start (entry_of b) (sections_of b)
fails rules.NameAt b = bad_names (symbol_names b) (section_names b) (raws_of b) (heads_of b)
fails rules.SectionAt b = list_any (bad_section (section_count b)) (raws_of b)
fails rules.Total b = bad_total b
fails rules.Records b = bad_records b
fails rules.Undefined b = bad_undefined b
fails rules.Kind b = bad_kinds b

-- ---- their order

-- the first rule of a list that fails
abbrev pub first_failing : List ElfRule → List ℕ → Option ElfRule
first_failing [] b = None
first_failing (rule ∷ rest) b = if fails rule b then Some rule else first_failing rest b

-- the rules on the header, up to that the tables can be read
abbrev pub header_rules : List ElfRule
header_rules =
    rules.Short ∷ rules.Magic ∷ rules.Class ∷ rules.Order ∷ rules.Version ∷ rules.Kind2 ∷ rules.Machine ∷ rules.Flags ∷ rules.Tables ∷ []

-- the rules on headers and sections
abbrev pub table_rules : List ElfRule
table_rules = header_rules ++ rules.Dynamic ∷ rules.Segment ∷ rules.Code ∷ []

-- the rules on symbols and names
abbrev pub symbol_rules : List ElfRule
symbol_rules = rules.Symbols ∷ rules.Start ∷ rules.NameAt ∷ rules.SectionAt ∷ []

-- the rules on relocation records
abbrev pub reloc_rules : List ElfRule
reloc_rules = rules.Total ∷ rules.Records ∷ rules.Undefined ∷ rules.Kind ∷ []

-- ---- what is read

-- the tables
abbrev pub elf_of : List ℕ → Elf
elf_of b =
    record { entry = entry_of b; names = names_of b; segments = segments_of b; sections = sections_of b; heads = heads_of b }

-- these are the tables of the file, of which no rule on headers and sections fails
pub record IsReadFrom (elf : Elf) (b : List ℕ) : Type 0 where
  pub entry : elf.entry ≡ entry_of b
  pub names : elf.names ≡ names_of b
  pub segments : elf.segments ≡ segments_of b
  pub sections : elf.sections ≡ sections_of b
  pub heads : elf.heads ≡ heads_of b
  pub fine : first_failing table_rules b ≡ None

-- no rule fails and this is what is read, or the rule is the first that fails; want of memory says nothing
abbrev pub Reads : {A : Type 0} → Result A ElfFault → Option ElfRule → A → Type 0
Reads (Ok a) failing value = (failing ≡ None) × (a ≡ value)
Reads (Err NoMemory) failing value = Unit {0}
Reads (Err (Rule rule)) failing value = failing ≡ Some rule
