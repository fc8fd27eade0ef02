-- SPDX-License-Identifier: Apache-2.0
-- Relocation records (System V gABI, "Relocation"): how they stand in a file, which are taken, and what each says of the
-- bytes at its place (RISC-V psABI, "Relocations"). Values are whole numbers, which may be negative. Which records are
-- taken and which are ignored is this project's own.
use Rattle.std.specs.Prelude.{ℕ, ℤ, pos, negsuc, ◌+◌, ◌-◌, ◌*◌, ◌/◌, ◌%◌, ◌^◌, ◌==◌, ◌&&◌, ◌+ℤ◌, ◌-ℤ◌, not, Bool, true, false, Option, Some, None, unwrap_or, List, [], ◌∷◌, ◌++◌, map, filter, find, drop, nat_eq, get_or, slice_get, if◌then◌else◌, codes}
use Rattle.std.specs.Int.{cast_signed}
use Rattle.std.specs.List.{list_any, starts_with}
use mir.Syntax.{w64}
use Rattle.elf_rules.specs.declared.elf.Head.{Head}
use Rattle.sh_types.specs.declared.symbols.Symbol.{Symbol}
use Rattle.elf_rules.specs.declared.relocs.RawReloc.{RawReloc}
use Rattle.sh_types.specs.declared.relocs.Reloc.{Reloc}
use Rattle.elf_rules.specs.declared.relocs.Field.{Field}
use Rattle.elf_rules.specs.declared.relocs.Field.TheVariants as field
use Rattle.elf_rules.specs.declared.relocs.Disagrees.{Disagrees}
use Rattle.elf_rules.specs.RelocKinds as riscv
use Rattle.elf_rules.specs.Elf.{number_at, places, has, heads_of, section_names, no_head, symbols_of}

-- ---- what the kinds say

-- the kind is one of these
abbrev pub one_of : List ℕ → ℕ → Bool
one_of kinds kind = list_any (λ k. kind == k) kinds

-- nothing is to be done for a record
unfoldable pub is_ignored : ℕ → Bool
is_ignored kind = one_of (riscv.none ∷ riscv.align ∷ riscv.relax ∷ []) kind

-- a record takes eight bytes from its place on, or four
abbrev pub takes_eight : ℕ → Bool
takes_eight kind = one_of (riscv.abs64 ∷ riscv.call ∷ riscv.call_plt ∷ []) kind

abbrev pub takes_four : ℕ → Bool
takes_four kind =
    one_of (riscv.abs32 ∷ riscv.branch ∷ riscv.jal ∷ riscv.got_hi20 ∷ riscv.pcrel_hi20 ∷ riscv.pcrel_lo12_i ∷ riscv.pcrel_lo12_s ∷ riscv.hi20 ∷ riscv.lo12_i ∷ riscv.lo12_s ∷ riscv.tprel_hi20 ∷ riscv.tprel_lo12_i ∷ riscv.tprel_lo12_s ∷ riscv.tprel_add ∷ []) kind

-- how many bytes a record of the kind takes at its place; none where the kind is not in the table
unfoldable pub width_of : ℕ → ℕ
width_of kind = if takes_eight kind then 8 else if takes_four kind then 4 else 0

-- the record is a low part, whose symbol is the place of its high part
unfoldable pub is_low_part : ℕ → Bool
is_low_part kind = one_of (riscv.pcrel_lo12_i ∷ riscv.pcrel_lo12_s ∷ []) kind

-- the record is a high part
unfoldable pub is_high_part : ℕ → Bool
is_high_part kind = one_of (riscv.got_hi20 ∷ riscv.pcrel_hi20 ∷ []) kind

-- its value is a distance from its place
abbrev pub is_distance : ℕ → Bool
is_distance kind = one_of (riscv.branch ∷ riscv.jal ∷ riscv.call ∷ riscv.call_plt ∷ riscv.pcrel_hi20 ∷ []) kind

-- ---- the records of a file

-- the record at a place of the file, on a section
abbrev pub raw_reloc : List ℕ → (target place : ℕ) → RawReloc
raw_reloc bytes target place =
    record {
      place = number_at 8 bytes place;
      kind = number_at 4 bytes (place + 8);
      symbol = number_at 4 bytes (place + 12);
      addend = cast_signed w64 (number_at 8 bytes (place + 16));
      target = target;
    }

-- the bytes of `.eh_frame` and of the zero byte that ends it
abbrev pub eh_frame : List ℕ
eh_frame = codes ".eh_frame" ++ 0 ∷ []

-- the name at a place of the string table is `.eh_frame`
unfoldable pub is_eh_frame : List ℕ → ℕ → Bool
is_eh_frame names place = starts_with nat_eq (drop place names) eh_frame

-- records on the section are taken: it has SHF_ALLOC and another name than `.eh_frame`; one that is not there counts too
abbrev pub is_target : List ℕ → Option Head → Bool
is_target names None = true
is_target names (Some h) = has h.flags 2 && not (is_eh_frame names h.name)

-- a table of records that are taken: of type SHT_RELA, on such a section
unfoldable pub is_taken : List ℕ → List Head → Head → Bool
is_taken names heads h = (h.kind == 4) && is_target names (slice_get heads h.info)

-- their headers, in order
unfoldable pub tables_of : List ℕ → List Head
tables_of b = filter (is_taken (section_names b) (heads_of b)) (heads_of b)

-- the records of one table, in their order
abbrev pub records_of : List ℕ → Head → List RawReloc
records_of b h = map (raw_reloc b h.info) (places 24 h.file_at (h.size / 24))

-- the records of several tables, in their order
abbrev pub records_in : List ℕ → List Head → List RawReloc
records_in b [] = []
records_in b (h ∷ hs) = records_of b h ++ records_in b hs

-- all records that are taken
unfoldable pub taken_of : List ℕ → List RawReloc
taken_of b = records_in b (tables_of b)

-- a record is not ignored
abbrev pub is_used : RawReloc → Bool
is_used r = not (is_ignored r.kind)

-- all that are taken and not ignored
unfoldable pub used_of : List ℕ → List RawReloc
used_of b = filter is_used (taken_of b)

-- ---- with their symbols

-- what stands for a symbol where there is none
abbrev pub no_symbol : Symbol
no_symbol = record { name = []; kind = 0; section = 0; value = 0; size = 0 }

-- the symbol with a number
abbrev pub symbol_by : List Symbol → ℕ → Symbol
symbol_by symbols number = get_or symbols number no_symbol

-- S: the symbol's value, 0 for the symbol number 0
abbrev pub base_of : List Symbol → RawReloc → ℕ
base_of symbols r = if r.symbol == 0 then 0 else (symbol_by symbols r.symbol).value

-- the section that it is on has SHF_EXECINSTR
unfoldable pub is_on_code : List Head → RawReloc → Bool
is_on_code heads r = has (get_or heads r.target no_head).flags 4

-- the record with its symbol's value
abbrev pub reloc : List Head → List Symbol → RawReloc → Reloc
reloc heads symbols r =
    record { place = r.place; kind = r.kind; base = base_of symbols r; addend = r.addend; code = is_on_code heads r }

-- the records that are used, in file order: by their tables' numbers, and in each as they stand
unfoldable pub relocs_of : List ℕ → List Reloc
relocs_of b = map (reloc (heads_of b) (symbols_of b)) (used_of b)

-- ---- records by their places

-- the record stands at a place
abbrev pub is_at : ℕ → Reloc → Bool
is_at place r = r.place == place

-- the first record at a place
abbrev pub record_at : List Reloc → ℕ → Option Reloc
record_at relocs place = find (is_at place) relocs

-- ---- values

-- S + A
abbrev pub sum_of : Reloc → ℤ
sum_of r = pos r.base +ℤ r.addend

-- S + A - P
abbrev pub distance_of : Reloc → ℤ
distance_of r = sum_of r -ℤ pos r.place

-- what stands for a record where there is none
abbrev pub no_reloc : Reloc
no_reloc = record { place = 0; kind = 0; base = 0; addend = pos 0; code = false }

-- the record is a high part at a place
abbrev pub is_high_at : ℕ → Reloc → Bool
is_high_at place r = is_high_part r.kind && (r.place == place)

-- the record that a low part names: the high part at the place that is its symbol's value
unfoldable pub partner_of : List Reloc → Reloc → Option Reloc
partner_of all r = find (is_high_at r.base) all

-- and what stands for it where there is none
abbrev pub partner_or_none : List Reloc → Reloc → Reloc
partner_or_none all r = unwrap_or (partner_of all r) no_reloc

-- the value of a record by its partner: S + A - P of the partner for a low part, its own for a distance, else S + A
unfoldable pub value_by : (partner r : Reloc) → ℤ
value_by partner r =
    if is_low_part r.kind then distance_of partner else if is_distance r.kind then distance_of r else sum_of r

-- the value of a record among all
abbrev pub value_of : List Reloc → Reloc → ℤ
value_of all r = value_by (partner_or_none all r) r

-- ---- fields

-- where the value of a record stands
unfoldable pub field_of : ℕ → Field
field_of kind =
    if kind == riscv.abs32 then field.Four
    else if kind == riscv.abs64 then field.Eight
    else if kind == riscv.branch then field.Branch
    else if kind == riscv.jal then field.Jump
    else if one_of (riscv.call ∷ riscv.call_plt ∷ []) kind then field.Pair
    else if one_of (riscv.pcrel_hi20 ∷ riscv.hi20 ∷ []) kind then field.High
    else if one_of (riscv.pcrel_lo12_i ∷ riscv.lo12_i ∷ []) kind then field.LowImmediate
    else if one_of (riscv.pcrel_lo12_s ∷ riscv.lo12_s ∷ []) kind then field.LowStore
    else field.Unchecked

-- a whole number modulo another, from 0 on
unfoldable pub modulo : ℕ → ℤ → ℕ
modulo m (pos n) = n % m
modulo m (negsuc n) = m - 1 - n % m

-- its lowest k bits in two's complement
abbrev pub bits_of : ℕ → ℤ → ℕ
bits_of k v = modulo (2 ^ k) v

-- hi20(v) = (v + 0x800) >> 12, by its 20 bits
unfoldable pub high_of : ℤ → ℕ
high_of v = bits_of 32 (v +ℤ pos 0x800) / 2 ^ 12

-- lo12(v) = v - (hi20(v) << 12), by its 12 bits
abbrev pub low_of : ℤ → ℕ
low_of v = bits_of 12 v

-- the bits of the field in the number of the four or eight bytes at the place: immediates as "Immediate Encoding Variants"
-- of the RISC-V Unprivileged ISA has them; of a pair the 20 bits of the first word over the 12 of the second
unfoldable pub found_in : Field → ℕ → ℕ
found_in field.Four n = n % 2 ^ 32
found_in field.Eight n = n % 2 ^ 64
found_in field.Branch n =
    2 * (n / 2 ^ 8 % 2 ^ 4) + 2 ^ 5 * (n / 2 ^ 25 % 2 ^ 6) + 2 ^ 11 * (n / 2 ^ 7 % 2) + 2 ^ 12 * (n / 2 ^ 31 % 2)
found_in field.Jump n =
    2 * (n / 2 ^ 21 % 2 ^ 10) + 2 ^ 11 * (n / 2 ^ 20 % 2) + 2 ^ 12 * (n / 2 ^ 12 % 2 ^ 8) + 2 ^ 20 * (n / 2 ^ 31 % 2)
found_in field.Pair n = 2 ^ 12 * (n / 2 ^ 12 % 2 ^ 20) + n / 2 ^ 52 % 2 ^ 12
found_in field.High n = n / 2 ^ 12 % 2 ^ 20
found_in field.LowImmediate n = n / 2 ^ 20 % 2 ^ 12
found_in field.LowStore n = n / 2 ^ 7 % 2 ^ 5 + 2 ^ 5 * (n / 2 ^ 25 % 2 ^ 7)
found_in field.Unchecked n = 0

-- the bits that the field of a value has
unfoldable pub expected_in : Field → ℤ → ℕ
expected_in field.Four v = bits_of 32 v
expected_in field.Eight v = bits_of 64 v
expected_in field.Branch v = bits_of 13 v
expected_in field.Jump v = bits_of 21 v
expected_in field.Pair v = 2 ^ 12 * high_of v + low_of v
expected_in field.High v = high_of v
expected_in field.LowImmediate v = low_of v
expected_in field.LowStore v = low_of v
expected_in field.Unchecked v = 0

-- ---- agreement

-- the field of a low part is not checked where its partner is a GOT_HI20
unfoldable pub field_by : (partner r : Reloc) → Field
field_by partner r = if is_low_part r.kind && (partner.kind == riscv.got_hi20) then field.Unchecked else field_of r.kind

-- what is told where the bits found are not those expected
abbrev pub differing : (found expected : ℕ) → Option Disagrees
differing found expected = if found == expected then None else Some (record { found = found; expected = expected })

-- how a record disagrees with the number of the bytes at its place, if it does
unfoldable pub disagreement_by : (partner r : Reloc) → ℕ → Option Disagrees
disagreement_by partner r bytes =
    differing (found_in (field_by partner r) bytes) (expected_in (field_by partner r) (value_by partner r))

-- how a record among all disagrees with them
abbrev pub disagreement : List Reloc → Reloc → ℕ → Option Disagrees
disagreement all r bytes = disagreement_by (partner_or_none all r) r bytes
