-- SPDX-License-Identifier: Apache-2.0
-- Where the rules on relocation records fail (System V gABI, "Relocation"): a test for each condition, over the tables of the
-- file that it speaks of. Sums are whole numbers. The conditions are this project's own.
use Rattle.std.specs.Prelude.{ℕ, ◌+◌, ◌%◌, ◌==◌, ◌&&◌, ◌||◌, nat_lt, nat_le, not, Bool, List, [], ◌∷◌, length, map, filter, get_or}
use Rattle.std.specs.List.{list_any, sum_by}
use Rattle.elf_rules.specs.declared.elf.Head.{Head}
use Rattle.elf_rules.specs.declared.elf.Segment.{Segment}
use Rattle.elf_rules.specs.declared.elf.Span.{Span}
use Rattle.sh_types.specs.declared.symbols.Symbol.{Symbol}
use Rattle.elf_rules.specs.declared.relocs.RawReloc.{RawReloc}
use Rattle.elf_rules.specs.Elf.{lies_in, heads_of, segments_of, is_code, no_head, symbols_of}
use Rattle.elf_rules.specs.RelocKinds as riscv
use Rattle.elf_rules.specs.Relocs.{one_of, width_of, is_low_part, is_high_part, tables_of, taken_of, used_of, symbol_by, base_of, is_on_code}
use Rattle.elf_rules.specs.Spans.{share, any_share, span, head_span}

-- ---- Total

-- how many bytes the tables that are taken have together at most
abbrev pub most_record_bytes : ℕ
most_record_bytes = 16777216

-- they have more
unfoldable pub bad_total : List ℕ → Bool
bad_total b = nat_lt most_record_bytes (sum_by (λ (h : Head). h.size) (tables_of b))

-- ---- Records, its conditions one by one

-- a table: entries of another size than 24, no whole number of them, bytes outside the file, or on no section
unfoldable pub bad_reloc_table : List ℕ → ℕ → Head → Bool
bad_reloc_table b count h =
    not (h.each == 24) || not (h.size % 24 == 0) || not (lies_in b h.file_at h.size) || nat_le count h.info

-- a record's symbol number is past the table
abbrev pub bad_symbol : ℕ → RawReloc → Bool
bad_symbol count r = nat_le count r.symbol

-- its place lies in its section
unfoldable pub is_placed : List Head → RawReloc → Bool
is_placed heads r =
    nat_le (get_or heads r.target no_head).start r.place
    && nat_lt r.place ((get_or heads r.target no_head).start + (get_or heads r.target no_head).size)

-- bytes from a place on lie in the part of a segment that the file has
unfoldable pub covers : (place width : ℕ) → Segment → Bool
covers place width g = nat_le g.start place && nat_le (place + width) (g.start + g.file_size)

-- the bytes that a record takes lie in the file's bytes of one segment; one that takes none asks for nothing
unfoldable pub is_backed : List Segment → RawReloc → Bool
is_backed segments r = (width_of r.kind == 0) || list_any (covers r.place (width_of r.kind)) segments

-- the place as a span of one byte
abbrev pub place_span : RawReloc → Span
place_span r = span r.place 1

-- the bytes that the record takes
abbrev pub taken_span : RawReloc → Span
taken_span r = span r.place (width_of r.kind)

-- it takes any
abbrev pub takes_bytes : RawReloc → Bool
takes_bytes r = nat_lt 0 (width_of r.kind)

-- the bytes of those that take any
unfoldable pub taken_spans : List RawReloc → List Span
taken_spans records = map taken_span (filter takes_bytes records)

-- two share a place, or a byte that both take
unfoldable pub clash : List RawReloc → Bool
clash records = any_share (map place_span records) || any_share (taken_spans records)

-- on code, at no multiple of 4
unfoldable pub is_crooked : List Head → RawReloc → Bool
is_crooked heads r = is_on_code heads r && not (r.place % 4 == 0)

-- the section that it is on has no SHF_EXECINSTR
abbrev pub is_on_data : List Head → RawReloc → Bool
is_on_data heads r = not (is_on_code heads r)

-- a span shares a byte with one of several
abbrev pub meets : List Span → Span → Bool
meets spans s = list_any (share s) spans

-- one on data takes a byte of an executable section
unfoldable pub takes_code : List Head → List RawReloc → Bool
takes_code heads records =
    list_any (meets (map head_span (filter is_code heads))) (taken_spans (filter (is_on_data heads) records))

-- a low part may name the record
abbrev pub is_high : RawReloc → Bool
is_high r = is_high_part r.kind

-- the places of those that low parts may name
unfoldable pub high_places : List RawReloc → List ℕ
high_places records = map (λ (r : RawReloc). r.place) (filter is_high records)

-- a low part that names none of these places
unfoldable pub is_alone : List ℕ → List Symbol → RawReloc → Bool
is_alone highs symbols r = is_low_part r.kind && not (list_any (λ p. p == base_of symbols r) highs)

-- a record that is taken breaks a condition on one by itself
unfoldable pub bad_taken : List Head → List Segment → List Symbol → List RawReloc → Bool
bad_taken heads segments symbols records =
    list_any (bad_symbol (length symbols)) records
    || list_any (λ r. not (is_placed heads r)) records
    || list_any (λ r. not (is_backed segments r)) records

-- records that are used break one of their conditions
unfoldable pub bad_used : List Head → List Symbol → List RawReloc → Bool
bad_used heads symbols records =
    clash records
    || list_any (is_crooked heads) records
    || takes_code heads records
    || list_any (is_alone (high_places records) symbols) records

-- a table or a record breaks one
unfoldable pub bad_records : List ℕ → Bool
bad_records b =
    list_any (bad_reloc_table b (length (heads_of b))) (tables_of b)
    || bad_taken (heads_of b) (segments_of b) (symbols_of b) (taken_of b)
    || bad_used (heads_of b) (symbols_of b) (used_of b)

-- ---- Undefined

-- the record's symbol has the section number SHN_UNDEF; the symbol number 0 is no symbol
unfoldable pub is_undefined : List Symbol → RawReloc → Bool
is_undefined symbols r = not (r.symbol == 0) && ((symbol_by symbols r.symbol).section == 0)

-- one that is used has
unfoldable pub bad_undefined : List ℕ → Bool
bad_undefined b = list_any (is_undefined (symbols_of b)) (used_of b)

-- ---- Kind

-- a record of the kind may stand on data
abbrev pub is_data_kind : ℕ → Bool
is_data_kind kind = one_of (riscv.none ∷ riscv.abs32 ∷ riscv.abs64 ∷ riscv.align ∷ riscv.relax ∷ []) kind

-- a record on data is of another kind
unfoldable pub is_foreign : List Head → RawReloc → Bool
is_foreign heads r = is_on_data heads r && not (is_data_kind r.kind)

-- one that is taken is
unfoldable pub bad_kinds : List ℕ → Bool
bad_kinds b = list_any (is_foreign (heads_of b)) (taken_of b)
