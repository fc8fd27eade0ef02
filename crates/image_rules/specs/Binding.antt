-- SPDX-License-Identifier: Apache-2.0
-- What stands for code in the words and the data of an image: the functions whose address is taken (rows), the places inside
-- functions that data names (labels), and the numbers that records put into words and data. The kinds of records and their
-- values are those of the RISC-V psABI ("Relocations"), the fields of words those of the RISC-V Unprivileged ISA
-- ("Immediate Encoding Variants"). What stands for an address of code is this project's own.
use Rattle.std.specs.Prelude.{ℕ, pos, suc, ◌+◌, ◌-◌, ◌*◌, ◌/◌, ◌%◌, ◌^◌, ◌==◌, ◌&&◌, ◌||◌, ◌-ℤ◌, not, Bool, Option, Some, None, List, [], ◌∷◌, ◌++◌, map, filter, slice_index, if◌then◌else◌}
use Rattle.std.specs.List.{list_any, position_from}
use Rattle.std.specs.Option.{option_map}
use Rattle.rv_table.specs.Decoding.{read, signed_bits}
use Rattle.rv_table.specs.declared.instructions.Op.TheVariants.{Auipc}
use Rattle.rv_table.specs.declared.rows.Form.TheVariants.{Upper}
use Rattle.rv_table.specs.Operands.{number_of_imm, plus_imm}
use Rattle.sh_types.specs.declared.code.Function.{Function}
use Rattle.sh_types.specs.declared.code.Pair.{Pair}
use Rattle.sh_types.specs.declared.relocs.Reloc.{Reloc}
use Rattle.sh_types.specs.Image.{starts_of}
use Rattle.sh_types.specs.Place.{pair}
use Rattle.elf_rules.specs.Elf.{places}
use Rattle.elf_rules.specs.RelocKinds as riscv
use Rattle.elf_rules.specs.Relocs.{distance_of, high_of, low_of}
use Rattle.sh_machines.specs.Class.{is_number, named_by, record_on, started_at, takes_address}
use Rattle.sh_machines.specs.Tokens.{label_token, token_of}

-- ---- records that take the address that they name

-- in data: R_RISCV_32 and R_RISCV_64
unfoldable pub is_data_pointer : Reloc → Bool
is_data_pointer r = not r.code && ((r.kind == riscv.abs32) || (r.kind == riscv.abs64))

-- in data or in code. Calls and jumps take none.
unfoldable pub is_pointer : Reloc → Bool
is_pointer r = is_data_pointer r || (r.code && takes_address r.kind)

-- the record is such a one, and this is the address that it names
abbrev pub is_pointer_to : (is_one : Reloc → Bool) → ℕ → Reloc → Bool
is_pointer_to is_one a r = is_one r && is_number (named_by r) a

-- ---- rows: the functions whose start a record takes as data, by rising number

abbrev pub rows_from : ℕ → List Function → List Reloc → List ℕ
rows_from j [] relocs = []
rows_from j (f ∷ fs) relocs =
    if list_any (is_pointer_to is_pointer f.home) relocs then j ∷ rows_from (suc j) fs relocs else rows_from (suc j) fs relocs

unfoldable pub rows_of : List Function → List Reloc → List ℕ
rows_of functions relocs = rows_from 0 functions relocs

-- ---- labels: the places of whole words inside functions, past the start, that a record in data names, by rising function
-- and then by rising offset

-- a record in data names the offset of a function
abbrev pub is_label : Function → List Reloc → ℕ → Bool
is_label f relocs o = list_any (is_pointer_to is_data_pointer (f.home + o)) relocs

-- the offsets 4, 8, .. below a size
abbrev pub inner_offsets : ℕ → List ℕ
inner_offsets size = places 4 4 ((size - 1) / 4)

abbrev pub labels_in : ℕ → Function → List Reloc → List Pair
labels_in j f relocs = map (pair j) (filter (is_label f relocs) (inner_offsets f.size))

abbrev pub labels_from : ℕ → List Function → List Reloc → List Pair
labels_from j [] relocs = []
labels_from j (f ∷ fs) relocs = labels_in j f relocs ++ labels_from (suc j) fs relocs

unfoldable pub labels_of : List Function → List Reloc → List Pair
labels_of functions relocs = labels_from 0 functions relocs

-- ---- what a record in data puts at its place: the token of the function that starts at the address that it names, or of
-- the label there

-- the address of a label
abbrev pub label_home : List Function → Pair → ℕ
label_home functions p = slice_index (starts_of functions) p.func + p.off

-- the number of the label at an address
abbrev pub label_at : List Function → List Pair → Option ℕ → Option ℕ
label_at functions labels None = None
label_at functions labels (Some a) = position_from (λ p. label_home functions p == a) 0 labels

abbrev pub token_or : Option ℕ → Option ℕ → Option ℕ
token_or (Some f) label = Some (token_of f)
token_or None label = option_map label_token label

unfoldable pub bound_data : List Function → List Pair → Reloc → Option ℕ
bound_data functions labels r = token_or (started_at functions (named_by r)) (label_at functions labels (named_by r))

-- ---- what a record makes of its word: where a function starts at the address that it names, the immediate is that of the
-- function's token

-- the word with these bits at 31 to 12; at 31 to 20; at 31 to 25 and 11 to 7
abbrev pub with_high : (word bits : ℕ) → ℕ
with_high word bits = word % 2 ^ 12 + 2 ^ 12 * bits

abbrev pub with_low : (word bits : ℕ) → ℕ
with_low word bits = word % 2 ^ 20 + 2 ^ 20 * bits

abbrev pub with_low_store : (word bits : ℕ) → ℕ
with_low_store word bits =
    word % 2 ^ 7 + 2 ^ 7 * (bits % 2 ^ 5) + 2 ^ 12 * (word / 2 ^ 12 % 2 ^ 13) + 2 ^ 25 * (bits / 2 ^ 5)

-- by the kind of the record
unfoldable pub with_number : (kind number word : ℕ) → ℕ
with_number kind number word =
    if kind == riscv.hi20 then with_high word (high_of (pos number))
    else if kind == riscv.lo12_i then with_low word (low_of (pos number))
    else if kind == riscv.lo12_s then with_low_store word (low_of (pos number))
    else word

abbrev pub bound_by : (kind : ℕ) → Option ℕ → (word : ℕ) → ℕ
bound_by kind None word = word
bound_by kind (Some f) word = with_number kind (token_of f) word

unfoldable pub bound_word : List Function → Reloc → (word : ℕ) → ℕ
bound_word functions r word = bound_by r.kind (started_at functions (named_by r)) word

-- ---- literals: what an AUIPC puts into its register

-- its address and its immediate
abbrev pub own_literal : (home word : ℕ) → ℕ
own_literal home word = plus_imm home (read Auipc Upper word).imm

-- a function's token less lo12 of the record's distance, which the low part adds
abbrev pub token_literal : ℕ → Reloc → ℕ
token_literal f r = number_of_imm (pos (token_of f) -ℤ signed_bits 11 (low_of (distance_of r)))

abbrev pub literal_to : Option ℕ → Reloc → (home word : ℕ) → ℕ
literal_to None r home word = own_literal home word
literal_to (Some f) r home word = token_literal f r

-- by the record on the word: a PCREL_HI20 to the start of a function gives the function's token less lo12, all else the
-- address plus the immediate
unfoldable pub literal_by : List Function → Option Reloc → (home word : ℕ) → ℕ
literal_by functions None home word = own_literal home word
literal_by functions (Some r) home word =
    literal_to (if r.kind == riscv.pcrel_hi20 then started_at functions (named_by r) else None) r home word

abbrev pub literal_of : List Function → List Reloc → (home word : ℕ) → ℕ
literal_of functions relocs home word = literal_by functions (record_on relocs home) home word
