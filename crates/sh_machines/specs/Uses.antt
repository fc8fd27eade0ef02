-- SPDX-License-Identifier: Apache-2.0
-- Use of a return address as data, from the unmoved state alone. Which registers an instruction reads, and how many
-- bytes it touches, is said by its row of the manual's table (RISC-V Unprivileged ISA, "Base Instruction Formats" and
-- "RV32/64G Instruction Set Listings"); the rest is this project's own.
use Rattle.std.specs.Prelude.{ℕ, zero, suc, ◌/◌, ◌%◌, ◌^◌, ◌==◌, ◌&&◌, ◌||◌, Bool, true, false, Option, Some, None, List, slice_get, slice_index, if◌then◌else◌}
use Rattle.sh_types.specs.declared.code.Image.{Image}
use Rattle.sh_types.specs.declared.code.Pair.{Pair}
use Rattle.sh_types.specs.declared.code.Region.{Region}
use Rattle.rv_table.specs.declared.instructions.Instr.{Instr}
use Rattle.rv_table.specs.declared.instructions.Op.{Op}
use Rattle.rv_table.specs.Instruction.{row_of}
use Rattle.rv_table.specs.declared.rows.Form.{Form}
use Rattle.rv_table.specs.declared.rows.Form.TheVariants.{Upper, Jump, Branch, Immediate, Storing, Register, Shift6, Shift5, Atomic, Reserving, Fencing, Whole}
use Rattle.sh_machines.specs.Kind.{Kind, Sets, Computes, Passes, Loads, Stores, Atomics, Saves, Restores, CallsTo, JumpsTo, Branches, CallsThrough, JumpsThrough, GoesBack, Asks, Breaks, Illegal, Past, kind_at}
use Rattle.sh_machines.specs.Memory.{readable, writable}
use Rattle.rv_table.specs.Operands.{plus_imm}
use Rattle.sh_machines.specs.Unmoved.{Thread, Content, Number, Return, is_return, Unmoved, can_go}

-- the forms whose field rs1 is an operand; that of FENCE is reserved ("Memory Ordering Instructions")
abbrev pub reads_rs1 : Form → Bool
reads_rs1 Upper = false
reads_rs1 Jump = false
reads_rs1 Branch = true
reads_rs1 Immediate = true
reads_rs1 Storing = true
reads_rs1 Register = true
reads_rs1 Shift6 = true
reads_rs1 Shift5 = true
reads_rs1 Atomic = true
reads_rs1 Reserving = true
reads_rs1 Fencing = false
reads_rs1 Whole = false

-- the forms whose field rs2 is an operand; an LR has none ("Load-Reserved/Store-Conditional Instructions")
abbrev pub reads_rs2 : Form → Bool
reads_rs2 Upper = false
reads_rs2 Jump = false
reads_rs2 Branch = true
reads_rs2 Immediate = false
reads_rs2 Storing = true
reads_rs2 Register = true
reads_rs2 Shift6 = false
reads_rs2 Shift5 = false
reads_rs2 Atomic = true
reads_rs2 Reserving = false
reads_rs2 Fencing = false
reads_rs2 Whole = false

-- the form of load-reserved
abbrev pub is_reserving : Form → Bool
is_reserving Upper = false
is_reserving Jump = false
is_reserving Branch = false
is_reserving Immediate = false
is_reserving Storing = false
is_reserving Register = false
is_reserving Shift6 = false
is_reserving Shift5 = false
is_reserving Atomic = false
is_reserving Reserving = true
is_reserving Fencing = false
is_reserving Whole = false

-- the instruction has the register as an operand
abbrev pub has_operand : ℕ → Instr → Bool
has_operand r i = (reads_rs1 (row_of i.op).form && (i.rs1 == r)) || (reads_rs2 (row_of i.op).form && (i.rs2 == r))

-- how many bytes a load, a store or an atomic touches: the low two bits of funct3 are the logarithm of their number
unfoldable pub bytes_of : Op → ℕ
bytes_of op = 2 ^ ((row_of op).funct3 % 4)

-- an instruction reads ra, other than a save or a return
abbrev pub reads_of : Kind Pair → Bool
reads_of (Sets rd v) = false
reads_of (Computes i) = has_operand 1 i
reads_of Passes = false
reads_of (Loads i) = has_operand 1 i
reads_of (Stores i) = has_operand 1 i
reads_of (Atomics i) = has_operand 1 i
reads_of (Saves imm) = false
reads_of (Restores imm) = false
reads_of (CallsTo p) = false
reads_of (JumpsTo p) = false
reads_of (Branches i p) = has_operand 1 i
reads_of (CallsThrough rs1 imm way) = rs1 == 1
reads_of (JumpsThrough rs1 imm way) = rs1 == 1
reads_of (GoesBack imm) = false
reads_of Asks = false
reads_of Breaks = false
reads_of Illegal = false
reads_of Past = false

-- it is a return word
abbrev pub is_word_of_return : Content → Bool
is_word_of_return (Number v) = false
is_word_of_return (Return k r) = true

-- one of n bytes from an address on is a return word's
unfoldable pub meets_return : (ℕ → Content) → ℕ → ℕ → Bool
meets_return u a zero = false
meets_return u a (suc n) = is_word_of_return (u (a / 8)) || meets_return u (suc a) n

-- the bytes are aligned and mapped, and one of them is a return word's
abbrev pub touches_return : (ℕ → Content) → (ℕ → ℕ → Bool) → (width address : ℕ) → Bool
touches_return u mapped n a = (a % n == 0) && (mapped a n && meets_return u a n)

-- an environment call reads into, or writes out, a byte of a return word
abbrev pub passes_return : List Region → Thread → (ℕ → Content) → Bool
passes_return regions t u =
    if slice_index t.regs 17 == 63 then (slice_index t.regs 10 == 0) && (writable regions (slice_index t.regs 11) (slice_index t.regs 12) && meets_return u (slice_index t.regs 11) (slice_index t.regs 12))
    else if slice_index t.regs 17 == 64 then ((slice_index t.regs 10 == 1) || (slice_index t.regs 10 == 2)) && (readable regions (slice_index t.regs 11) (slice_index t.regs 12) && meets_return u (slice_index t.regs 11) (slice_index t.regs 12))
    else false

-- an instruction touches a byte of a return word, other than a restore
abbrev pub touches_of : List Region → Thread → (ℕ → Content) → Kind Pair → Bool
touches_of regions t u (Sets rd v) = false
touches_of regions t u (Computes i) = false
touches_of regions t u Passes = false
touches_of regions t u (Loads i) = touches_return u (readable regions) (bytes_of i.op) (plus_imm (slice_index t.regs i.rs1) i.imm)
touches_of regions t u (Stores i) = touches_return u (writable regions) (bytes_of i.op) (plus_imm (slice_index t.regs i.rs1) i.imm)
touches_of regions t u (Atomics i) = touches_return u (if is_reserving (row_of i.op).form then readable regions else writable regions) (bytes_of i.op) (slice_index t.regs i.rs1)
touches_of regions t u (Saves imm) = touches_return u (writable regions) 8 (plus_imm (slice_index t.regs 2) imm)
touches_of regions t u (Restores imm) = false
touches_of regions t u (CallsTo p) = false
touches_of regions t u (JumpsTo p) = false
touches_of regions t u (Branches i p) = false
touches_of regions t u (CallsThrough rs1 imm way) = false
touches_of regions t u (JumpsThrough rs1 imm way) = false
touches_of regions t u (GoesBack imm) = false
touches_of regions t u Asks = passes_return regions t u
touches_of regions t u Breaks = false
touches_of regions t u Illegal = false
touches_of regions t u Past = false

-- by what stands at the pair of the thread
abbrev pub uses_by : List Region → Thread → (ℕ → Content) → Kind Pair → Bool
uses_by regions t u k = (is_return t.ra && reads_of k) || touches_of regions t u k

-- the next instruction of the thread does, where there is one
abbrev pub uses_in : Image → (ℕ → Content) → Option Thread → Bool
uses_in i u None = false
uses_in i u (Some t) = uses_by i.regions t u (kind_at i t.at)

-- The hart's next instruction reads ra while it holds a return address, other than by a save or a return, or it touches a
-- byte of a return word, other than by a restore.
unfoldable pub uses_return : Image → ℕ → Unmoved → Bool
uses_return i n u = can_go u n && uses_in i u.contents (slice_get u.threads n)
