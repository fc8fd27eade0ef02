-- SPDX-License-Identifier: Apache-2.0
-- What the word at a pair does: its class, and by its frame's state whether it is a save or a restore. Both machines
-- go by kinds; a target is a pair on the unmoved image and an address in a copy. (RISC-V Unprivileged ISA, chapters
-- "RV32I Base Integer Instruction Set" and "RV64I Base Integer Instruction Set".)
use Rattle.std.specs.Prelude.{ℕ, ℤ, ◌/◌, ◌==◌, ◌&&◌, Bool, true, false, Option, Some, None, List, slice_index, if◌then◌else◌}
use Rattle.sh_types.specs.declared.code.Pair.{Pair}
use Rattle.sh_types.specs.declared.code.Site.{Site}
use Rattle.sh_types.specs.declared.code.Site.TheVariants.{Plain, Literal, InnerJump, InnerBranch, DirectCall, DirectTail, IndirectCall, IndirectTail, ReturnLike, Environment, Stop}
use Rattle.sh_types.specs.declared.code.Site.TheVariants as site
use Rattle.sh_types.specs.declared.code.FrameState.{FrameState}
use Rattle.sh_types.specs.declared.code.Image.{Image}
use Rattle.rv_table.specs.declared.instructions.Instr.{Instr}
use Rattle.rv_table.specs.declared.instructions.Op.{Op}
use Rattle.rv_table.specs.declared.instructions.XInstr.{XInstr}
use Rattle.rv_table.specs.declared.instructions.XInstr.TheVariants.{Lit, Sra, Lra, Tjalr}
use Rattle.sh_types.specs.declared.layouts.Layout.{Layout}
use Rattle.rv_table.specs.Arithmetic.{is_arithmetic}
use Rattle.sh_machines.specs.Copy.{saves, restores, literal_number}
use Rattle.rv_table.specs.Decoding.{decoded}
use Rattle.rv_table.specs.MachineForm.{decoded_x}
use Rattle.sh_types.specs.Image.{sizes_of, word_at, site_at, row_at}
use Rattle.rv_table.specs.Instruction.{row_of}
use Rattle.rv_table.specs.Operands.{number_of_imm, plus_imm}
use Rattle.sh_types.specs.Place.{pair, place_of, whose_of, pair_or_first}
use Rattle.sh_machines.specs.Tokens.{call_way, tail_way}

-- what a word does; a target is of type T
pub data Kind (T : Type 0) : Type 0 where
  -- rd gets a number that no register has a part in
  Sets : (rd value : ℕ) → Kind T
  -- rd gets what the arithmetic makes of the operands
  Computes : (i : Instr) → Kind T
  -- nothing is done
  Passes : Kind T
  Loads : (i : Instr) → Kind T
  Stores : (i : Instr) → Kind T
  -- load-reserved, store-conditional, atomic memory operation
  Atomics : (i : Instr) → Kind T
  -- ra is saved on the stack, or taken back
  Saves : (imm : ℤ) → Kind T
  Restores : (imm : ℤ) → Kind T
  -- to a target, with the return address in ra, or without
  CallsTo : (target : T) → Kind T
  JumpsTo : (target : T) → Kind T
  Branches : (i : Instr) → (target : T) → Kind T
  -- the same to where the way leads from the number in a register and an immediate, if anywhere
  CallsThrough : (rs1 : ℕ) → (imm : ℤ) → (way : ℕ → Option T) → Kind T
  JumpsThrough : (rs1 : ℕ) → (imm : ℤ) → (way : ℕ → Option T) → Kind T
  -- a return
  GoesBack : (imm : ℤ) → Kind T
  -- the environment call and the breakpoint
  Asks : Kind T
  Breaks : Kind T
  Illegal : Kind T
  -- behind the last instruction of a function
  Past : Kind T

-- the opcode of a mnemonic
abbrev pub opcode_of : Op → ℕ
opcode_of op = (row_of op).opcode

-- ECALL or EBREAK, by the number above the opcode
abbrev pub is_system : Instr → ℕ → Bool
is_system i above = (opcode_of i.op == 0x73) && ((row_of i.op).above == above)

-- the kinds that name no target in the code
unfoldable pub plain_kind : {T : Type 0} → Instr → Kind T
plain_kind i =
    if opcode_of i.op == 0x37 then Sets i.rd (number_of_imm i.imm)
    else if is_arithmetic i.op then Computes i
    else if opcode_of i.op == 0x03 then Loads i
    else if opcode_of i.op == 0x23 then Stores i
    else if opcode_of i.op == 0x2f then Atomics i
    else if opcode_of i.op == 0x0f then Passes
    else Illegal

-- ---- on the unmoved image

-- the word is a save or a restore by the frame's state; where no path comes it is neither
abbrev pub framed_kind : {T : Type 0} → Option FrameState → Instr → Kind T
framed_kind None i = plain_kind i
framed_kind (Some s) i = if saves s i then Saves i.imm else if restores s i then Restores i.imm else plain_kind i

-- the number that an AUIPC puts into its register
abbrev pub literal_of : Image → Pair → ℕ
literal_of image p = slice_index image.literals (literal_number image p.func (p.off / 4))

-- a breakpoint; else no instruction
abbrev pub stop_kind : {T : Type 0} → Instr → Kind T
stop_kind i = if is_system i 1 then Breaks else Illegal

-- by the class
abbrev pub site_kind : Image → Pair → Site → Instr → Kind Pair
site_kind image p Plain i = framed_kind (row_at image p) i
site_kind image p Literal i = Sets i.rd (literal_of image p)
site_kind image p (InnerJump to) i = JumpsTo (pair p.func to)
site_kind image p (InnerBranch to) i = Branches i (pair p.func to)
site_kind image p (DirectCall g) i = CallsTo (pair g 0)
site_kind image p (DirectTail g) i = JumpsTo (pair g 0)
site_kind image p IndirectCall i = CallsThrough i.rs1 i.imm (call_way image.rows)
site_kind image p IndirectTail i = JumpsThrough i.rs1 i.imm (tail_way image.rows image.labels p.func)
site_kind image p ReturnLike i = GoesBack i.imm
site_kind image p Environment i = Asks
site_kind image p Stop i = stop_kind i
site_kind image p (site.Bad rule) i = Illegal

-- a word without an instruction is illegal, whatever its class
abbrev pub word_kind : Image → Pair → Site → Option Instr → Kind Pair
word_kind image p s None = Illegal
word_kind image p s (Some i) = site_kind image p s i

-- the kind of the word at a pair
unfoldable pub kind_at : Image → Pair → Kind Pair
kind_at image p =
    if p.off == slice_index (sizes_of image) p.func then Past
    else word_kind image p (site_at image p) (decoded (word_at image p))

-- ---- in a copy

-- a jump with rd 1 is a call; with rd 0 it leaves ra
abbrev pub jump_kind : Instr → ℕ → Kind ℕ
jump_kind i target = if i.rd == 1 then CallsTo target else if i.rd == 0 then JumpsTo target else Illegal

-- the word of an instruction at an address
unfoldable pub kind_of_instr : ℕ → Instr → Kind ℕ
kind_of_instr pc i =
    if opcode_of i.op == 0x6f then jump_kind i (plus_imm pc i.imm)
    else if opcode_of i.op == 0x63 then Branches i (plus_imm pc i.imm)
    else if opcode_of i.op == 0x67 then (if (i.rd == 0) && (i.rs1 == 1) then GoesBack i.imm else Illegal)
    else if is_system i 0 then Asks
    else if is_system i 1 then Breaks
    else plain_kind i

-- the tables by which a copy's own forms go
pub record Tables : Type 0 where
  pub literals : List ℕ
  pub rows : List ℕ
  pub labels : List Pair

-- the tables of an image
abbrev pub tables_of : Image → Tables
tables_of image = record { literals = image.literals; rows = image.rows; labels = image.labels }

-- the address of the pair, where there is one
abbrev pub moved_way : Layout → Option Pair → Option ℕ
moved_way l None = None
moved_way l (Some p) = Some (place_of l p)

-- the number of the function at an address
abbrev pub func_at : Layout → ℕ → ℕ
func_at l pc = (pair_or_first (whose_of l pc)).func

-- a call where rd is ra, a jump where rd is x0
abbrev pub through_kind : Tables → Layout → ℕ → (rd rs1 : ℕ) → ℤ → Kind ℕ
through_kind tables l pc rd rs1 imm =
    if rd == 1 then CallsThrough rs1 imm (λ v. moved_way l (call_way tables.rows v))
    else if rd == 0 then JumpsThrough rs1 imm (λ v. moved_way l (tail_way tables.rows tables.labels (func_at l pc) v))
    else Illegal

-- the word of a form that only copies have
abbrev pub kind_of_form : Tables → Layout → ℕ → XInstr → Kind ℕ
kind_of_form tables l pc (Lit rd number) = Sets rd (slice_index tables.literals number)
kind_of_form tables l pc (Sra imm) = Saves imm
kind_of_form tables l pc (Lra imm) = Restores imm
kind_of_form tables l pc (Tjalr rd rs1 imm) = through_kind tables l pc rd rs1 imm

-- one of the four forms, or an instruction, or neither
abbrev pub kind_by : Tables → Layout → ℕ → Option XInstr → Option Instr → Kind ℕ
kind_by tables l pc (Some x) i = kind_of_form tables l pc x
kind_by tables l pc None (Some i) = kind_of_instr pc i
kind_by tables l pc None None = Illegal

-- the kind of a copy's word at an address that is no guard
unfoldable pub copied_kind : Tables → Layout → ℕ → ℕ → Kind ℕ
copied_kind tables l pc word = kind_by tables l pc (decoded_x word) (decoded word)

-- a kind with the addresses that its targets have in a layout
abbrev pub moved_kind : Layout → Kind Pair → Kind ℕ
moved_kind l (Sets rd v) = Sets rd v
moved_kind l (Computes i) = Computes i
moved_kind l Passes = Passes
moved_kind l (Loads i) = Loads i
moved_kind l (Stores i) = Stores i
moved_kind l (Atomics i) = Atomics i
moved_kind l (Saves imm) = Saves imm
moved_kind l (Restores imm) = Restores imm
moved_kind l (CallsTo p) = CallsTo (place_of l p)
moved_kind l (JumpsTo p) = JumpsTo (place_of l p)
moved_kind l (Branches i p) = Branches i (place_of l p)
moved_kind l (CallsThrough rs1 imm way) = CallsThrough rs1 imm (λ v. moved_way l (way v))
moved_kind l (JumpsThrough rs1 imm way) = JumpsThrough rs1 imm (λ v. moved_way l (way v))
moved_kind l (GoesBack imm) = GoesBack imm
moved_kind l Asks = Asks
moved_kind l Breaks = Breaks
moved_kind l Illegal = Illegal
moved_kind l Past = Past

-- ---- calls

-- a return address is put into ra
abbrev pub is_call_kind : Kind Pair → Bool
is_call_kind (Sets rd v) = false
is_call_kind (Computes i) = false
is_call_kind Passes = false
is_call_kind (Loads i) = false
is_call_kind (Stores i) = false
is_call_kind (Atomics i) = false
is_call_kind (Saves imm) = false
is_call_kind (Restores imm) = false
is_call_kind (CallsTo p) = true
is_call_kind (JumpsTo p) = false
is_call_kind (Branches i p) = false
is_call_kind (CallsThrough rs1 imm way) = true
is_call_kind (JumpsThrough rs1 imm way) = false
is_call_kind (GoesBack imm) = false
is_call_kind Asks = false
is_call_kind Breaks = false
is_call_kind Illegal = false
is_call_kind Past = false
