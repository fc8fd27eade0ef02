-- SPDX-License-Identifier: Apache-2.0
-- Frames: what an instruction does to a frame's state, and tables of states that are closed under the words of their
-- functions. A state says how far sp is below its value on entry and where the return address is. (RISC-V psABI, "Integer Calling Convention"; the rules are this project's own.)
use Rattle.std.specs.Prelude.{◌≡◌, ◌≢◌, ℕ, ℤ, pos, ◌+◌, ◌%◌, ◌^◌, ◌<◌, ◌≤◌, ◌==◌, ◌&&◌, Bool, true, false, Option, Some, None, slice_get, length, if◌then◌else◌}
use Rattle.sh_types.specs.declared.code.FrameState.{FrameState}
use Rattle.sh_types.specs.declared.code.Image.{Image}
use Rattle.sh_types.specs.declared.code.Pair.{Pair}
use Rattle.sh_types.specs.declared.code.RaPlace.{RaPlace}
use Rattle.sh_types.specs.declared.code.RaPlace.TheVariants.{Reg, Slot, Dropped}
use Rattle.rv_table.specs.declared.instructions.Instr.{Instr}
use Rattle.rv_table.specs.declared.instructions.Op.{Op}
use Rattle.rv_table.specs.declared.instructions.Op.TheVariants.{Addi, Add}
use Rattle.sh_machines.specs.Constants.{constant_at}
use Rattle.sh_types.specs.Image.{sizes_of, row_at}
use Rattle.sh_machines.specs.Kind.{Kind, Sets, Computes, Passes, Loads, Stores, Atomics, Saves, Restores, CallsTo, JumpsTo, Branches, CallsThrough, JumpsThrough, GoesBack, Asks, Breaks, Illegal, Past, kind_at}
use Rattle.sh_types.specs.Limits.{most_depth}
use Rattle.rv_table.specs.Operands.{number_of_imm, plus_imm}
use Rattle.sh_types.specs.Place.{pair, IsPair}
use Rattle.sh_machines.specs.Tokens.{has_label}
use Rattle.sh_machines.specs.Unmoved.{next_of}

-- the state of a depth and a place of the return address
abbrev pub frame : ℕ → RaPlace → FrameState
frame d r = record { depth = d; ra = r }

-- what an instruction that writes a register does to the frame
pub data Move : Type 0 where
  -- sp gets sp and a number, modulo 2 ^ 64
  Shifts : (by : ℕ) → Move
  -- sp gets another number
  Loses : Move
  -- ra gets a number
  Drops : Move
  Keeps : Move

-- by the register that is written
abbrev pub move_of : ℕ → Move → Move
move_of rd shift = if rd == 2 then shift else if rd == 1 then Drops else Keeps

-- the mnemonic is ADDI
abbrev pub is_addi : Op → Bool
is_addi Addi = true
is_addi _ = false

-- the mnemonic is ADD
abbrev pub is_add : Op → Bool
is_add Add = true
is_add _ = false

-- by a number, where it is known
abbrev pub shift_by : Option ℕ → Move
shift_by None = Loses
shift_by (Some n) = Shifts n

-- `addi sp,sp,imm` moves sp, and `add` of sp and a register with a known number
unfoldable pub shift_of : (known : ℕ → Option ℕ) → Instr → Move
shift_of known i =
    if is_addi i.op && (i.rs1 == 2) then Shifts (number_of_imm i.imm)
    else if is_add i.op && (i.rs1 == 2) then shift_by (known i.rs2)
    else if is_add i.op && (i.rs2 == 2) then shift_by (known i.rs1)
    else Loses

-- not in a slot
abbrev pub IsLoose : RaPlace → Type 0
IsLoose Reg = Unit {0}
IsLoose (Slot below) = ⊥
IsLoose Dropped = Unit {0}

-- the slot lies in the frame
abbrev pub IsWithin : RaPlace → ℕ → Type 0
IsWithin Reg d = Unit {0}
IsWithin (Slot below) d = (8 ≤ below) × (below ≤ d)
IsWithin Dropped d = Unit {0}

-- a depth that a frame may have, and a slot within it
pub record IsState (row : FrameState) : Type 0 where
  pub depth : row.depth ≤ most_depth
  pub within : IsWithin row.ra row.depth

-- ra is lost: of a frame that had it there, by the entry function alone
abbrev pub dropped : RaPlace → RaPlace
dropped Reg = Dropped
dropped (Slot below) = Slot below
dropped Dropped = Dropped

-- ra may be lost
abbrev pub MayDrop : Image → Pair → RaPlace → Type 0
MayDrop image p Reg = p.func ≡ image.entry
MayDrop image p (Slot below) = Unit {0}
MayDrop image p Dropped = Unit {0}

-- the next offset has this state
abbrev pub Next : Image → Pair → ℕ → RaPlace → Type 0
Next image p d r = row_at image (next_of p) ≡ Some (frame d r)

-- sp is moved: to a frame of another depth, or, where there is none, to a new start in the entry function
pub data Shifted (image : Image) (p : Pair) (row : FrameState) (by : ℕ) : Type 0 where
  To : (d : ℕ) → (d + by) % 2 ^ 64 ≡ row.depth → Next image p d row.ra → Shifted image p row by
  Anew : ((d : ℕ) → d ≤ most_depth → (d + by) % 2 ^ 64 ≢ row.depth) → p.func ≡ image.entry → IsLoose row.ra → Next image p 0 row.ra → Shifted image p row by

-- the state behind a word that writes a register
abbrev pub AfterMove : Image → Pair → FrameState → Move → Type 0
AfterMove image p row (Shifts by) = Shifted image p row by
AfterMove image p row Loses = (p.func ≡ image.entry) × (IsLoose row.ra × Next image p 0 row.ra)
AfterMove image p row Drops = MayDrop image p row.ra × Next image p row.depth (dropped row.ra)
AfterMove image p row Keeps = Next image p row.depth row.ra

-- ra is saved: it was there, and the slot is c below the top
abbrev pub Saved : Image → Pair → FrameState → ℤ → Type 0
Saved image p row imm = (row.ra ≡ Reg) × ((c : ℕ) × (plus_imm c imm ≡ row.depth) × Next image p row.depth (Slot c))

-- ra is taken back from the slot, which is c below the top
abbrev pub Restored : Image → Pair → FrameState → ℤ → Type 0
Restored image p row imm = (c : ℕ) × (row.ra ≡ Slot c) × (plus_imm c imm ≡ row.depth) × Next image p row.depth Reg

-- the start of a function that is not the entry
pub record IsEntered (image : Image) (q : Pair) : Type 0 where
  pub start : q.off ≡ 0
  pub func : q.func < length (sizes_of image)
  pub other : q.func ≢ image.entry

-- behind a call the frame is as the call left it
pub record Resumed (image : Image) (p : Pair) (row : FrameState) : Type 0 where
  pub may : MayDrop image p row.ra
  pub next : Next image p row.depth (dropped row.ra)

-- a jump within the function keeps the state; one to another function has left its frame, and ra has the return address
pub data Jumped (image : Image) (p : Pair) (row : FrameState) (q : Pair) : Type 0 where
  Inside : q.func ≡ p.func → row_at image q ≡ Some row → Jumped image p row q
  Outside : row.ra ≡ Reg → row.depth ≡ 0 → IsEntered image q → Jumped image p row q

-- an indirect jump keeps the state at each label of the function; in a function without labels it has left its frame
abbrev pub Tailed : Image → Pair → FrameState → Bool → Type 0
Tailed image p row true = (j : ℕ) (q : Pair) → slice_get image.labels j ≡ Some q → q.func ≡ p.func → row_at image q ≡ Some row
Tailed image p row false = (row.ra ≡ Reg) × (row.depth ≡ 0)

-- the states that follow a state
abbrev pub Follows : Image → Pair → FrameState → Kind Pair → Type 0
Follows image p row (Sets rd v) = AfterMove image p row (move_of rd Loses)
Follows image p row (Computes i) = AfterMove image p row (move_of i.rd (shift_of (constant_at image p) i))
Follows image p row Passes = Next image p row.depth row.ra
Follows image p row (Loads i) = AfterMove image p row (move_of i.rd Loses)
Follows image p row (Stores i) = Next image p row.depth row.ra
Follows image p row (Atomics i) = AfterMove image p row (move_of i.rd Loses)
Follows image p row (Saves imm) = Saved image p row imm
Follows image p row (Restores imm) = Restored image p row imm
Follows image p row (CallsTo q) = IsEntered image q × Resumed image p row
Follows image p row (JumpsTo q) = Jumped image p row q
Follows image p row (Branches i q) = (q.func ≡ p.func) × (row_at image q ≡ Some row) × Next image p row.depth row.ra
Follows image p row (CallsThrough rs1 imm way) = Resumed image p row
Follows image p row (JumpsThrough rs1 imm way) = Tailed image p row (has_label image.labels p.func)
Follows image p row (GoesBack imm) = (row.ra ≡ Reg) × (row.depth ≡ 0) × (imm ≡ pos 0)
Follows image p row Asks = Next image p row.depth row.ra
Follows image p row Breaks = Unit {0}
Follows image p row Illegal = Unit {0}
Follows image p row Past = Unit {0}

-- the tables fit the words: each function starts with its whole stack and its return address in ra, and each state is
-- followed by the states of its word
pub record FramesFit (image : Image) : Type 0 where
  pub first : (f : ℕ) → f < length (sizes_of image) → row_at image (pair f 0) ≡ Some (frame 0 Reg)
  pub inside : (p : Pair) (row : FrameState) → row_at image p ≡ Some row → IsPair (sizes_of image) p
  pub states : (p : Pair) (row : FrameState) → row_at image p ≡ Some row → IsState row
  pub follows : (p : Pair) (row : FrameState) → row_at image p ≡ Some row → Follows image p row (kind_at image p)
