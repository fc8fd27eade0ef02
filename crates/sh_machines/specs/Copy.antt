-- SPDX-License-Identifier: Apache-2.0
-- The copy of a layout: the words of the image where the layout puts them, with direct calls and jumps retargeted and
-- with the forms that only copies have. This project's own.
use Rattle.std.specs.Prelude.{ℕ, ℤ, pos, zero, suc, ◌+◌, ◌*◌, ◌/◌, ◌%◌, ◌^◌, ◌≤◌, ◌≡◌, ◌==◌, ◌&&◌, ◌-ℤ◌, nat_lt, Bool, true, false, Option, Some, None, List, map, slice_index, if◌then◌else◌, length}
use Rattle.std.specs.Int.{cast_unsigned}
use Rattle.std.specs.List.{range_with_len, list_all}
use mir.Syntax.{w64}
use Rattle.sh_types.specs.declared.code.Pair.{Pair}
use Rattle.sh_types.specs.declared.code.Site.{Site}
use Rattle.sh_types.specs.declared.code.Site.TheVariants.{Plain, Literal, InnerJump, InnerBranch, DirectCall, DirectTail, IndirectCall, IndirectTail, ReturnLike, Environment, Stop, Bad}
use Rattle.sh_types.specs.declared.code.RaPlace.{RaPlace}
use Rattle.sh_types.specs.declared.code.RaPlace.TheVariants.{Reg, Slot, Dropped}
use Rattle.sh_types.specs.declared.code.FrameState.{FrameState}
use Rattle.sh_types.specs.declared.code.Image.{Image}
use Rattle.rv_table.specs.declared.instructions.Instr.{Instr}
use Rattle.rv_table.specs.declared.instructions.Op.{Op}
use Rattle.rv_table.specs.declared.instructions.Op.TheVariants.{Jal, Jalr, Ld, Sd}
use Rattle.rv_table.specs.declared.instructions.XInstr.TheVariants.{Lit, Sra, Lra, Tjalr}
use Rattle.sh_types.specs.declared.layouts.Layout.{Layout}
use Rattle.sh_types.specs.declared.layouts.CodeCopy.{CodeCopy}
use Rattle.rv_table.specs.Decoding.{decoded, made}
use Rattle.sh_types.specs.Image.{sizes_of, word_at, site_at, row_at}
use Rattle.rv_table.specs.Instruction.{word_of}
use Rattle.sh_types.specs.Limits.{words_in_cell, most_code}
use Rattle.rv_table.specs.MachineForm.{x_word_of}
use Rattle.sh_types.specs.Place.{pair, place_of, whose_of, cell_start}

-- ---- saves and restores (RISC-V psABI, "Integer Calling Convention": ra is x1 and sp is x2)

-- the mnemonic is LD
abbrev pub is_ld : Op → Bool
is_ld Ld = true
is_ld _ = false

-- the mnemonic is SD
abbrev pub is_sd : Op → Bool
is_sd Sd = true
is_sd _ = false

-- the return address is in ra
abbrev pub is_reg : RaPlace → Bool
is_reg Reg = true
is_reg (Slot below) = false
is_reg Dropped = false

-- the word k above sp is the frame's slot
abbrev pub is_slot_at : ℤ → ℕ → RaPlace → Bool
is_slot_at k depth Reg = false
is_slot_at k depth (Slot below) = (below + cast_unsigned w64 k) % 2 ^ 64 == depth
is_slot_at k depth Dropped = false

-- `sd ra,k(sp)` where the return address is in ra
unfoldable pub saves : FrameState → Instr → Bool
saves s i = is_sd i.op && (i.rs1 == 2) && (i.rs2 == 1) && is_reg s.ra

-- `ld ra,k(sp)` of the word where the return address was saved
unfoldable pub restores : FrameState → Instr → Bool
restores s i = is_ld i.op && (i.rs1 == 2) && (i.rd == 1) && is_slot_at i.imm s.depth s.ra

-- ---- the rows of the literals: the reached AUIPC words, in the order of the functions and in each by offset

-- a reached AUIPC
abbrev pub is_literal : Site → Option FrameState → Bool
is_literal Literal (Some s) = true
is_literal _ _ = false

-- word i of a function is a reached AUIPC
abbrev pub literal_at : Image → ℕ → ℕ → Bool
literal_at image f i = is_literal (site_at image (pair f (4 * i))) (row_at image (pair f (4 * i)))

-- how many of the first words of a function are literals
unfoldable pub literals_in : Image → ℕ → ℕ → ℕ
literals_in image f zero = 0
literals_in image f (suc i) = literals_in image f i + (if literal_at image f i then 1 else 0)

-- and how many of the words of the first functions
unfoldable pub literals_below : Image → ℕ → ℕ
literals_below image zero = 0
literals_below image (suc f) = literals_below image f + literals_in image f (slice_index (sizes_of image) f / 4)

-- the number of the literal at a word of a function
abbrev pub literal_number : Image → ℕ → ℕ → ℕ
literal_number image f i = literals_below image f + literals_in image f i

-- ---- the words

-- a JAL from one address to another
abbrev pub jal_word : ℕ → ℕ → ℕ → ℕ
jal_word rd from to = word_of (made Jal rd 0 0 (pos to -ℤ pos from))

-- a save or a restore by the frame's state, else the word itself
abbrev pub plain_word : FrameState → ℕ → Instr → ℕ
plain_word s w i = if saves s i then x_word_of (Sra i.imm) else if restores s i then x_word_of (Lra i.imm) else w

-- the word of the copy, by the class of the word
abbrev pub class_word : Layout → Pair → ℕ → FrameState → ℕ → Instr → Site → ℕ
class_word l p n s w i Literal = x_word_of (Lit i.rd n)
class_word l p n s w i (DirectCall g) = jal_word i.rd (place_of l p) (place_of l (pair g 0))
class_word l p n s w i (DirectTail g) = jal_word i.rd (place_of l p) (place_of l (pair g 0))
class_word l p n s w i IndirectCall = x_word_of (Tjalr i.rd i.rs1 i.imm)
class_word l p n s w i IndirectTail = x_word_of (Tjalr i.rd i.rs1 i.imm)
class_word l p n s w i Plain = plain_word s w i
class_word l p n s w i (InnerJump to) = w
class_word l p n s w i (InnerBranch to) = w
class_word l p n s w i ReturnLike = w
class_word l p n s w i Environment = w
class_word l p n s w i Stop = w
class_word l p n s w i (Bad rule) = w

-- an illegal word becomes 0
abbrev pub legal_word : Layout → Pair → ℕ → FrameState → ℕ → Option Instr → Site → ℕ
legal_word l p n s w None site = 0
legal_word l p n s w (Some i) site = class_word l p n s w i site

-- a word that no path reaches becomes 0
abbrev pub reached_word : Layout → Pair → ℕ → Option FrameState → ℕ → Site → ℕ
reached_word l p n None w site = 0
reached_word l p n (Some s) w site = legal_word l p n s w (decoded w) site

-- the word of the copy at a pair that is no guard
unfoldable pub moved_word : Image → Layout → Pair → ℕ
moved_word image l p = reached_word l p (literal_number image p.func (p.off / 4)) (row_at image p) (word_at image p) (site_at image p)

-- the guard and all that is no pair's place are 0
abbrev pub word_for : Image → Layout → Option Pair → ℕ
word_for image l None = 0
word_for image l (Some p) = if p.off == slice_index l.sizes p.func then 0 else moved_word image l p

-- the word at an address
unfoldable pub copied : Image → Layout → ℕ → ℕ
copied image l a = word_for image l (whose_of l a)

-- the words of the cell
unfoldable pub cell_words : Image → Layout → List ℕ
cell_words image l = map (λ k. copied image l (cell_start l.cell + 4 * k)) (range_with_len 0 words_in_cell)

-- the copy of a layout
abbrev pub copy_of : Image → Layout → CodeCopy
copy_of image l = record { number = l.number; start = cell_start l.cell; words = cell_words image l }

-- a copy that was erased: every word is 0
abbrev pub zeroed : CodeCopy → CodeCopy
zeroed c = record { number = c.number; start = c.start; words = map (λ w. 0) c.words }

-- the copy of a layout, erased
unfoldable pub wiped_copy : Image → Layout → CodeCopy
wiped_copy image l = zeroed (copy_of image l)

-- ---- what copying needs of an image

-- where the class is that of a direct call or jump, it leads to one of n functions
abbrev pub goes_to : ℕ → Site → Bool
goes_to n (DirectCall g) = nat_lt g n
goes_to n (DirectTail g) = nat_lt g n
goes_to n _ = true

-- the class is that of an indirect call or jump
abbrev pub is_through : Site → Bool
is_through IndirectCall = true
is_through IndirectTail = true
is_through _ = false

-- direct calls and jumps lead to functions, the literals are few enough for their numbers to be written, and each
-- indirect call or jump is a JALR
pub record IsCopyable (image : Image) : Type 0 where
  pub goes : list_all (λ sites. list_all (goes_to (length image.functions)) sites) image.sites ≡ true
  pub literals : literals_below image (length image.functions) ≤ most_code / 4
  pub through : (p : Pair) (i : Instr) → is_through (site_at image p) ≡ true → decoded (word_at image p) ≡ Some i → i.op ≡ Jalr
