-- SPDX-License-Identifier: Apache-2.0
-- The four instructions that stand in copies only, as words of 32 bits. They have the two opcodes that the RISC-V
-- Unprivileged ISA, "RV32/64G Instruction Set Listings", leaves to custom extensions: custom-0 (0x0b) and
-- custom-1 (0x2b). Their fields lie as those of the manual's formats U, S and I.
use Rattle.std.specs.Prelude.{◌≡◌, ℕ, ◌+◌, ◌*◌, ◌/◌, ◌%◌, ◌^◌, ◌<◌, ◌==◌, ◌&&◌, Bool, Option, Some, None, if◌then◌else◌}
use Rattle.rv_table.specs.Instruction.{row, fields, FieldsFit}
use Rattle.rv_table.specs.declared.rows.Form.TheVariants.{Immediate, Storing}
use Rattle.rv_table.specs.Decoding.{signed_bits, rd_in, rs1_in, rs2_in}
use Rattle.rv_table.specs.declared.instructions.XInstr.{XInstr}
use Rattle.rv_table.specs.declared.instructions.XInstr.TheVariants.{Lit, Sra, Lra, Tjalr}

-- The word of each: `lit rd, number` has the number in its upper 20 bits, as LUI has; `sra imm` is `sd ra,imm(sp)`,
-- `lra imm` is `ld ra,imm(sp)` and `tjalr rd,imm(rs1)` is a JALR, under custom-1 with funct3 0, 1 and 2.
abbrev pub x_word_of : XInstr → ℕ
x_word_of (Lit rd number) = 0x0b + 2 ^ 7 * rd + 2 ^ 12 * number
x_word_of (Sra imm) = fields (row Storing 0x2b 0 0) 0 2 1 imm Storing
x_word_of (Lra imm) = fields (row Immediate 0x2b 1 0) 1 2 0 imm Immediate
x_word_of (Tjalr rd rs1 imm) = fields (row Immediate 0x2b 2 0) rd rs1 0 imm Immediate

-- what the fields can hold: a register number below 32, 20 bits of a number, a signed immediate of 12 bits
abbrev pub IsXInstr : XInstr → Type 0
IsXInstr (Lit rd number) = (rd < 32) × (number < 2 ^ 20)
IsXInstr (Sra imm) = FieldsFit 0 2 1 imm Storing
IsXInstr (Lra imm) = FieldsFit 1 2 0 imm Immediate
IsXInstr (Tjalr rd rs1 imm) = FieldsFit rd rs1 0 imm Immediate

-- the word is the one that the form has
pub record EncodesX (x : XInstr) (word : ℕ) : Type 0 where
  pub fits : IsXInstr x
  pub spelled : word ≡ x_word_of x

-- the bits that each form fixes: the opcode, funct3, and the registers ra (1) and sp (2) of a save and a restore
abbrev pub is_lit : ℕ → Bool
is_lit w = w % 2 ^ 7 == 0x0b

abbrev pub is_sra : ℕ → Bool
is_sra w = (w % 2 ^ 7 == 0x2b) && ((w / 2 ^ 12 % 2 ^ 3 == 0) && ((rs1_in w == 2) && (rs2_in w == 1)))

abbrev pub is_lra : ℕ → Bool
is_lra w = (w % 2 ^ 7 == 0x2b) && ((w / 2 ^ 12 % 2 ^ 3 == 1) && ((rd_in w == 1) && (rs1_in w == 2)))

abbrev pub is_tjalr : ℕ → Bool
is_tjalr w = (w % 2 ^ 7 == 0x2b) && (w / 2 ^ 12 % 2 ^ 3 == 2)

-- the form of a word, or none: the same relation as `EncodesX`, read from the word
unfoldable pub decoded_x : ℕ → Option XInstr
decoded_x w =
    if is_lit w then Some (Lit (rd_in w) (w / 2 ^ 12))
    else (if is_sra w then Some (Sra (signed_bits 11 (w / 2 ^ 7 % 2 ^ 5 + 2 ^ 5 * (w / 2 ^ 25))))
    else (if is_lra w then Some (Lra (signed_bits 11 (w / 2 ^ 20)))
    else (if is_tjalr w then Some (Tjalr (rd_in w) (rs1_in w) (signed_bits 11 (w / 2 ^ 20)))
    else None)))
