-- SPDX-License-Identifier: Apache-2.0
-- The instruction of a word: the same relation as `Encodes`, read from the word. The mnemonic is the one whose row the
-- word has, and the fields are read where the row's form has them (RISC-V Unprivileged ISA, "Base Instruction Formats",
-- "Immediate Encoding Variants" and "RV32/64G Instruction Set Listings").
use Rattle.std.specs.Prelude.{ℕ, ℤ, pos, negsuc, ◌+◌, ◌-◌, ◌*◌, ◌/◌, ◌%◌, ◌^◌, Bool, ◌==◌, ◌&&◌, nat_lt, Option, find, if◌then◌else◌}
use Rattle.std.specs.Option.{option_map}
use Rattle.rv_table.specs.Instruction.{row_of, all_ops}
use Rattle.rv_table.specs.declared.rows.Form.{Form}
use Rattle.rv_table.specs.declared.rows.Form.TheVariants.{Upper, Jump, Branch, Immediate, Storing, Register, Shift6, Shift5, Atomic, Reserving, Fencing, Whole}
use Rattle.rv_table.specs.declared.rows.Row.{Row}
use Rattle.rv_table.specs.declared.instructions.Op.{Op}
use Rattle.rv_table.specs.declared.instructions.Instr.{Instr}

-- n of k + 1 bits, as the number that it stands for in two's complement
abbrev pub signed_bits : ℕ → ℕ → ℤ
signed_bits k n = if nat_lt n (2 ^ k) then pos n else negsuc (2 ^ k + 2 ^ k - (n + 1))

-- the instruction of these fields
abbrev pub made : Op → ℕ → ℕ → ℕ → ℤ → Instr
made op rd rs1 rs2 imm = record { op = op; rd = rd; rs1 = rs1; rs2 = rs2; imm = imm }

-- the word has the bits that the row fixes: the opcode, and what of funct3 and of the bits above the fields the form has
abbrev pub has_row : Form → Row → ℕ → Bool
has_row Upper r w = w % 2 ^ 7 == r.opcode
has_row Jump r w = w % 2 ^ 7 == r.opcode
has_row Branch r w = (w % 2 ^ 7 == r.opcode) && (w / 2 ^ 12 % 2 ^ 3 == r.funct3)
has_row Immediate r w = (w % 2 ^ 7 == r.opcode) && (w / 2 ^ 12 % 2 ^ 3 == r.funct3)
has_row Storing r w = (w % 2 ^ 7 == r.opcode) && (w / 2 ^ 12 % 2 ^ 3 == r.funct3)
has_row Fencing r w = (w % 2 ^ 7 == r.opcode) && (w / 2 ^ 12 % 2 ^ 3 == r.funct3)
has_row Register r w = (w % 2 ^ 7 == r.opcode) && ((w / 2 ^ 12 % 2 ^ 3 == r.funct3) && (w / 2 ^ 25 == r.above))
has_row Shift6 r w = (w % 2 ^ 7 == r.opcode) && ((w / 2 ^ 12 % 2 ^ 3 == r.funct3) && (w / 2 ^ 26 == r.above))
has_row Shift5 r w = (w % 2 ^ 7 == r.opcode) && ((w / 2 ^ 12 % 2 ^ 3 == r.funct3) && (w / 2 ^ 25 == r.above))
has_row Atomic r w = (w % 2 ^ 7 == r.opcode) && ((w / 2 ^ 12 % 2 ^ 3 == r.funct3) && (w / 2 ^ 27 == r.above))
has_row Reserving r w = (w % 2 ^ 7 == r.opcode) && ((w / 2 ^ 12 % 2 ^ 3 == r.funct3) && ((w / 2 ^ 27 == r.above) && (w / 2 ^ 20 % 2 ^ 5 == 0)))
has_row Whole r w = w == r.opcode + 2 ^ 20 * r.above

-- the register fields: rd is bits 11 to 7, rs1 bits 19 to 15, rs2 bits 24 to 20 ("Base Instruction Formats")
abbrev pub rd_in : ℕ → ℕ
rd_in w = w / 2 ^ 7 % 2 ^ 5

abbrev pub rs1_in : ℕ → ℕ
rs1_in w = w / 2 ^ 15 % 2 ^ 5

abbrev pub rs2_in : ℕ → ℕ
rs2_in w = w / 2 ^ 20 % 2 ^ 5

-- the fields that the form has in the word, the immediate put together as "Immediate Encoding Variants" shows it
abbrev pub read : Op → Form → ℕ → Instr
read op Upper w = made op (rd_in w) 0 0 (signed_bits 31 (w / 2 ^ 12 * 2 ^ 12))
read op Jump w = made op (rd_in w) 0 0 (signed_bits 20 (2 * (w / 2 ^ 21 % 2 ^ 10) + 2 ^ 11 * (w / 2 ^ 20 % 2) + 2 ^ 12 * (w / 2 ^ 12 % 2 ^ 8) + 2 ^ 20 * (w / 2 ^ 31)))
read op Branch w = made op 0 (rs1_in w) (rs2_in w) (signed_bits 12 (2 * (w / 2 ^ 8 % 2 ^ 4) + 2 ^ 5 * (w / 2 ^ 25 % 2 ^ 6) + 2 ^ 11 * (w / 2 ^ 7 % 2) + 2 ^ 12 * (w / 2 ^ 31)))
read op Immediate w = made op (rd_in w) (rs1_in w) 0 (signed_bits 11 (w / 2 ^ 20))
read op Storing w = made op 0 (rs1_in w) (rs2_in w) (signed_bits 11 (w / 2 ^ 7 % 2 ^ 5 + 2 ^ 5 * (w / 2 ^ 25)))
read op Register w = made op (rd_in w) (rs1_in w) (rs2_in w) (pos 0)
read op Shift6 w = made op (rd_in w) (rs1_in w) 0 (pos (w / 2 ^ 20 % 2 ^ 6))
read op Shift5 w = made op (rd_in w) (rs1_in w) 0 (pos (w / 2 ^ 20 % 2 ^ 5))
read op Atomic w = made op (rd_in w) (rs1_in w) (rs2_in w) (pos (w / 2 ^ 25 % 2 ^ 2))
read op Reserving w = made op (rd_in w) (rs1_in w) 0 (pos (w / 2 ^ 25 % 2 ^ 2))
read op Fencing w = made op (rd_in w) (rs1_in w) 0 (pos (w / 2 ^ 20))
read op Whole w = made op 0 0 0 (pos 0)

-- the mnemonic whose row the word has
unfoldable pub op_in : ℕ → Option Op
op_in w = find (λ op. has_row (row_of op).form (row_of op) w) all_ops

-- the instruction of the word, or none: reserved and custom words, and those of other extensions, are in no row
unfoldable pub decoded : ℕ → Option Instr
decoded w = option_map (λ op. read op (row_of op).form w) (op_in w)
