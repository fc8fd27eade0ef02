-- SPDX-License-Identifier: Apache-2.0
-- The registers that an instruction names, and a word without an instruction.
use Rattle.std.proofs.Common.{◌≡◌, ℕ, None, refl, arith}
use Rattle.rv_table.specs.Decoding.{decoded, op_in}
use Rattle.rv_table.specs.Instruction.{row_of, FieldsFit, Encodes}
use Rattle.rv_table.specs.declared.instructions.Instr.{Instr}
use Rattle.rv_table.specs.declared.rows.Form.{Form}
use Rattle.rv_table.specs.declared.rows.Form.TheVariants.{Upper, Jump, Branch, Immediate, Storing, Register, Shift6, Shift5, Atomic, Reserving, Fencing, Whole}
use Rattle.rv_operands.specs.Registers.{NamesRegisters}

registers_fit : (i : Instr) (form : Form) → FieldsFit i.rd i.rs1 i.rs2 i.imm form → NamesRegisters i
registers_fit i Upper f = record { rd = omega arith; rs1 = omega arith; rs2 = omega arith }
registers_fit i Jump f = record { rd = omega arith; rs1 = omega arith; rs2 = omega arith }
registers_fit i Branch f = record { rd = omega arith; rs1 = omega arith; rs2 = omega arith }
registers_fit i Immediate f = record { rd = omega arith; rs1 = omega arith; rs2 = omega arith }
registers_fit i Storing f = record { rd = omega arith; rs1 = omega arith; rs2 = omega arith }
registers_fit i Register f = record { rd = omega arith; rs1 = omega arith; rs2 = omega arith }
registers_fit i Shift6 f = record { rd = omega arith; rs1 = omega arith; rs2 = omega arith }
registers_fit i Shift5 f = record { rd = omega arith; rs1 = omega arith; rs2 = omega arith }
registers_fit i Atomic f = record { rd = omega arith; rs1 = omega arith; rs2 = omega arith }
registers_fit i Reserving f = record { rd = omega arith; rs1 = omega arith; rs2 = omega arith }
registers_fit i Fencing f = record { rd = omega arith; rs1 = omega arith; rs2 = omega arith }
registers_fit i Whole f = record { rd = omega arith; rs1 = omega arith; rs2 = omega arith }

-- an instruction of a word names registers
pub names_registers : (i : Instr) (w : ℕ) → Encodes i w → NamesRegisters i
names_registers i w h = registers_fit i (row_of i.op).form h.fits

-- where no word is, there is no instruction
pub zero_decoded : decoded 0 ≡ None
unfolding decoded op_in row_of
zero_decoded = refl
