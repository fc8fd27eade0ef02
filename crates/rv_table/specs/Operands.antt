-- SPDX-License-Identifier: Apache-2.0
-- Which registers an instruction reads, what it computes, and how many bytes it touches. Reads are by mnemonic: a
-- field that means nothing, as rs1 of FENCE, is no read. (RISC-V Unprivileged ISA, RV32I "Integer Computational
-- Instructions" and "Load and Store Instructions".)
use Rattle.std.specs.Prelude.{ℕ, ℤ, ◌+◌, ◌%◌, ◌^◌, ◌==◌, ◌&&◌, ◌||◌, Bool, true, false, if◌then◌else◌}
use Rattle.std.specs.Int.{cast_unsigned}
use mir.Syntax.{w64}
use Rattle.rv_table.specs.declared.instructions.Instr.{Instr}
use Rattle.rv_table.specs.declared.instructions.Op.{Op}
use Rattle.rv_table.specs.declared.instructions.Op.TheVariants.{Lb, Lbu, Lh, Lhu, Lw, Lwu, Sb, Sh, Sw, LrW, ScW, AmoswapW, AmoaddW, AmoxorW, AmoandW, AmoorW, AmominW, AmomaxW, AmominuW, AmomaxuW, LrD, ScD}
use Rattle.rv_table.specs.Arithmetic.{alu_of, extended}
use Rattle.rv_table.specs.Instruction.{row_of}

-- an immediate as a number of 64 bits
abbrev pub number_of_imm : ℤ → ℕ
number_of_imm imm = cast_unsigned w64 imm

-- an address and an immediate, modulo 2 ^ 64
abbrev pub plus_imm : ℕ → ℤ → ℕ
plus_imm a imm = (a + number_of_imm imm) % 2 ^ 64

-- the operation of two registers
unfoldable pub is_register : Op → Bool
is_register op = ((row_of op).opcode == 0x33) || ((row_of op).opcode == 0x3b)

-- an arithmetic instruction reads ra
unfoldable pub reads_ra : Instr → Bool
reads_ra i = (i.rs1 == 1) || (is_register i.op && (i.rs2 == 1))

-- an instruction of two registers reads ra
abbrev pub both_ra : Instr → Bool
both_ra i = (i.rs1 == 1) || (i.rs2 == 1)

-- what an arithmetic instruction makes of the numbers in rs1 and rs2
unfoldable pub computed : Instr → ℕ → ℕ → ℕ
computed i a b = alu_of i.op a (if is_register i.op then b else number_of_imm i.imm)

-- how many bytes a load, a store or an atomic touches
unfoldable pub width_of : Op → ℕ
width_of Lb = 1
width_of Lbu = 1
width_of Lh = 2
width_of Lhu = 2
width_of Lw = 4
width_of Lwu = 4
width_of Sb = 1
width_of Sh = 2
width_of Sw = 4
width_of LrW = 4
width_of ScW = 4
width_of AmoswapW = 4
width_of AmoaddW = 4
width_of AmoxorW = 4
width_of AmoandW = 4
width_of AmoorW = 4
width_of AmominW = 4
width_of AmomaxW = 4
width_of AmominuW = 4
width_of AmomaxuW = 4
width_of _ = 8

-- load-reserved
abbrev pub is_lr : Op → Bool
is_lr LrW = true
is_lr LrD = true
is_lr _ = false

-- store-conditional
abbrev pub is_sc : Op → Bool
is_sc ScW = true
is_sc ScD = true
is_sc _ = false

-- what an atomic reads, of the bytes at its address as a number: a word of 32 bits is sign-extended
unfoldable pub taken_as : Op → ℕ → ℕ
taken_as op raw = if width_of op == 4 then extended raw else raw
