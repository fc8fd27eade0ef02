-- SPDX-License-Identifier: Apache-2.0
-- The instructions of RV64IMA as data, to hold beside the manual: one row for each mnemonic, as in the RISC-V
-- Unprivileged ISA, "RV32/64G Instruction Set Listings" (tables RV32I, RV64I, RV32M, RV64M, RV32A, RV64A), and where
-- each format puts its fields ("RV32I Base Integer Instruction Set", "Base Instruction Formats").
use Rattle.std.specs.Prelude.{◌≡◌, ℕ, ℤ, pos, negsuc, ◌+◌, ◌-◌, ◌*◌, ◌/◌, ◌%◌, ◌^◌, ◌<◌, ◌==◌, ◌&&◌, Bool, Option, List, [], ◌∷◌, find}
use Rattle.rv_table.specs.declared.instructions.Op.{Op}
use Rattle.rv_table.specs.declared.instructions.Op.TheVariants.{Lui, Auipc, Jal, Jalr, Beq, Bne, Blt, Bge, Bltu, Bgeu, Lb, Lh, Lw, Ld, Lbu, Lhu, Lwu, Sb, Sh, Sw, Sd, Addi, Slti, Sltiu, Xori, Ori, Andi, Slli, Srli, Srai, Add, Sll, Slt, Sltu, Xor, Srl, Or, And, Sub, Sra, Mul, Mulh, Mulhsu, Mulhu, Div, Divu, Rem, Remu, Addiw, Slliw, Srliw, Sraiw, Addw, Sllw, Srlw, Subw, Sraw, Mulw, Divw, Divuw, Remw, Remuw, Fence, Ecall, Ebreak, LrW, ScW, AmoswapW, AmoaddW, AmoxorW, AmoandW, AmoorW, AmominW, AmomaxW, AmominuW, AmomaxuW, LrD, ScD, AmoswapD, AmoaddD, AmoxorD, AmoandD, AmoorD, AmominD, AmomaxD, AmominuD, AmomaxuD}
use Rattle.rv_table.specs.declared.instructions.Instr.{Instr}
use Rattle.rv_table.specs.declared.rows.Form.{Form}
use Rattle.rv_table.specs.declared.rows.Form.TheVariants.{Upper, Jump, Branch, Immediate, Storing, Register, Shift6, Shift5, Atomic, Reserving, Fencing, Whole}
use Rattle.rv_table.specs.declared.rows.Row.{Row}

-- the row of these four
abbrev pub row : Form → ℕ → ℕ → ℕ → Row
row form opcode funct3 above = record { form = form; opcode = opcode; funct3 = funct3; above = above }

-- The rows, those of one opcode together, as the listings have them.
unfoldable pub row_of : Op → Row
row_of Lui = row Upper 0x37 0 0x00
row_of Auipc = row Upper 0x17 0 0x00
row_of Jal = row Jump 0x6f 0 0x00
row_of Jalr = row Immediate 0x67 0 0x00
row_of Beq = row Branch 0x63 0 0x00
row_of Bne = row Branch 0x63 1 0x00
row_of Blt = row Branch 0x63 4 0x00
row_of Bge = row Branch 0x63 5 0x00
row_of Bltu = row Branch 0x63 6 0x00
row_of Bgeu = row Branch 0x63 7 0x00
row_of Lb = row Immediate 0x03 0 0x00
row_of Lh = row Immediate 0x03 1 0x00
row_of Lw = row Immediate 0x03 2 0x00
row_of Ld = row Immediate 0x03 3 0x00
row_of Lbu = row Immediate 0x03 4 0x00
row_of Lhu = row Immediate 0x03 5 0x00
row_of Lwu = row Immediate 0x03 6 0x00
row_of Sb = row Storing 0x23 0 0x00
row_of Sh = row Storing 0x23 1 0x00
row_of Sw = row Storing 0x23 2 0x00
row_of Sd = row Storing 0x23 3 0x00
row_of Addi = row Immediate 0x13 0 0x00
row_of Slti = row Immediate 0x13 2 0x00
row_of Sltiu = row Immediate 0x13 3 0x00
row_of Xori = row Immediate 0x13 4 0x00
row_of Ori = row Immediate 0x13 6 0x00
row_of Andi = row Immediate 0x13 7 0x00
row_of Slli = row Shift6 0x13 1 0x00
row_of Srli = row Shift6 0x13 5 0x00
row_of Srai = row Shift6 0x13 5 0x10
row_of Add = row Register 0x33 0 0x00
row_of Sll = row Register 0x33 1 0x00
row_of Slt = row Register 0x33 2 0x00
row_of Sltu = row Register 0x33 3 0x00
row_of Xor = row Register 0x33 4 0x00
row_of Srl = row Register 0x33 5 0x00
row_of Or = row Register 0x33 6 0x00
row_of And = row Register 0x33 7 0x00
row_of Sub = row Register 0x33 0 0x20
row_of Sra = row Register 0x33 5 0x20
row_of Mul = row Register 0x33 0 0x01
row_of Mulh = row Register 0x33 1 0x01
row_of Mulhsu = row Register 0x33 2 0x01
row_of Mulhu = row Register 0x33 3 0x01
row_of Div = row Register 0x33 4 0x01
row_of Divu = row Register 0x33 5 0x01
row_of Rem = row Register 0x33 6 0x01
row_of Remu = row Register 0x33 7 0x01
row_of Addiw = row Immediate 0x1b 0 0x00
row_of Slliw = row Shift5 0x1b 1 0x00
row_of Srliw = row Shift5 0x1b 5 0x00
row_of Sraiw = row Shift5 0x1b 5 0x20
row_of Addw = row Register 0x3b 0 0x00
row_of Sllw = row Register 0x3b 1 0x00
row_of Srlw = row Register 0x3b 5 0x00
row_of Subw = row Register 0x3b 0 0x20
row_of Sraw = row Register 0x3b 5 0x20
row_of Mulw = row Register 0x3b 0 0x01
row_of Divw = row Register 0x3b 4 0x01
row_of Divuw = row Register 0x3b 5 0x01
row_of Remw = row Register 0x3b 6 0x01
row_of Remuw = row Register 0x3b 7 0x01
row_of Fence = row Fencing 0x0f 0 0x00
row_of Ecall = row Whole 0x73 0 0x00
row_of Ebreak = row Whole 0x73 0 0x01
row_of LrW = row Reserving 0x2f 2 0x02
row_of ScW = row Atomic 0x2f 2 0x03
row_of AmoswapW = row Atomic 0x2f 2 0x01
row_of AmoaddW = row Atomic 0x2f 2 0x00
row_of AmoxorW = row Atomic 0x2f 2 0x04
row_of AmoandW = row Atomic 0x2f 2 0x0c
row_of AmoorW = row Atomic 0x2f 2 0x08
row_of AmominW = row Atomic 0x2f 2 0x10
row_of AmomaxW = row Atomic 0x2f 2 0x14
row_of AmominuW = row Atomic 0x2f 2 0x18
row_of AmomaxuW = row Atomic 0x2f 2 0x1c
row_of LrD = row Reserving 0x2f 3 0x02
row_of ScD = row Atomic 0x2f 3 0x03
row_of AmoswapD = row Atomic 0x2f 3 0x01
row_of AmoaddD = row Atomic 0x2f 3 0x00
row_of AmoxorD = row Atomic 0x2f 3 0x04
row_of AmoandD = row Atomic 0x2f 3 0x0c
row_of AmoorD = row Atomic 0x2f 3 0x08
row_of AmominD = row Atomic 0x2f 3 0x10
row_of AmomaxD = row Atomic 0x2f 3 0x14
row_of AmominuD = row Atomic 0x2f 3 0x18
row_of AmomaxuD = row Atomic 0x2f 3 0x1c

-- the k bits of z in two's complement, for a z that fits k bits: z modulo 2 ^ k
abbrev pub low_bits : ℕ → ℤ → ℕ
low_bits k (pos n) = n
low_bits k (negsuc n) = 2 ^ k - (n + 1)

-- z fits k + 1 bits in two's complement: it is from -2 ^ k to 2 ^ k - 1
abbrev pub IsSigned : ℕ → ℤ → Type 0
IsSigned k (pos n) = n < 2 ^ k
IsSigned k (negsuc n) = n < 2 ^ k

-- z fits k bits without a sign: it is from 0 to 2 ^ k - 1
abbrev pub IsUnsigned : ℕ → ℤ → Type 0
IsUnsigned k (pos n) = n < 2 ^ k
IsUnsigned k (negsuc n) = ⊥

-- The word that the fields make, from the low bits up: rd at bit 7, funct3 at 12, rs1 at 15, rs2 at 20 ("Base
-- Instruction Formats"), and the bits of the immediate as "Immediate Encoding Variants" places them: a B has
-- imm[11] at bit 7, imm[4:1] at 8, imm[10:5] at 25 and imm[12] at 31; a J has imm[19:12] at bit 12, imm[11] at 20,
-- imm[10:1] at 21 and imm[20] at 31; a U has imm[31:12] in place; an S has imm[4:0] at bit 7 and imm[11:5] at 25. An
-- atomic has rl at bit 25 and aq at 26.
abbrev pub fields : Row → (rd rs1 rs2 : ℕ) → ℤ → Form → ℕ
fields r rd rs1 rs2 imm Upper = r.opcode + 2 ^ 7 * rd + low_bits 32 imm
fields r rd rs1 rs2 imm Jump = let n = low_bits 21 imm in
    r.opcode + 2 ^ 7 * rd + 2 ^ 12 * (n / 2 ^ 12 % 2 ^ 8) + 2 ^ 20 * (n / 2 ^ 11 % 2) + 2 ^ 21 * (n / 2 % 2 ^ 10) + 2 ^ 31 * (n / 2 ^ 20)
fields r rd rs1 rs2 imm Branch = let n = low_bits 13 imm in
    r.opcode + 2 ^ 7 * (n / 2 ^ 11 % 2) + 2 ^ 8 * (n / 2 % 2 ^ 4) + 2 ^ 12 * r.funct3 + 2 ^ 15 * rs1 + 2 ^ 20 * rs2 + 2 ^ 25 * (n / 2 ^ 5 % 2 ^ 6) + 2 ^ 31 * (n / 2 ^ 12)
fields r rd rs1 rs2 imm Immediate = r.opcode + 2 ^ 7 * rd + 2 ^ 12 * r.funct3 + 2 ^ 15 * rs1 + 2 ^ 20 * low_bits 12 imm
fields r rd rs1 rs2 imm Storing = let n = low_bits 12 imm in
    r.opcode + 2 ^ 7 * (n % 2 ^ 5) + 2 ^ 12 * r.funct3 + 2 ^ 15 * rs1 + 2 ^ 20 * rs2 + 2 ^ 25 * (n / 2 ^ 5)
fields r rd rs1 rs2 imm Register = r.opcode + 2 ^ 7 * rd + 2 ^ 12 * r.funct3 + 2 ^ 15 * rs1 + 2 ^ 20 * rs2 + 2 ^ 25 * r.above
fields r rd rs1 rs2 imm Shift6 = r.opcode + 2 ^ 7 * rd + 2 ^ 12 * r.funct3 + 2 ^ 15 * rs1 + 2 ^ 20 * low_bits 6 imm + 2 ^ 26 * r.above
fields r rd rs1 rs2 imm Shift5 = r.opcode + 2 ^ 7 * rd + 2 ^ 12 * r.funct3 + 2 ^ 15 * rs1 + 2 ^ 20 * low_bits 5 imm + 2 ^ 25 * r.above
fields r rd rs1 rs2 imm Atomic = r.opcode + 2 ^ 7 * rd + 2 ^ 12 * r.funct3 + 2 ^ 15 * rs1 + 2 ^ 20 * rs2 + 2 ^ 25 * low_bits 2 imm + 2 ^ 27 * r.above
fields r rd rs1 rs2 imm Reserving = r.opcode + 2 ^ 7 * rd + 2 ^ 12 * r.funct3 + 2 ^ 15 * rs1 + 2 ^ 25 * low_bits 2 imm + 2 ^ 27 * r.above
fields r rd rs1 rs2 imm Fencing = r.opcode + 2 ^ 7 * rd + 2 ^ 12 * r.funct3 + 2 ^ 15 * rs1 + 2 ^ 20 * low_bits 12 imm
fields r rd rs1 rs2 imm Whole = r.opcode + 2 ^ 20 * r.above

-- the word of an instruction, by its row
abbrev pub word_of : Instr → ℕ
word_of i = let r = row_of i.op in fields r i.rd i.rs1 i.rs2 i.imm r.form

-- What the fields of a form can hold: a register number of five bits, an immediate of the width that "Immediate
-- Encoding Variants" gives (that of a U has its low twelve bits 0, that of a B or J is even), a shift amount below the
-- width, aq and rl as a number below 4. A field that the form does not have is 0.
abbrev pub FieldsFit : (rd rs1 rs2 : ℕ) → ℤ → Form → Type 0
FieldsFit rd rs1 rs2 imm Upper = (rd < 32) × (rs1 ≡ 0) × (rs2 ≡ 0) × IsSigned 31 imm × (low_bits 32 imm % 2 ^ 12 ≡ 0)
FieldsFit rd rs1 rs2 imm Jump = (rd < 32) × (rs1 ≡ 0) × (rs2 ≡ 0) × IsSigned 20 imm × (low_bits 21 imm % 2 ≡ 0)
FieldsFit rd rs1 rs2 imm Branch = (rd ≡ 0) × (rs1 < 32) × (rs2 < 32) × IsSigned 12 imm × (low_bits 13 imm % 2 ≡ 0)
FieldsFit rd rs1 rs2 imm Immediate = (rd < 32) × (rs1 < 32) × (rs2 ≡ 0) × IsSigned 11 imm
FieldsFit rd rs1 rs2 imm Storing = (rd ≡ 0) × (rs1 < 32) × (rs2 < 32) × IsSigned 11 imm
FieldsFit rd rs1 rs2 imm Register = (rd < 32) × (rs1 < 32) × (rs2 < 32) × (imm ≡ pos 0)
FieldsFit rd rs1 rs2 imm Shift6 = (rd < 32) × (rs1 < 32) × (rs2 ≡ 0) × IsUnsigned 6 imm
FieldsFit rd rs1 rs2 imm Shift5 = (rd < 32) × (rs1 < 32) × (rs2 ≡ 0) × IsUnsigned 5 imm
FieldsFit rd rs1 rs2 imm Atomic = (rd < 32) × (rs1 < 32) × (rs2 < 32) × IsUnsigned 2 imm
FieldsFit rd rs1 rs2 imm Reserving = (rd < 32) × (rs1 < 32) × (rs2 ≡ 0) × IsUnsigned 2 imm
FieldsFit rd rs1 rs2 imm Fencing = (rd < 32) × (rs1 < 32) × (rs2 ≡ 0) × IsUnsigned 12 imm
FieldsFit rd rs1 rs2 imm Whole = (rd ≡ 0) × (rs1 ≡ 0) × (rs2 ≡ 0) × (imm ≡ pos 0)

-- the fields of the instruction are in the ranges of its form
abbrev pub IsInstr : Instr → Type 0
IsInstr i = FieldsFit i.rd i.rs1 i.rs2 i.imm (row_of i.op).form

-- the instruction is one of the manual's, and the word is its encoding ("RV32/64G Instruction Set Listings")
pub record Encodes (i : Instr) (word : ℕ) : Type 0 where
  pub fits : IsInstr i
  pub spelled : word ≡ word_of i

-- every mnemonic, in the order of the table
abbrev pub all_ops : List Op
all_ops = Lui ∷ Auipc ∷ Jal ∷ Jalr ∷ Beq ∷ Bne ∷ Blt ∷ Bge ∷ Bltu ∷ Bgeu ∷ Lb ∷ Lh ∷ Lw ∷ Ld ∷ Lbu ∷ Lhu ∷ Lwu ∷ Sb ∷ Sh ∷ Sw ∷ Sd ∷ Addi ∷ Slti ∷ Sltiu ∷ Xori ∷ Ori ∷ Andi ∷ Slli ∷ Srli ∷ Srai ∷ Add ∷ Sll ∷ Slt ∷ Sltu ∷ Xor ∷ Srl ∷ Or ∷ And ∷ Sub ∷ Sra ∷ Mul ∷ Mulh ∷ Mulhsu ∷ Mulhu ∷ Div ∷ Divu ∷ Rem ∷ Remu ∷ Addiw ∷ Slliw ∷ Srliw ∷ Sraiw ∷ Addw ∷ Sllw ∷ Srlw ∷ Subw ∷ Sraw ∷ Mulw ∷ Divw ∷ Divuw ∷ Remw ∷ Remuw ∷ Fence ∷ Ecall ∷ Ebreak ∷ LrW ∷ ScW ∷ AmoswapW ∷ AmoaddW ∷ AmoxorW ∷ AmoandW ∷ AmoorW ∷ AmominW ∷ AmomaxW ∷ AmominuW ∷ AmomaxuW ∷ LrD ∷ ScD ∷ AmoswapD ∷ AmoaddD ∷ AmoxorD ∷ AmoandD ∷ AmoorD ∷ AmominD ∷ AmomaxD ∷ AmominuD ∷ AmomaxuD ∷ []

-- a number for each form, by which forms are compared
abbrev pub form_number : Form → ℕ
form_number Upper = 0
form_number Jump = 1
form_number Branch = 2
form_number Immediate = 3
form_number Storing = 4
form_number Register = 5
form_number Shift6 = 6
form_number Shift5 = 7
form_number Atomic = 8
form_number Reserving = 9
form_number Fencing = 10
form_number Whole = 11

-- two rows are the same, as a test
abbrev pub same_row : Row → Row → Bool
same_row a b = (a.opcode == b.opcode) && ((form_number a.form == form_number b.form) && ((a.funct3 == b.funct3) && (a.above == b.above)))

-- the mnemonic that has this row: no two have the same
unfoldable pub op_at : Row → Option Op
unfolding row_of
op_at r = find (λ op. same_row (row_of op) r) all_ops
