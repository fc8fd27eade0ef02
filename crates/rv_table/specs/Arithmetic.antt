-- SPDX-License-Identifier: Apache-2.0
-- What the instructions compute (RISC-V Unprivileged ISA, chapters "RV32I Base Integer Instruction Set", "RV64I Base
-- Integer Instruction Set", "M" extension and "A" extension). A register is a number below 2 ^ 64; as a signed number
-- it is what it stands for in two's complement.
use Rattle.std.specs.Prelude.{ℕ, ℤ, pos, negsuc, ◌+◌, ◌-◌, ◌*◌, ◌/◌, ◌%◌, ◌^◌, ◌*ℤ◌, Bool, true, false, ◌==◌, nat_lt, bit_and, bit_or, bit_xor, ◌&&◌, int_div, int_rem, int_lt, not, ◌≤◌, ◌<◌, min, max, if◌then◌else◌, ◌||◌}
use Rattle.std.specs.Int.{w8, w16, w32, w64, cast_signed, int_shr}
use Rattle.rv_table.specs.declared.instructions.Reservation.{Reservation}
use Rattle.rv_table.specs.Instruction.{row_of}
use Rattle.rv_table.specs.declared.instructions.Op.{Op}
use Rattle.rv_table.specs.declared.instructions.Op.TheVariants.{Add, Addi, Sub, Sll, Slli, Slt, Slti, Sltu, Sltiu, Xor, Xori, Or, Ori, And, Andi, Srl, Srli, Sra, Srai, Mul, Mulh, Mulhsu, Mulhu, Div, Divu, Rem, Remu, Addw, Addiw, Subw, Sllw, Slliw, Srlw, Srliw, Sraw, Sraiw, Mulw, Divw, Divuw, Remw, Remuw, Beq, Bne, Blt, Bge, Bltu, Bgeu, Lb, Lh, Lw, Ld, Lbu, Lhu, Lwu, AmoswapW, AmoswapD, AmoaddW, AmoaddD, AmoxorW, AmoxorD, AmoandW, AmoandD, AmoorW, AmoorD, AmominW, AmominD, AmomaxW, AmomaxD, AmominuW, AmominuD, AmomaxuW, AmomaxuD}

-- z modulo 2 ^ 64: the register that stands for z
abbrev pub modulo : ℤ → ℕ
modulo (pos n) = n % 2 ^ 64
modulo (negsuc n) = 2 ^ 64 - 1 - n % 2 ^ 64

-- the signed number of a register, and of its low 32 bits
abbrev pub signed : ℕ → ℤ
signed a = cast_signed w64 a

abbrev pub low_signed : ℕ → ℤ
low_signed a = cast_signed w32 (a % 2 ^ 32)

-- the low 32 bits, sign-extended to 64, as RV64I has the result of each W form
abbrev pub extended : ℕ → ℕ
extended n = modulo (low_signed n)

-- 1 or 0, as SLT and SLTU set rd (RV32I, "Integer Computational Instructions")
abbrev pub bit_of : Bool → ℕ
bit_of b = if b then 1 else 0

-- What the instruction puts into rd, of its two operands, the second being rs2 or the immediate sign-extended.
-- RV32I and RV64I, "Integer Computational Instructions": sums wrap, shifts use the low six bits of the amount and their
-- W forms the low five, W forms take the low 32 bits and sign-extend the result. "M" extension, "Multiplication
-- Operations": MUL is the low half, MULH, MULHSU and MULHU the high half of signed by signed, signed by unsigned and
-- unsigned by unsigned. "M" extension, "Division Operations": quotients round towards zero, a remainder has the sign of
-- the dividend, division by zero gives all ones and leaves the dividend, and the least number by -1 gives itself and
-- leaves 0, which is what the quotient 2 ^ 63 is modulo 2 ^ 64.
unfoldable pub alu_of : Op → ℕ → ℕ → ℕ
alu_of Add a b = (a + b) % 2 ^ 64
alu_of Addi a b = (a + b) % 2 ^ 64
alu_of Sub a b = (a + (2 ^ 64 - b)) % 2 ^ 64
alu_of Sll a b = a * 2 ^ (b % 2 ^ 6) % 2 ^ 64
alu_of Slli a b = a * 2 ^ (b % 2 ^ 6) % 2 ^ 64
alu_of Slt a b = bit_of (int_lt (signed a) (signed b))
alu_of Slti a b = bit_of (int_lt (signed a) (signed b))
alu_of Sltu a b = bit_of (nat_lt a b)
alu_of Sltiu a b = bit_of (nat_lt a b)
alu_of Xor a b = bit_xor a b
alu_of Xori a b = bit_xor a b
alu_of Or a b = bit_or a b
alu_of Ori a b = bit_or a b
alu_of And a b = bit_and a b
alu_of Andi a b = bit_and a b
alu_of Srl a b = a / 2 ^ (b % 2 ^ 6)
alu_of Srli a b = a / 2 ^ (b % 2 ^ 6)
alu_of Sra a b = modulo (int_shr (signed a) (b % 2 ^ 6))
alu_of Srai a b = modulo (int_shr (signed a) (b % 2 ^ 6))
alu_of Mul a b = a * b % 2 ^ 64
alu_of Mulh a b = modulo (int_shr (signed a *ℤ signed b) 64)
alu_of Mulhsu a b = modulo (int_shr (signed a *ℤ pos b) 64)
alu_of Mulhu a b = a * b / 2 ^ 64
alu_of Div a b = if b == 0 then 2 ^ 64 - 1 else modulo (int_div (signed a) (signed b))
alu_of Divu a b = if b == 0 then 2 ^ 64 - 1 else a / b
alu_of Rem a b = if b == 0 then a else modulo (int_rem (signed a) (signed b))
alu_of Remu a b = if b == 0 then a else a % b
alu_of Addw a b = extended (a + b)
alu_of Addiw a b = extended (a + b)
alu_of Subw a b = extended (a + (2 ^ 64 - b))
alu_of Sllw a b = extended (a * 2 ^ (b % 2 ^ 5))
alu_of Slliw a b = extended (a * 2 ^ (b % 2 ^ 5))
alu_of Srlw a b = extended (a % 2 ^ 32 / 2 ^ (b % 2 ^ 5))
alu_of Srliw a b = extended (a % 2 ^ 32 / 2 ^ (b % 2 ^ 5))
alu_of Sraw a b = modulo (int_shr (low_signed a) (b % 2 ^ 5))
alu_of Sraiw a b = modulo (int_shr (low_signed a) (b % 2 ^ 5))
alu_of Mulw a b = extended (a * b)
alu_of Divw a b = if b % 2 ^ 32 == 0 then 2 ^ 64 - 1 else extended (modulo (int_div (low_signed a) (low_signed b)))
alu_of Divuw a b = if b % 2 ^ 32 == 0 then 2 ^ 64 - 1 else extended (a % 2 ^ 32 / (b % 2 ^ 32))
alu_of Remw a b = if b % 2 ^ 32 == 0 then extended a else extended (modulo (int_rem (low_signed a) (low_signed b)))
alu_of Remuw a b = if b % 2 ^ 32 == 0 then extended a else extended (a % 2 ^ 32 % (b % 2 ^ 32))
alu_of _ a b = 0

-- the arithmetic rows: opcodes OP-IMM, OP-IMM-32, OP and OP-32
abbrev pub is_arithmetic : Op → Bool
is_arithmetic op = ((row_of op).opcode == 0x13) || ((row_of op).opcode == 0x1b) || ((row_of op).opcode == 0x33) || ((row_of op).opcode == 0x3b)

-- the rows that work on 32 bits: opcodes OP-IMM-32 and OP-32
abbrev pub is_word : Op → Bool
is_word op = ((row_of op).opcode == 0x1b) || ((row_of op).opcode == 0x3b)

-- the branches: opcode BRANCH
abbrev pub is_branch : Op → Bool
is_branch op = ((row_of op).opcode == 0x63)

-- whether the branch is taken, of rs1 and rs2 (RV32I, "Conditional Branches")
unfoldable pub compare_of : Op → ℕ → ℕ → Bool
compare_of Beq a b = a == b
compare_of Bne a b = not (a == b)
compare_of Blt a b = int_lt (signed a) (signed b)
compare_of Bge a b = not (int_lt (signed a) (signed b))
compare_of Bltu a b = nat_lt a b
compare_of Bgeu a b = not (nat_lt a b)
compare_of _ a b = false

-- the loads: opcode LOAD
abbrev pub is_load : Op → Bool
is_load op = ((row_of op).opcode == 0x03)

-- what a load puts into rd, of the bytes at its place as a number, the first byte lowest: LB, LH and LW sign-extend,
-- LBU, LHU and LWU zero-extend (RV32I and RV64I, "Load and Store Instructions")
unfoldable pub extend_of : Op → ℕ → ℕ
extend_of Lb raw = modulo (cast_signed w8 (raw % 2 ^ 8))
extend_of Lh raw = modulo (cast_signed w16 (raw % 2 ^ 16))
extend_of Lw raw = modulo (cast_signed w32 (raw % 2 ^ 32))
extend_of Ld raw = raw
extend_of Lbu raw = raw % 2 ^ 8
extend_of Lhu raw = raw % 2 ^ 16
extend_of Lwu raw = raw % 2 ^ 32
extend_of _ raw = 0

-- the atomics that read, compute and write ("A" extension, "Atomic Memory Operations"); LR and SC are not among them
abbrev pub is_amo : Op → Bool
is_amo AmoswapW = true
is_amo AmoswapD = true
is_amo AmoaddW = true
is_amo AmoaddD = true
is_amo AmoxorW = true
is_amo AmoxorD = true
is_amo AmoandW = true
is_amo AmoandD = true
is_amo AmoorW = true
is_amo AmoorD = true
is_amo AmominW = true
is_amo AmominD = true
is_amo AmomaxW = true
is_amo AmomaxD = true
is_amo AmominuW = true
is_amo AmominuD = true
is_amo AmomaxuW = true
is_amo AmomaxuD = true
is_amo _ = false

-- those on words of 32 bits, whose funct3 is 2
abbrev pub is_word_amo : Op → Bool
is_word_amo op = is_amo op && ((row_of op).funct3 == 2)

-- the one of two registers that is less, or greater, as a signed number
abbrev pub signed_least : ℕ → ℕ → ℕ
signed_least a b = if int_lt (signed b) (signed a) then b else a

abbrev pub signed_greatest : ℕ → ℕ → ℕ
signed_greatest a b = if int_lt (signed a) (signed b) then b else a

-- what an atomic stores, of the old number at its place and of rs2: swap, sum, exclusive or, and, or, signed and
-- unsigned minimum and maximum; a word form of the low 32 bits of both ("A" extension, "Atomic Memory Operations")
unfoldable pub amo_of : Op → ℕ → ℕ → ℕ
amo_of AmoswapD a b = b
amo_of AmoaddD a b = (a + b) % 2 ^ 64
amo_of AmoxorD a b = bit_xor a b
amo_of AmoandD a b = bit_and a b
amo_of AmoorD a b = bit_or a b
amo_of AmominD a b = signed_least a b
amo_of AmomaxD a b = signed_greatest a b
amo_of AmominuD a b = min a b
amo_of AmomaxuD a b = max a b
amo_of AmoswapW a b = b % 2 ^ 32
amo_of AmoaddW a b = (a + b) % 2 ^ 32
amo_of AmoxorW a b = bit_xor (a % 2 ^ 32) (b % 2 ^ 32)
amo_of AmoandW a b = bit_and (a % 2 ^ 32) (b % 2 ^ 32)
amo_of AmoorW a b = bit_or (a % 2 ^ 32) (b % 2 ^ 32)
amo_of AmominW a b = signed_least (extended a) (extended b) % 2 ^ 32
amo_of AmomaxW a b = signed_greatest (extended a) (extended b) % 2 ^ 32
amo_of AmominuW a b = min (a % 2 ^ 32) (b % 2 ^ 32)
amo_of AmomaxuW a b = max (a % 2 ^ 32) (b % 2 ^ 32)
amo_of _ a b = 0

-- some byte is both among the `length` bytes from `address` on and among those of the reservation, which a
-- store-conditional may then not succeed on ("A" extension, "Load-Reserved/Store-Conditional Instructions")
abbrev pub Meets : Reservation → ℕ → ℕ → Type 0
Meets r address length = (k : ℕ) × (address ≤ k) × (k < address + length) × (r.address ≤ k) × (k < r.address + r.width)
