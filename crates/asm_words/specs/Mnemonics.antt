-- SPDX-License-Identifier: Apache-2.0
-- The mnemonics and directives of the source language, by the operands that they take.
use Rattle.std.specs.Prelude.{ℕ, true, false, Option, List, [], ◌∷◌, ◌++◌, codes, option_map}
use Rattle.asm_words.specs.Tables.{named, first_of}
use Rattle.asm_words.specs.declared.shapes.Plain.{Plain}
use Rattle.asm_words.specs.declared.shapes.Plain.TheVariants as plain
use Rattle.asm_words.specs.declared.shapes.Naming.{Naming}
use Rattle.asm_words.specs.declared.shapes.Naming.TheVariants as naming
use Rattle.asm_words.specs.declared.shapes.Shape.{Shape}
use Rattle.asm_words.specs.declared.shapes.Shape.TheVariants as shape
use Rattle.rv_table.specs.declared.instructions.Op.{Op}
use Rattle.rv_table.specs.declared.instructions.Op.TheVariants.{Add, Sub, Sll, Slt, Sltu, Xor, Srl, Sra, Or, And, Mul, Mulh, Mulhsu, Mulhu, Div, Divu, Rem, Remu, Addw, Subw, Sllw, Srlw, Sraw, Mulw, Divw, Divuw, Remw, Remuw, Addi, Slti, Sltiu, Xori, Ori, Andi, Slli, Srli, Srai, Addiw, Slliw, Srliw, Sraiw, Lb, Lh, Lw, Ld, Lbu, Lhu, Lwu, Jalr, Sb, Sh, Sw, Sd, Beq, Bne, Blt, Bge, Bltu, Bgeu, Lui, Auipc, ScW, AmoswapW, AmoaddW, AmoxorW, AmoandW, AmoorW, AmominW, AmomaxW, AmominuW, AmomaxuW, ScD, AmoswapD, AmoaddD, AmoxorD, AmoandD, AmoorD, AmominD, AmomaxD, AmominuD, AmomaxuD, LrW, LrD, Fence, Ecall, Ebreak}

-- rd, rs1, rs2: sums, comparisons, shifts and bits
unfoldable pub base_rows : List (List ℕ × Op)
base_rows =
    (codes "add", Add) ∷ (codes "sub", Sub) ∷ (codes "sll", Sll) ∷ (codes "slt", Slt) ∷ (codes "sltu", Sltu)
    ∷ (codes "xor", Xor) ∷ (codes "srl", Srl) ∷ (codes "sra", Sra) ∷ (codes "or", Or) ∷ (codes "and", And) ∷ []

-- rd, rs1, rs2: products and quotients
unfoldable pub product_rows : List (List ℕ × Op)
product_rows =
    (codes "mul", Mul) ∷ (codes "mulh", Mulh) ∷ (codes "mulhsu", Mulhsu) ∷ (codes "mulhu", Mulhu)
    ∷ (codes "div", Div) ∷ (codes "divu", Divu) ∷ (codes "rem", Rem) ∷ (codes "remu", Remu) ∷ []

-- rd, rs1, rs2: on the low words
unfoldable pub low_word_rows : List (List ℕ × Op)
low_word_rows =
    (codes "addw", Addw) ∷ (codes "subw", Subw) ∷ (codes "sllw", Sllw) ∷ (codes "srlw", Srlw) ∷ (codes "sraw", Sraw)
    ∷ (codes "mulw", Mulw) ∷ (codes "divw", Divw) ∷ (codes "divuw", Divuw) ∷ (codes "remw", Remw) ∷ (codes "remuw", Remuw) ∷ []

-- rd, rs1, rs2
unfoldable pub register_rows : List (List ℕ × Op)
register_rows = base_rows ++ (product_rows ++ low_word_rows)

-- rd, rs1, number
unfoldable pub immediate_rows : List (List ℕ × Op)
immediate_rows =
    (codes "addi", Addi) ∷ (codes "slti", Slti) ∷ (codes "sltiu", Sltiu) ∷ (codes "xori", Xori) ∷ (codes "ori", Ori) ∷ (codes "andi", Andi)
    ∷ (codes "slli", Slli) ∷ (codes "srli", Srli) ∷ (codes "srai", Srai) ∷ (codes "addiw", Addiw) ∷ (codes "slliw", Slliw) ∷ (codes "srliw", Srliw)
    ∷ (codes "sraiw", Sraiw) ∷ []

-- rd, number(rs1)
unfoldable pub memory_rows : List (List ℕ × Op)
memory_rows =
    (codes "lb", Lb) ∷ (codes "lh", Lh) ∷ (codes "lw", Lw) ∷ (codes "ld", Ld) ∷ (codes "lbu", Lbu) ∷ (codes "lhu", Lhu)
    ∷ (codes "lwu", Lwu) ∷ (codes "jalr", Jalr) ∷ []

-- rs2, number(rs1)
unfoldable pub store_rows : List (List ℕ × Op)
store_rows =
    (codes "sb", Sb) ∷ (codes "sh", Sh) ∷ (codes "sw", Sw) ∷ (codes "sd", Sd) ∷ []

-- rs1, rs2, label
unfoldable pub branch_rows : List (List ℕ × Op)
branch_rows =
    (codes "beq", Beq) ∷ (codes "bne", Bne) ∷ (codes "blt", Blt) ∷ (codes "bge", Bge) ∷ (codes "bltu", Bltu) ∷ (codes "bgeu", Bgeu) ∷ []

-- rd, number
unfoldable pub upper_rows : List (List ℕ × Op)
upper_rows =
    (codes "lui", Lui) ∷ (codes "auipc", Auipc) ∷ []

-- rd, rs2, (rs1), of a word
unfoldable pub atomic_word_rows : List (List ℕ × Op)
atomic_word_rows =
    (codes "sc.w", ScW) ∷ (codes "amoswap.w", AmoswapW) ∷ (codes "amoadd.w", AmoaddW) ∷ (codes "amoxor.w", AmoxorW) ∷ (codes "amoand.w", AmoandW)
    ∷ (codes "amoor.w", AmoorW) ∷ (codes "amomin.w", AmominW) ∷ (codes "amomax.w", AmomaxW) ∷ (codes "amominu.w", AmominuW) ∷ (codes "amomaxu.w", AmomaxuW) ∷ []

-- rd, rs2, (rs1), of a doubleword
unfoldable pub atomic_double_rows : List (List ℕ × Op)
atomic_double_rows =
    (codes "sc.d", ScD) ∷ (codes "amoswap.d", AmoswapD) ∷ (codes "amoadd.d", AmoaddD) ∷ (codes "amoxor.d", AmoxorD) ∷ (codes "amoand.d", AmoandD)
    ∷ (codes "amoor.d", AmoorD) ∷ (codes "amomin.d", AmominD) ∷ (codes "amomax.d", AmomaxD) ∷ (codes "amominu.d", AmominuD) ∷ (codes "amomaxu.d", AmomaxuD) ∷ []

-- rd, rs2, (rs1)
unfoldable pub atomic_rows : List (List ℕ × Op)
atomic_rows = atomic_word_rows ++ atomic_double_rows

-- rd, (rs1)
unfoldable pub reserve_rows : List (List ℕ × Op)
reserve_rows =
    (codes "lr.w", LrW) ∷ (codes "lr.d", LrD) ∷ []

-- no operand
unfoldable pub bare_rows : List (List ℕ × Op)
bare_rows =
    (codes "fence", Fence) ∷ (codes "ecall", Ecall) ∷ (codes "ebreak", Ebreak) ∷ []

-- instructions by other names, and directives, that name nothing
unfoldable pub plain_rows : List (List ℕ × Plain)
plain_rows =
    (codes "nop", plain.Nop) ∷ (codes "mv", plain.Move) ∷ (codes "ret", plain.Return) ∷ (codes "jr", plain.ToRegister) ∷ (codes "li", plain.Literal) ∷ (codes ".endfunc", plain.EndFunction)
    ∷ (codes ".raw", plain.Raw) ∷ (codes ".nops", plain.Nops) ∷ (codes ".zero", plain.Zero) ∷ (codes ".align", plain.Align) ∷ []

-- what takes a name
unfoldable pub naming_rows : List (List ℕ × Naming)
naming_rows =
    (codes ".entry", naming.Entry) ∷ (codes ".func", naming.Function) ∷ (codes "jal", naming.Jump) ∷ (codes "j", naming.ToLabel) ∷ (codes "la", naming.Address) ∷ (codes "call", naming.Call)
    ∷ (codes "tail", naming.Tail) ∷ (codes "beqz", naming.BranchZero Beq) ∷ (codes "bnez", naming.BranchZero Bne) ∷ []

-- values, of which only those of four and eight bytes may be names, and a string
unfoldable pub value_rows : List (List ℕ × Shape)
value_rows =
    (codes ".byte", shape.Values 1 false) ∷ (codes ".word", shape.Values 4 true) ∷ (codes ".quad", shape.Values 8 true) ∷ (codes ".ascii", shape.Ascii) ∷ []

-- what the mnemonic of an instruction of the table takes
unfoldable pub instruction_shape : List ℕ → Option Shape
instruction_shape name =
    first_of (option_map (λ op. shape.Plain (plain.Register op)) (named register_rows name)) (
    first_of (option_map (λ op. shape.Plain (plain.Immediate op)) (named immediate_rows name)) (
    first_of (option_map (λ op. shape.Plain (plain.Memory op)) (named memory_rows name)) (
    first_of (option_map (λ op. shape.Plain (plain.Store op)) (named store_rows name)) (
    first_of (option_map (λ op. shape.Plain (plain.Upper op)) (named upper_rows name)) (
    first_of (option_map (λ op. shape.Plain (plain.Atomic op)) (named atomic_rows name)) (
    first_of (option_map (λ op. shape.Plain (plain.Reserve op)) (named reserve_rows name)) (
    first_of (option_map (λ op. shape.Plain (plain.Bare op)) (named bare_rows name)) (
    option_map (λ op. shape.Naming (naming.Branch op)) (named branch_rows name)))))))))

-- what a mnemonic or directive takes
unfoldable pub shape_of : List ℕ → Option Shape
shape_of name =
    first_of (instruction_shape name) (
    first_of (option_map shape.Plain (named plain_rows name)) (
    first_of (option_map shape.Naming (named naming_rows name)) (named value_rows name)))
