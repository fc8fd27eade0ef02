-- SPDX-License-Identifier: Apache-2.0
-- The words that statements give.
use Rattle.std.specs.Prelude.{ℕ, ℤ, ◌+◌, ◌*◌, ◌/◌, ◌%◌, ◌^◌, List, [], ◌∷◌, ◌++◌, map, replicate, if◌then◌else◌}
use Rattle.rv_table.specs.declared.instructions.Instr.{Instr}
use Rattle.rv_table.specs.declared.instructions.Op.TheVariants.{Lui, Auipc, Jal, Jalr, Addi, Addiw}
use Rattle.rv_table.specs.Instruction.{low_bits, word_of, IsInstr}
use Rattle.rv_table.specs.Decoding.{made, signed_bits}
use Rattle.asm_text.specs.declared.statements.Statement.{Statement}
use Rattle.asm_text.specs.declared.statements.Statement.TheVariants as statement
use Rattle.asm_places.specs.Places.{natural, is_small}

-- the upper 20 bits of a number of 32 bits, rounded so that the lower 12 bits, read with their sign, make up the rest
abbrev pub hi20 : ℕ → ℕ
hi20 n = (n + 2048) / 4096 % 2 ^ 20

abbrev pub lo12 : ℕ → ℕ
lo12 n = n % 4096

-- the immediates of LUI or AUIPC, and of the instruction behind it, that make this number together
unfoldable pub upper : ℤ → ℤ
upper value = signed_bits 31 (hi20 (low_bits 32 value) * 4096)

unfoldable pub lower : ℤ → ℤ
lower value = signed_bits 11 (lo12 (low_bits 32 value))

-- `li`: an ADDI where the number has 12 bits, else LUI and ADDIW
abbrev pub literal_of : ℕ → ℤ → List Instr
literal_of rd value =
    if is_small value then made Addi rd 0 0 value ∷ [] else made Lui rd 0 0 (upper value) ∷ made Addiw rd rd 0 (lower value) ∷ []

-- The instructions of a statement. The distance is from the statement to what it names; others do not look at it.
unfoldable pub instrs_of : ℤ → Statement → List Instr
instrs_of distance (statement.Plain op rd rs1 rs2 imm) = made op rd rs1 rs2 imm ∷ []
instrs_of distance (statement.Upper op rd value) = made op rd 0 0 (signed_bits 31 (natural value * 4096)) ∷ []
instrs_of distance (statement.Branch op rs1 rs2 label) = made op 0 rs1 rs2 distance ∷ []
instrs_of distance (statement.Jump rd target) = made Jal rd 0 0 distance ∷ []
instrs_of distance (statement.Literal rd value) = literal_of rd value
instrs_of distance (statement.Address rd name) = made Auipc rd 0 0 (upper distance) ∷ made Addi rd rd 0 (lower distance) ∷ []
instrs_of distance (statement.Call name) = made Auipc 1 0 0 (upper distance) ∷ made Jalr 1 1 0 (lower distance) ∷ []
instrs_of distance (statement.Tail name) = made Auipc 6 0 0 (upper distance) ∷ made Jalr 0 6 0 (lower distance) ∷ []
instrs_of distance _ = []

-- all are instructions of the table
abbrev pub AreInstrs : List Instr → Type 0
AreInstrs [] = Unit {0}
AreInstrs (i ∷ is) = IsInstr i × AreInstrs is

-- the words that stand for themselves: that of `.raw`, and those of `.nops`, ADDI x0, x0, 0
unfoldable pub plain_words : Statement → List ℕ
plain_words (statement.Raw value) = natural value ∷ []
plain_words (statement.Nops count) = replicate (natural count) 0x13
plain_words _ = []

-- the words of a statement
abbrev pub words_of : ℤ → Statement → List ℕ
words_of distance s = plain_words s ++ map word_of (instrs_of distance s)
