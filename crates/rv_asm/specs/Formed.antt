-- SPDX-License-Identifier: Apache-2.0
-- What the text of a statement gives by itself: registers below 32, the operands of the instruction's form, and the
-- width of a value.
use Rattle.std.specs.Prelude.{◌≡◌, ℕ, ℤ, pos, ◌<◌, List, [], ◌∷◌, Contains}
use Rattle.std.specs.List.{All}
use Rattle.rv_table.specs.Instruction.{row_of}
use Rattle.rv_table.specs.declared.rows.Form.{Form}
use Rattle.rv_table.specs.declared.rows.Form.TheVariants.{Upper, Jump, Branch, Immediate, Storing, Register, Shift6, Shift5, Atomic, Reserving, Fencing, Whole}
use Rattle.asm_text.specs.declared.statements.Statement.{Statement}
use Rattle.asm_text.specs.declared.statements.Statement.TheVariants as statement
use Rattle.asm_text.specs.declared.statements.Item.{Item}

-- The operands of an instruction of registers and a number, by its form: an operand that the form lacks is 0. A number
-- that is there may still be out of range.
abbrev pub HasOperands : (rd rs1 rs2 : ℕ) → ℤ → Form → Type 0
HasOperands rd rs1 rs2 imm Upper = ⊥
HasOperands rd rs1 rs2 imm Jump = ⊥
HasOperands rd rs1 rs2 imm Branch = ⊥
HasOperands rd rs1 rs2 imm Immediate = (rd < 32) × (rs1 < 32) × (rs2 ≡ 0)
HasOperands rd rs1 rs2 imm Storing = (rd ≡ 0) × (rs1 < 32) × (rs2 < 32)
HasOperands rd rs1 rs2 imm Register = (rd < 32) × (rs1 < 32) × (rs2 < 32) × (imm ≡ pos 0)
HasOperands rd rs1 rs2 imm Shift6 = (rd < 32) × (rs1 < 32) × (rs2 ≡ 0)
HasOperands rd rs1 rs2 imm Shift5 = (rd < 32) × (rs1 < 32) × (rs2 ≡ 0)
HasOperands rd rs1 rs2 imm Atomic = (rd < 32) × (rs1 < 32) × (rs2 < 32) × (imm ≡ pos 0)
HasOperands rd rs1 rs2 imm Reserving = (rd < 32) × (rs1 < 32) × (rs2 ≡ 0) × (imm ≡ pos 0)
HasOperands rd rs1 rs2 imm Fencing = (rd ≡ 0) × (rs1 ≡ 0) × (rs2 ≡ 0) × (imm ≡ pos 0)
HasOperands rd rs1 rs2 imm Whole = (rd ≡ 0) × (rs1 ≡ 0) × (rs2 ≡ 0) × (imm ≡ pos 0)

-- the registers of a statement are below 32, and its instruction has the operands of its form; a number of `.byte`,
-- `.word` and `.quad` has their width, and so has a name of the latter two
abbrev pub IsFormed : Statement → Type 0
IsFormed (statement.Plain op rd rs1 rs2 imm) = HasOperands rd rs1 rs2 imm (row_of op).form
IsFormed (statement.Upper op rd value) = (rd < 32) × ((row_of op).form ≡ Upper)
IsFormed (statement.Branch op rs1 rs2 label) = (rs1 < 32) × (rs2 < 32) × ((row_of op).form ≡ Branch)
IsFormed (statement.Jump rd target) = rd < 32
IsFormed (statement.Literal rd value) = rd < 32
IsFormed (statement.Address rd name) = rd < 32
IsFormed (statement.Value width value) = Contains (1 ∷ 4 ∷ 8 ∷ []) width
IsFormed (statement.Reference width name) = Contains (4 ∷ 8 ∷ []) width
IsFormed _ = Unit {0}

-- each statement is so
abbrev pub AreFormed : List Item → Type 0
AreFormed items = All (λ item. IsFormed item.statement) items
