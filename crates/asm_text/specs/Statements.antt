-- SPDX-License-Identifier: Apache-2.0
-- What text is which statement.
use Rattle.std.specs.Prelude.{ℕ, ℤ, pos, ◌==◌, Bool, Option, Some, None, List, [], ◌∷◌, length, option_map, if◌then◌else◌}
use Rattle.rv_table.specs.declared.instructions.Op.{Op}
use Rattle.rv_table.specs.declared.instructions.Op.TheVariants.{Addi, Jalr}
use Rattle.asm_words.specs.declared.shapes.Plain.{Plain}
use Rattle.asm_words.specs.declared.shapes.Plain.TheVariants as plain
use Rattle.asm_words.specs.declared.shapes.Naming.{Naming}
use Rattle.asm_words.specs.declared.shapes.Naming.TheVariants as naming
use Rattle.asm_words.specs.declared.shapes.Shape.{Shape}
use Rattle.asm_words.specs.declared.shapes.Shape.TheVariants as shape
use Rattle.asm_text.specs.declared.statements.Statement.{Statement}
use Rattle.asm_text.specs.declared.statements.Statement.TheVariants as statement
use Rattle.asm_words.specs.Characters.{cut, before, from, trimmed, is_blank, is_name}
use Rattle.asm_words.specs.Strings.{string_of}
use Rattle.asm_words.specs.Numbers.{◌>>=◌, number_of}
use Rattle.asm_words.specs.Operands.{is_nothing, indexed, based, name_of, register_first, register_and_name, register_and_number}
use Rattle.asm_words.specs.Registers.{register_of}
use Rattle.asm_words.specs.Mnemonics.{shape_of}

-- ---- statements of registers and numbers

abbrev pub instruction : Op → ℕ → ℕ → ℕ → ℤ → Statement
instruction op rd rs1 rs2 imm = statement.Plain op rd rs1 rs2 imm

-- `op rd, rs1, rs2`
unfoldable pub register_form : Op → List ℕ → Option Statement
register_form op text = do
  rd ← register_first text
  rs1 ← register_first rd.1
  rs2 ← register_of rs1.1
  Some (instruction op rd.0 rs1.0 rs2 (pos 0))

-- `op rd, rs1, number`
unfoldable pub immediate_form : Op → List ℕ → Option Statement
immediate_form op text = do
  rd ← register_first text
  x ← register_and_number rd.1
  Some (instruction op rd.0 x.0 0 x.1)

-- `op rd, number(rs1)`
unfoldable pub memory_form : Op → List ℕ → Option Statement
memory_form op text = do
  rd ← register_first text
  x ← indexed rd.1
  Some (instruction op rd.0 x.1 0 x.0)

-- `op rs2, number(rs1)`
unfoldable pub store_form : Op → List ℕ → Option Statement
store_form op text = do
  rs2 ← register_first text
  x ← indexed rs2.1
  Some (instruction op 0 x.1 rs2.0 x.0)

-- `op rd, number`
unfoldable pub upper_form : Op → List ℕ → Option Statement
upper_form op text = do
  x ← register_and_number text
  Some (statement.Upper op x.0 x.1)

-- `op rd, rs2, (rs1)`
unfoldable pub atomic_form : Op → List ℕ → Option Statement
atomic_form op text = do
  rd ← register_first text
  rs2 ← register_first rd.1
  rs1 ← based rs2.1
  Some (instruction op rd.0 rs1 rs2.0 (pos 0))

-- `op rd, (rs1)`
unfoldable pub reserve_form : Op → List ℕ → Option Statement
reserve_form op text = do
  rd ← register_first text
  rs1 ← based rd.1
  Some (instruction op rd.0 rs1 0 (pos 0))

-- no operand
unfoldable pub alone : Statement → List ℕ → Option Statement
alone s text = if is_nothing text then Some s else None

-- `mv rd, rs`
unfoldable pub move_form : List ℕ → Option Statement
move_form text = do
  rd ← register_first text
  rs ← register_of rd.1
  Some (instruction Addi rd.0 rs 0 (pos 0))

-- `jr rs`
unfoldable pub to_register_form : List ℕ → Option Statement
to_register_form text = do
  rs ← register_of text
  Some (instruction Jalr 0 rs 0 (pos 0))

-- `li rd, number`
unfoldable pub literal_form : List ℕ → Option Statement
literal_form text = do
  x ← register_and_number text
  Some (statement.Literal x.0 x.1)

unfoldable pub plain_of : Plain → List ℕ → Option Statement
plain_of (plain.Register op) text = register_form op text
plain_of (plain.Immediate op) text = immediate_form op text
plain_of (plain.Memory op) text = memory_form op text
plain_of (plain.Store op) text = store_form op text
plain_of (plain.Upper op) text = upper_form op text
plain_of (plain.Atomic op) text = atomic_form op text
plain_of (plain.Reserve op) text = reserve_form op text
plain_of (plain.Bare op) text = alone (instruction op 0 0 0 (pos 0)) text
plain_of plain.Nop text = alone (instruction Addi 0 0 0 (pos 0)) text
plain_of plain.Move text = move_form text
plain_of plain.Return text = alone (instruction Jalr 0 1 0 (pos 0)) text
plain_of plain.ToRegister text = to_register_form text
plain_of plain.Literal text = literal_form text
plain_of plain.EndFunction text = alone statement.EndFunction text
plain_of plain.Raw text = option_map statement.Raw (number_of text)
plain_of plain.Nops text = option_map statement.Nops (number_of text)
plain_of plain.Zero text = option_map statement.Zero (number_of text)
plain_of plain.Align text = option_map statement.Align (number_of text)

-- ---- statements with names

-- `op rs1, rs2, label`
unfoldable pub branch_form : Op → List ℕ → Option Statement
branch_form op text = do
  rs1 ← register_first text
  x ← register_and_name rs1.1
  Some (statement.Branch op rs1.0 x.0 x.1)

-- `op rs1, label`, where rs2 is zero
unfoldable pub branch_zero_form : Op → List ℕ → Option Statement
branch_zero_form op text = do
  x ← register_and_name text
  Some (statement.Branch op x.0 0 x.1)

unfoldable pub jump_form : List ℕ → Option Statement
jump_form text = do
  x ← register_and_name text
  Some (statement.Jump x.0 x.1)

unfoldable pub address_form : List ℕ → Option Statement
address_form text = do
  x ← register_and_name text
  Some (statement.Address x.0 x.1)

unfoldable pub naming_of : Naming → List ℕ → Option Statement
naming_of (naming.Branch op) text = branch_form op text
naming_of (naming.BranchZero op) text = branch_zero_form op text
naming_of naming.Entry text = option_map statement.Entry (name_of text)
naming_of naming.Function text = option_map statement.Function (name_of text)
naming_of naming.Jump text = jump_form text
naming_of naming.ToLabel text = option_map (statement.Jump 0) (name_of text)
naming_of naming.Address text = address_form text
naming_of naming.Call text = option_map statement.Call (name_of text)
naming_of naming.Tail text = option_map statement.Tail (name_of text)

-- ---- values

-- a character in front of the first part
abbrev pub in_front : ℕ → List (List ℕ) → List (List ℕ)
in_front c [] = (c ∷ []) ∷ []
in_front c (part ∷ others) = (c ∷ part) ∷ others

-- what stands between the characters of a kind
unfoldable pub parts : (ℕ → Bool) → List ℕ → List (List ℕ)
parts test [] = [] ∷ []
parts test (c ∷ cs) = if test c then [] ∷ parts test cs else in_front c (parts test cs)

-- all, or nothing where one gives nothing
unfoldable pub each : {A : Type 0} → (List ℕ → Option A) → List (List ℕ) → Option (List A)
each read [] = Some []
each read (text ∷ texts) = do
  x ← read text
  xs ← each read texts
  Some (x ∷ xs)

-- a number, or a name where there may be names
unfoldable pub value_of : ℕ → Bool → List ℕ → Option Statement
value_of width names text =
    elim (number_of text) [ Some n ↦ Some (statement.Value width n) | None ↦ if names then option_map (statement.Reference width) (name_of text) else None ]

unfoldable pub values_of : ℕ → Bool → List ℕ → Option (List Statement)
values_of width names text = each (value_of width names) (parts (λ c. c == 44) text)

-- ---- a whole statement

abbrev pub alone_in : Option Statement → Option (List Statement)
alone_in s = option_map (λ x. x ∷ []) s

-- what a mnemonic or directive of this shape makes of its operands
unfoldable pub body_of : Shape → List ℕ → Option (List Statement)
body_of (shape.Plain s) text = alone_in (plain_of s text)
body_of (shape.Naming s) text = alone_in (naming_of s text)
body_of (shape.Values width names) text = values_of width names text
body_of shape.Ascii text = alone_in (option_map statement.Ascii (string_of text))

-- a mnemonic or directive and its operands, or nothing
unfoldable pub unlabelled : List ℕ → Option (List Statement)
unlabelled text =
    if length text == 0 then Some []
    else (shape_of (before is_blank text) >>= λ s. body_of s (from is_blank text))

-- the name of a label at the front, and what stands behind its colon
unfoldable pub label_of : List ℕ → Option (List ℕ × List ℕ)
label_of text = do
  x ← cut (λ c. c == 58) text
  if is_name x.0 then Some x else None

-- a statement, with its label or without
unfoldable pub statement_of : List ℕ → Option (List Statement)
statement_of text =
    elim (label_of (trimmed text)) [
      | None ↦ unlabelled (trimmed text)
      | Some x ↦ (unlabelled (trimmed x.1) >>= λ others. Some (statement.Label x.0 ∷ others))
    ]
