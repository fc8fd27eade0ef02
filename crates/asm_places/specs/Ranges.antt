-- SPDX-License-Identifier: Apache-2.0
-- The ranges of operands, and the bytes that the text and the data may have.
use Rattle.std.specs.Prelude.{ℕ, ℤ, pos, negsuc, ◌^◌, ◌==◌, ◌&&◌, ◌||◌, not, nat_lt, Bool, true, Option, Some, None, List, [], ◌∷◌, if◌then◌else◌}
use Rattle.rv_table.specs.declared.instructions.Op.{Op}
use Rattle.rv_table.specs.declared.instructions.Op.TheVariants.{Slli, Srli, Srai, Slliw, Srliw, Sraiw}
use Rattle.asm_text.specs.declared.statements.Statement.{Statement}
use Rattle.asm_text.specs.declared.statements.Statement.TheVariants as statement
use Rattle.asm_text.specs.declared.statements.Item.{Item}
use Rattle.asm_places.specs.declared.places.Place.{Place}
use Rattle.asm_places.specs.Places.{place_after}

-- from - low to high - 1
abbrev pub is_from : ℕ → ℕ → ℤ → Bool
is_from low high (pos n) = nat_lt n high
is_from low high (negsuc n) = nat_lt n low

-- the number of an instruction: a shift amount of six bits, or of five for a W form, and else 12 bits with a sign
unfoldable pub is_immediate : Op → ℤ → Bool
is_immediate Slli imm = is_from 0 64 imm
is_immediate Srli imm = is_from 0 64 imm
is_immediate Srai imm = is_from 0 64 imm
is_immediate Slliw imm = is_from 0 32 imm
is_immediate Srliw imm = is_from 0 32 imm
is_immediate Sraiw imm = is_from 0 32 imm
is_immediate _ imm = is_from 2048 2048 imm

-- a value of so many bytes, with a sign or without
abbrev pub is_value : ℕ → ℤ → Bool
is_value width value =
    if width == 1 then is_from (2 ^ 7) (2 ^ 8) value
    else (if width == 4 then is_from (2 ^ 31) (2 ^ 32) value else is_from (2 ^ 63) (2 ^ 64) value)

-- the operands of a statement are in range; distances are not looked at
unfoldable pub is_in_range : Statement → Bool
is_in_range (statement.Raw value) = is_from 0 (2 ^ 32) value
is_in_range (statement.Nops count) = is_from 0 67108865 count
is_in_range (statement.Value width value) = is_value width value
is_in_range (statement.Zero count) = is_from 0 67108865 count
is_in_range (statement.Align to) = is_from 0 4097 to && not (is_from 0 1 to)
is_in_range (statement.Plain op rd rs1 rs2 imm) = is_immediate op imm
is_in_range (statement.Upper op rd value) = is_from 0 (2 ^ 20) value
is_in_range (statement.Literal rd value) = is_from (2 ^ 31) (2 ^ 31) value
is_in_range _ = true

-- the text or the data has more than 67,108,864 bytes
abbrev pub is_past : Place → Bool
is_past p = nat_lt 67108864 p.text || nat_lt 67108864 p.«data»

-- the line of the first statement with an operand out of range, or by which a part grows too long
unfoldable pub range_line : Place → List Item → Option ℕ
range_line place [] = None
range_line place (item ∷ items) =
    if is_in_range item.statement
    then (if is_past (place_after place item.statement) then Some item.line else range_line (place_after place item.statement) items)
    else Some item.line
