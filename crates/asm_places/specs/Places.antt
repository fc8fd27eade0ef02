-- SPDX-License-Identifier: Apache-2.0
-- Where statements stand: in which function, and at which offsets of the text and of the data.
use Rattle.std.specs.Prelude.{ℕ, ℤ, pos, negsuc, ◌+◌, ◌-◌, ◌*◌, ◌%◌, not, nat_lt, Bool, true, false, Option, Some, None, List, [], ◌∷◌, length, if◌then◌else◌}
use Rattle.asm_text.specs.declared.statements.Statement.{Statement}
use Rattle.asm_text.specs.declared.statements.Statement.TheVariants as statement
use Rattle.asm_text.specs.declared.statements.Item.{Item}
use Rattle.asm_places.specs.declared.places.Place.{Place}

-- a statement of a function: an instruction, or words
abbrev pub is_code : Statement → Bool
is_code (statement.Raw value) = true
is_code (statement.Nops count) = true
is_code (statement.Plain op rd rs1 rs2 imm) = true
is_code (statement.Upper op rd value) = true
is_code (statement.Branch op rs1 rs2 label) = true
is_code (statement.Jump rd target) = true
is_code (statement.Literal rd value) = true
is_code (statement.Address rd name) = true
is_code (statement.Call name) = true
is_code (statement.Tail name) = true
is_code _ = false

-- a statement of the data
abbrev pub is_data : Statement → Bool
is_data (statement.Value width value) = true
is_data (statement.Reference width name) = true
is_data (statement.Zero count) = true
is_data (statement.Ascii bytes) = true
is_data (statement.Align to) = true
is_data _ = false

-- A statement stands in the wrong place: `.func` in a function, and outside of one `.endfunc`, an instruction or words;
-- in a function data. A label and `.entry` may stand anywhere.
unfoldable pub is_misplaced : Bool → Statement → Bool
is_misplaced inside (statement.Function name) = inside
is_misplaced inside statement.EndFunction = not inside
is_misplaced true s = is_data s
is_misplaced false s = is_code s

-- whether what follows the statement is in a function
unfoldable pub is_inside_after : Bool → Statement → Bool
is_inside_after inside (statement.Function name) = true
is_inside_after inside statement.EndFunction = false
is_inside_after inside _ = inside

-- the line of the first statement in the wrong place
unfoldable pub misplaced_line : Bool → List Item → Option ℕ
misplaced_line inside [] = None
misplaced_line inside (item ∷ items) =
    if is_misplaced inside item.statement then Some item.line
    else misplaced_line (is_inside_after inside item.statement) items

-- the function that is begun last has no end
unfoldable pub is_open : Bool → List Item → Bool
is_open inside [] = inside
is_open inside (item ∷ items) = is_open (is_inside_after inside item.statement) items

-- the number that a number in range is
abbrev pub natural : ℤ → ℕ
natural (pos n) = n
natural (negsuc n) = 0

-- a number of 12 bits
abbrev pub is_small : ℤ → Bool
is_small (pos n) = nat_lt n 2048
is_small (negsuc n) = nat_lt n 2048

-- how many bytes of the text the statement takes
unfoldable pub text_size : Statement → ℕ
text_size (statement.Raw value) = 4
text_size (statement.Nops count) = 4 * natural count
text_size (statement.Plain op rd rs1 rs2 imm) = 4
text_size (statement.Upper op rd value) = 4
text_size (statement.Branch op rs1 rs2 label) = 4
text_size (statement.Jump rd target) = 4
text_size (statement.Literal rd value) = if is_small value then 4 else 8
text_size (statement.Address rd name) = 8
text_size (statement.Call name) = 8
text_size (statement.Tail name) = 8
text_size _ = 0

-- how many zero bytes lead from a place to the next multiple of a number above 0
abbrev pub padding : ℕ → ℕ → ℕ
padding at to = (to - at % to) % to

-- how many bytes of the data the statement takes at this offset
unfoldable pub data_size : ℕ → Statement → ℕ
data_size at (statement.Value width value) = width
data_size at (statement.Reference width name) = width
data_size at (statement.Zero count) = natural count
data_size at (statement.Ascii bytes) = length bytes
data_size at (statement.Align to) = padding at (natural to)
data_size at _ = 0

-- how many functions the statement begins
abbrev pub begins : Statement → ℕ
begins (statement.Function name) = 1
begins _ = 0

-- the place behind a statement
unfoldable pub place_after : Place → Statement → Place
place_after p s =
    record {
      inside = is_inside_after p.inside s;
      functions = p.functions + begins s;
      text = p.text + text_size s;
      «data» = p.«data» + data_size p.«data» s;
    }

-- where the first statement stands
abbrev pub first_place : Place
first_place = record { inside = false; functions = 0; text = 0; «data» = 0 }
