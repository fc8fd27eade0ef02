-- SPDX-License-Identifier: Apache-2.0
-- The bytes of the data, and the words of the text, one statement behind the other.
use Rattle.std.specs.Prelude.{ℕ, min, Option, Some, None, List, [], take, replicate}
use Rattle.std.specs.Int.{w64, to_le_bytes}
use Rattle.rv_table.specs.Instruction.{low_bits}
use Rattle.asm_text.specs.declared.statements.Statement.{Statement}
use Rattle.asm_text.specs.declared.statements.Statement.TheVariants as statement
use Rattle.asm_text.specs.declared.statements.Item.{Item}
use Rattle.asm_places.specs.declared.places.Place.{Place}
use Rattle.asm_places.specs.declared.targets.Target.{Target}
use Rattle.asm_places.specs.Laying.{laid, text_end}
use Rattle.asm_places.specs.Places.{first_place, natural, padding}
use Rattle.asm_places.specs.Targets.{target_of, target_at, targets_in, address_of, distance_to}
use Rattle.rv_asm.specs.Words.{words_of}

-- the low bytes of a number, the lowest first
abbrev pub low_bytes : ℕ → ℕ → List ℕ
low_bytes width n = take (min width 8) (to_le_bytes w64 n)

abbrev pub address_or : ℕ → Option Target → ℕ
address_or size None = 0
address_or size (Some t) = address_of size t

-- the bytes of a statement: a value, the address of a name, zeros, a string
unfoldable pub data_bytes : (ℕ → List ℕ → Option Target) → ℕ → Place → Statement → List ℕ
data_bytes find size place (statement.Value width value) = low_bytes width (low_bits 64 value)
data_bytes find size place (statement.Reference width name) = low_bytes width (address_or size (find 0 name))
data_bytes find size place (statement.Zero count) = replicate (natural count) 0
data_bytes find size place (statement.Ascii bytes) = bytes
data_bytes find size place (statement.Align to) = replicate (padding place.«data» (natural to)) 0
data_bytes find size place _ = []

-- the words of a statement at its place
unfoldable pub text_words : (ℕ → List ℕ → Option Target) → ℕ → Place → Statement → List ℕ
text_words find size place s = words_of (distance_to size place (target_of find place.functions s)) s

abbrev pub target_in : List Item → ℕ → List ℕ → Option Target
target_in items scope name = target_at (targets_in first_place items) (scope, name)

-- the data and the text of a source
abbrev pub data_of : List Item → List ℕ
data_of items = laid (data_bytes (target_in items) (text_end items)) first_place items

abbrev pub text_of : List Item → List ℕ
text_of items = laid (text_words (target_in items) (text_end items)) first_place items
