-- SPDX-License-Identifier: Apache-2.0
-- The marks of what refers to what (RISC-V psABI, "Relocations").
use Rattle.std.specs.Prelude.{ℕ, ◌+◌, ◌==◌, Bool, true, false, Option, Some, None, List, [], ◌∷◌, length, slice_get, option_map, if◌then◌else◌}
use Rattle.sh_types.specs.declared.symbols.Symbol.{Symbol}
use Rattle.asm_text.specs.declared.statements.Statement.{Statement}
use Rattle.asm_text.specs.declared.statements.Statement.TheVariants as statement
use Rattle.asm_text.specs.declared.statements.Item.{Item}
use Rattle.asm_places.specs.declared.places.Place.{Place}
use Rattle.sh_types.specs.declared.objects.Mark.{Mark}
use Rattle.asm_places.specs.Places.{first_place}
use Rattle.asm_places.specs.Symbols.{counted, named_symbols, outer_symbols, number_in, la_name, las_in}

abbrev pub mark : Bool → ℕ → ℕ → ℕ → Mark
mark in_text at kind symbol = record { in_text = in_text; at = at; kind = kind; symbol = symbol }

abbrev pub number_or : Option ℕ → ℕ
number_or None = 0
number_or (Some n) = n

-- `jal` and `j` name a label of their function, or else a function
abbrev pub label_or : Option ℕ → Option ℕ → ℕ
label_or (Some n) other = n
label_or None other = number_or other

-- `.word` or `.quad`
abbrev pub reference_kind : ℕ → ℕ
reference_kind width = if width == 4 then 1 else 2

-- the marks of a statement; of the labels of functions and `.La` labels the next has this number
unfoldable pub marks_at : (ℕ → List ℕ → Option ℕ) → ℕ → ℕ → Place → Statement → List Mark
marks_at find first next p (statement.Branch op rs1 rs2 label) = mark true p.text 16 (number_or (find p.functions label)) ∷ []
marks_at find first next p (statement.Jump rd target) = mark true p.text 17 (label_or (find p.functions target) (find 0 target)) ∷ []
marks_at find first next p (statement.Call name) = mark true p.text 19 (number_or (find 0 name)) ∷ []
marks_at find first next p (statement.Tail name) = mark true p.text 19 (number_or (find 0 name)) ∷ []
marks_at find first next p (statement.Address rd name) = mark true p.text 23 (number_or (find 0 name)) ∷ mark true (p.text + 4) 24 (first + next) ∷ []
marks_at find first next p (statement.Reference width name) = mark false p.«data» (reference_kind width) (number_or (find 0 name)) ∷ []
marks_at find first next p _ = []

-- how many labels of functions and `.La` labels the statement gives
unfoldable pub inner_in : Place → Statement → ℕ
inner_in p (statement.Label name) = if p.inside then 1 else 0
inner_in p (statement.Address rd name) = 1
inner_in p _ = 0

-- the marks in source order; the first label of a function or `.La` label stands behind the null symbol, the functions
-- and the labels of the data
abbrev pub marks_of : List Item → List Mark
marks_of items = counted (marks_at (number_in (named_symbols items)) (length (outer_symbols items) + 1)) inner_in 0 first_place items

-- ---- what they name

-- the names of the symbols of a statement's marks, behind so many `.La` labels
unfoldable pub names_at : ℕ → Place → Statement → List (List ℕ)
names_at las p (statement.Branch op rs1 rs2 label) = label ∷ []
names_at las p (statement.Jump rd target) = target ∷ []
names_at las p (statement.Call name) = name ∷ []
names_at las p (statement.Tail name) = name ∷ []
names_at las p (statement.Address rd name) = name ∷ la_name las ∷ []
names_at las p (statement.Reference width name) = name ∷ []
names_at las p _ = []

-- the names that the marks of a source name, in source order: those that stand in the statements, and the `.La` labels
abbrev pub marked_names : List Item → List (List ℕ)
marked_names items = counted names_at las_in 0 first_place items

-- the name of the symbol of this number, where there is one
abbrev pub name_of_symbol : List Symbol → ℕ → Option (List ℕ)
name_of_symbol symbols number = option_map (λ (s : Symbol). s.name) (slice_get symbols number)
