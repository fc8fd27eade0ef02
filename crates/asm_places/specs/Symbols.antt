-- SPDX-License-Identifier: Apache-2.0
-- The symbols of the file that a source becomes, and their numbers (System V gABI, "Symbol Table").
use Rattle.std.specs.Prelude.{ℕ, ◌+◌, Bool, false, Option, Some, None, List, [], ◌∷◌, ◌++◌, map, codes, decimal, if◌then◌else◌}
use Rattle.sh_types.specs.declared.code.Function.{Function}
use Rattle.sh_types.specs.declared.symbols.Symbol.{Symbol}
use Rattle.asm_words.specs.Tables.{first_of}
use Rattle.asm_text.specs.declared.statements.Statement.{Statement}
use Rattle.asm_text.specs.declared.statements.Statement.TheVariants as statement
use Rattle.asm_text.specs.declared.statements.Item.{Item}
use Rattle.asm_places.specs.declared.places.Place.{Place}
use Rattle.asm_places.specs.Places.{place_after, first_place}
use Rattle.asm_places.specs.Names.{same_key}
use Rattle.asm_places.specs.Targets.{data_start}
use Rattle.asm_places.specs.declared.symbols.Scoped.{Scoped}
use Rattle.asm_places.specs.Laying.{laid, text_end}
use Rattle.asm_places.specs.Functions.{functions_of}

abbrev pub symbol : List ℕ → ℕ → ℕ → ℕ → ℕ → Symbol
symbol name kind section value size = record { name = name; kind = kind; section = section; value = value; size = size }

abbrev pub scoped : Option ℕ → Symbol → Scoped
scoped scope s = record { scope = scope; symbol = s }

-- what the statements give at their places, one behind the other, by how many of something stand before
unfoldable pub counted : {A : Type 0} → (ℕ → Place → Statement → List A) → (Place → Statement → ℕ) → ℕ → Place → List Item → List A
counted give count n place [] = []
counted give count n place (item ∷ items) = give n place item.statement ++ counted give count (n + count place item.statement) (place_after place item.statement) items

abbrev pub function_symbol : Function → Scoped
function_symbol f = scoped (Some 0) (symbol f.name 2 1 f.home f.size)

-- a label of the data, behind a text of this size
unfoldable pub data_label : ℕ → Place → Statement → List Scoped
data_label size p (statement.Label name) = if p.inside then [] else scoped (Some 0) (symbol name 1 2 (data_start size + p.«data») 0) ∷ []
data_label size p _ = []

abbrev pub la_name : ℕ → List ℕ
la_name n = codes ".La" ++ decimal n

-- a label of a function, or the `.La` label of this number
unfoldable pub inner_symbol : ℕ → Place → Statement → List Scoped
inner_symbol las p (statement.Label name) = if p.inside then scoped (Some p.functions) (symbol name 0 1 (0x10000 + p.text) 0) ∷ [] else []
inner_symbol las p (statement.Address rd name) = scoped None (symbol (la_name las) 0 1 (0x10000 + p.text) 0) ∷ []
inner_symbol las p _ = []

-- how many `.La` labels the statement gives
unfoldable pub las_in : Place → Statement → ℕ
las_in p (statement.Address rd name) = 1
las_in p _ = 0

-- functions, and then the labels of the data
abbrev pub outer_symbols : List Item → List Scoped
outer_symbols items = map function_symbol (functions_of items) ++ laid (data_label (text_end items)) first_place items

abbrev pub inner_symbols : List Item → List Scoped
inner_symbols items = counted inner_symbol las_in 0 first_place items

-- all symbols but the null symbol: functions, labels of the data, and then the labels of functions and `.La` labels
abbrev pub named_symbols : List Item → List Scoped
named_symbols items = outer_symbols items ++ inner_symbols items

abbrev pub null_symbol : Symbol
null_symbol = symbol [] 0 0 0 0

abbrev pub symbol_of : Scoped → Symbol
symbol_of s = s.symbol

-- the symbols in the order of the file
abbrev pub symbols_of : List Item → List Symbol
symbols_of items = null_symbol ∷ map symbol_of (named_symbols items)

-- ---- their numbers

abbrev pub is_named : Option ℕ → List ℕ → ℕ × List ℕ → Bool
is_named None name key = false
is_named (Some scope) name key = same_key (scope, name) key

abbrev pub number_if : ℕ → Scoped → ℕ × List ℕ → Option ℕ
number_if n s key = if is_named s.scope s.symbol.name key then Some n else None

-- the number of the symbol of a name in its scope, where the first has this number; where no name is defined twice there
-- is one such
unfoldable pub number_at : ℕ → List Scoped → ℕ × List ℕ → Option ℕ
number_at n [] key = None
number_at n (s ∷ symbols) key = first_of (number_at (n + 1) symbols key) (number_if n s key)

abbrev pub number_in : List Scoped → ℕ → List ℕ → Option ℕ
number_in symbols scope name = number_at 1 symbols (scope, name)
