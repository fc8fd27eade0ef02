-- SPDX-License-Identifier: Apache-2.0
-- The functions of a source, and what refers to what.
use Rattle.std.specs.Prelude.{ℕ, ◌+◌, ◌-◌, Option, Some, None, List, [], ◌∷◌, ◌++◌}
use Rattle.sh_types.specs.declared.code.Function.{Function}
use Rattle.asm_text.specs.declared.statements.Statement.{Statement}
use Rattle.asm_text.specs.declared.statements.Statement.TheVariants as statement
use Rattle.asm_text.specs.declared.statements.Item.{Item}
use Rattle.asm_places.specs.declared.places.Place.{Place}
use Rattle.asm_places.specs.Places.{place_after, first_place}

-- the function that ends with a statement, where it began
abbrev pub ended : Option (List ℕ × ℕ) → Place → Statement → List Function
ended (Some begun) place statement.EndFunction = record { home = 0x10000 + begun.1; size = place.text - begun.1; name = begun.0 } ∷ []
ended _ place _ = []

-- the name of the function that is open behind a statement, and its offset in the text
abbrev pub open_after : Option (List ℕ × ℕ) → Place → Statement → Option (List ℕ × ℕ)
open_after begun place (statement.Function name) = Some (name, place.text)
open_after begun place statement.EndFunction = None
open_after begun place _ = begun

-- the functions that end from a place on, where this one is open
unfoldable pub functions_from : Option (List ℕ × ℕ) → Place → List Item → List Function
functions_from begun place [] = []
functions_from begun place (item ∷ items) = ended begun place item.statement ++ functions_from (open_after begun place item.statement) (place_after place item.statement) items

abbrev pub functions_of : List Item → List Function
functions_of items = functions_from None first_place items
