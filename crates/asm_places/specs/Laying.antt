-- SPDX-License-Identifier: Apache-2.0
-- What statements give at their places, one behind the other, and the size of the text.
use Rattle.std.specs.Prelude.{ℕ, List, [], ◌∷◌, ◌++◌}
use Rattle.asm_text.specs.declared.statements.Statement.{Statement}
use Rattle.asm_text.specs.declared.statements.Item.{Item}
use Rattle.asm_places.specs.declared.places.Place.{Place}
use Rattle.asm_places.specs.Places.{place_after, first_place}
use Rattle.asm_places.specs.Targets.{last_place}

-- what the statements give at their places, one behind the other
unfoldable pub laid : {A : Type 0} → (Place → Statement → List A) → Place → List Item → List A
laid give place [] = []
laid give place (item ∷ items) = give place item.statement ++ laid give (place_after place item.statement) items

-- the size of the text
abbrev pub text_end : List Item → ℕ
text_end items = (last_place first_place items).text
