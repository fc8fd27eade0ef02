-- SPDX-License-Identifier: Apache-2.0
-- The instructions of all statements are in the ranges of their fields.
use Rattle.std.specs.Prelude.{◌≡◌, ℕ, ℤ, Option, Some, List, [], ◌∷◌, map}
use Rattle.rv_table.specs.Decoding.{decoded}
use Rattle.rv_table.specs.Instruction.{IsSigned, word_of}
use Rattle.asm_text.specs.declared.statements.Statement.{Statement}
use Rattle.asm_text.specs.declared.statements.Item.{Item}
use Rattle.asm_places.specs.declared.places.Place.{Place}
use Rattle.asm_places.specs.declared.targets.Target.{Target}
use Rattle.asm_places.specs.Places.{place_after}
use Rattle.asm_places.specs.Targets.{target_of, distance_to}
use Rattle.rv_asm.specs.Words.{AreInstrs, instrs_of}

-- the distance has 32 bits with a sign, and the statement's instructions at that distance are all in their ranges
pub record Fits (distance : ℤ) (s : Statement) : Type 0 where
  pub signed : IsSigned 31 distance
  pub instrs : AreInstrs (instrs_of distance s)

-- so it is with each statement at its place
unfoldable pub AllFit : (ℕ → List ℕ → Option Target) → ℕ → Place → List Item → Type 0
AllFit find size place [] = Unit {0}
AllFit find size place (item ∷ items) =
    Fits (distance_to size place (target_of find place.functions item.statement)) item.statement × AllFit find size (place_after place item.statement) items

-- the words of a statement's instructions decode to these, and so with each statement at its place
unfoldable pub AllDecode : (ℕ → List ℕ → Option Target) → ℕ → Place → List Item → Type 0
AllDecode find size place [] = Unit {0}
AllDecode find size place (item ∷ items) =
    let instrs = instrs_of (distance_to size place (target_of find place.functions item.statement)) item.statement in
    (map decoded (map word_of instrs) ≡ map Some instrs) × AllDecode find size (place_after place item.statement) items
