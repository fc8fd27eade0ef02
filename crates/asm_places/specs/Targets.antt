-- SPDX-License-Identifier: Apache-2.0
-- What names stand for, and how far it is.
use Rattle.std.specs.Prelude.{ℕ, ℤ, pos, ◌-ℤ◌, ◌+◌, ◌*◌, ◌/◌, ◌^◌, ◌||◌, Bool, true, false, Option, Some, None, List, [], ◌∷◌, option_map, if◌then◌else◌}
use Rattle.asm_text.specs.declared.statements.Statement.{Statement}
use Rattle.asm_text.specs.declared.statements.Statement.TheVariants as statement
use Rattle.asm_text.specs.declared.statements.Item.{Item}
use Rattle.asm_places.specs.declared.places.Place.{Place}
use Rattle.asm_places.specs.declared.targets.Target.{Target}
use Rattle.asm_words.specs.Tables.{first_of}
use Rattle.asm_places.specs.Places.{place_after, first_place}
use Rattle.asm_places.specs.Names.{key_of, same_key}
use Rattle.asm_places.specs.Ranges.{is_from}

abbrev pub is_function : Statement → Bool
is_function (statement.Function name) = true
is_function _ = false

-- what the name that a statement defines at a place stands for: the place in the text or in the data
abbrev pub target_here : Place → Statement → Target
target_here p s =
    record {
      function = is_function s;
      code = is_function s || p.inside;
      at = if is_function s || p.inside then p.text else p.«data»;
    }

-- a name of a scope, and what it stands for
abbrev pub defined_by : Place → Statement → Option ((ℕ × List ℕ) × Target)
defined_by p s = option_map (λ key. (key, target_here p s)) (key_of p.inside p.functions s)

abbrev pub targets_with : Option ((ℕ × List ℕ) × Target) → List ((ℕ × List ℕ) × Target) → List ((ℕ × List ℕ) × Target)
targets_with None targets = targets
targets_with (Some target) targets = target ∷ targets

-- all names from a place on
unfoldable pub targets_in : Place → List Item → List ((ℕ × List ℕ) × Target)
targets_in place [] = []
targets_in place (item ∷ items) = targets_with (defined_by place item.statement) (targets_in (place_after place item.statement) items)

abbrev pub target_if : (ℕ × List ℕ) × Target → ℕ × List ℕ → Option Target
target_if target key = if same_key target.0 key then Some target.1 else None

-- what a name stands for; where no name is defined twice there is one such
unfoldable pub target_at : List ((ℕ × List ℕ) × Target) → ℕ × List ℕ → Option Target
target_at [] key = None
target_at (target ∷ targets) key = first_of (target_at targets key) (target_if target key)

-- a label, or else a function
abbrev pub label_or_function : Option Target → Option Target → Option Target
label_or_function (Some t) other = Some t
label_or_function None None = None
label_or_function None (Some t) = if t.function then Some t else None

-- what a statement in the function of this number names
unfoldable pub target_of : (ℕ → List ℕ → Option Target) → ℕ → Statement → Option Target
target_of find number (statement.Branch op rs1 rs2 label) = find number label
target_of find number (statement.Jump rd target) = label_or_function (find number target) (find 0 target)
target_of find number (statement.Reference width name) = find 0 name
target_of find number (statement.Address rd name) = find 0 name
target_of find number (statement.Call name) = find 0 name
target_of find number (statement.Tail name) = find 0 name
target_of find number _ = None

-- the address of the data behind a text of this size: 0xf000 and the place in the file, which is the next multiple of
-- 0x1000 behind the text at 0x1000
abbrev pub data_start : ℕ → ℕ
data_start size = 0x10000 + (size + 4095) / 4096 * 4096

abbrev pub address_of : ℕ → Target → ℕ
address_of size t = if t.code then 0x10000 + t.at else data_start size + t.at

-- how far it is from a place of the text to what is named there
abbrev pub distance_to : ℕ → Place → Option Target → ℤ
distance_to size place None = pos 0
distance_to size place (Some t) = pos (address_of size t) -ℤ pos (0x10000 + place.text)

-- a branch reaches 13 bits far, with a sign, and JAL 21
unfoldable pub is_reached : ℤ → Statement → Bool
is_reached distance (statement.Branch op rs1 rs2 label) = is_from 4096 4096 distance
is_reached distance (statement.Jump rd target) = is_from (2 ^ 20) (2 ^ 20) distance
is_reached distance _ = true

-- the line of the first statement whose target is too far
unfoldable pub far_line : (ℕ → List ℕ → Option Target) → ℕ → Place → List Item → Option ℕ
far_line find size place [] = None
far_line find size place (item ∷ items) =
    if is_reached (distance_to size place (target_of find place.functions item.statement)) item.statement
    then far_line find size (place_after place item.statement) items
    else Some item.line

-- the place behind all items
unfoldable pub last_place : Place → List Item → Place
last_place place [] = place
last_place place (item ∷ items) = last_place (place_after place item.statement) items

-- the line of the first statement of a source whose target is too far
abbrev pub first_far : List Item → Option ℕ
first_far items = far_line (λ s q. target_at (targets_in first_place items) (s, q)) (last_place first_place items).text first_place items
