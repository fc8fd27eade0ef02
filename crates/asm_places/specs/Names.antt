-- SPDX-License-Identifier: Apache-2.0
-- Names and their scopes.
use Rattle.std.specs.Prelude.{ℕ, ◌+◌, ◌==◌, ◌&&◌, ◌||◌, Bool, true, false, Option, Some, None, List, [], ◌∷◌, if◌then◌else◌}
use Rattle.std.specs.Str.{bytes_eq}
use Rattle.std.specs.List.{list_any}
use Rattle.asm_text.specs.declared.statements.Statement.{Statement}
use Rattle.asm_text.specs.declared.statements.Statement.TheVariants as statement
use Rattle.asm_text.specs.declared.statements.Item.{Item}
use Rattle.asm_places.specs.Places.{begins, is_inside_after}

abbrev pub is_entry : Statement → Bool
is_entry (statement.Entry name) = true
is_entry _ = false

-- the line of the second `.entry`
unfoldable pub entry_twice_line : Bool → List Item → Option ℕ
entry_twice_line seen [] = None
entry_twice_line seen (item ∷ items) =
    if seen && is_entry item.statement then Some item.line else entry_twice_line (seen || is_entry item.statement) items

-- What a statement names, behind so many functions: its scope and the name. Functions and the labels of the data have
-- scope 0, the labels of a function its number, from 1 on.
unfoldable pub key_of : Bool → ℕ → Statement → Option (ℕ × List ℕ)
key_of inside functions (statement.Function name) = Some (0, name)
key_of inside functions (statement.Label name) = Some ((if inside then functions else 0), name)
key_of inside functions _ = None

abbrev pub same_key : ℕ × List ℕ → ℕ × List ℕ → Bool
same_key a b = (a.0 == b.0) && bytes_eq a.1 b.1

-- the name is taken in its scope
unfoldable pub is_taken : List (ℕ × List ℕ) → ℕ × List ℕ → Bool
is_taken keys key = list_any (λ k. same_key k key) keys

abbrev pub is_taken_by : List (ℕ × List ℕ) → Option (ℕ × List ℕ) → Bool
is_taken_by keys None = false
is_taken_by keys (Some key) = is_taken keys key

abbrev pub keys_with : Option (ℕ × List ℕ) → List (ℕ × List ℕ) → List (ℕ × List ℕ)
keys_with None keys = keys
keys_with (Some key) keys = key ∷ keys

-- the line of the first name that is taken
unfoldable pub name_twice_line : Bool → ℕ → List (ℕ × List ℕ) → List Item → Option ℕ
name_twice_line inside functions keys [] = None
name_twice_line inside functions keys (item ∷ items) =
    if is_taken_by keys (key_of inside functions item.statement) then Some item.line
    else name_twice_line (is_inside_after inside item.statement) (functions + begins item.statement) (keys_with (key_of inside functions item.statement) keys) items

-- ---- names that are not defined

-- all names that the items define, behind so many functions
unfoldable pub keys_in : Bool → ℕ → List Item → List (ℕ × List ℕ)
keys_in inside functions [] = []
keys_in inside functions (item ∷ items) =
    keys_with (key_of inside functions item.statement) (keys_in (is_inside_after inside item.statement) (functions + begins item.statement) items)

-- the function that a statement begins
unfoldable pub function_key : Statement → Option (ℕ × List ℕ)
function_key (statement.Function name) = Some (0, name)
function_key _ = None

-- all functions
unfoldable pub functions_in : List Item → List (ℕ × List ℕ)
functions_in [] = []
functions_in (item ∷ items) = keys_with (function_key item.statement) (functions_in items)

-- What a statement in the function of this number names is there, by what the names and the functions have: a branch
-- names a label of its function, `jal` and `j` such a label or a function, all else a function or a label of the data.
unfoldable pub is_known : (ℕ → List ℕ → Bool) → (ℕ → List ℕ → Bool) → ℕ → Statement → Bool
is_known names functions number (statement.Branch op rs1 rs2 label) = names number label
is_known names functions number (statement.Jump rd target) = names number target || functions 0 target
is_known names functions number (statement.Reference width name) = names 0 name
is_known names functions number (statement.Address rd name) = names 0 name
is_known names functions number (statement.Call name) = names 0 name
is_known names functions number (statement.Tail name) = names 0 name
is_known names functions number _ = true

-- the line of the first statement that names what is not there
unfoldable pub unknown_line : (ℕ → List ℕ → Bool) → (ℕ → List ℕ → Bool) → ℕ → List Item → Option ℕ
unknown_line names functions number [] = None
unknown_line names functions number (item ∷ items) =
    if is_known names functions number item.statement
    then unknown_line names functions (number + begins item.statement) items
    else Some item.line

-- the line of the first statement of a source that names what is not there
abbrev pub first_unknown : List Item → Option ℕ
first_unknown items = unknown_line (λ s q. is_taken (keys_in false 0 items) (s, q)) (λ s q. is_taken (functions_in items) (s, q)) 0 items
