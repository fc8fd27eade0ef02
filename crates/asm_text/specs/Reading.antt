-- SPDX-License-Identifier: Apache-2.0
-- What functions return that add the statements of a line and may be refused memory.
use Rattle.std.specs.Prelude.{◌≡◌, ℕ, Option, Some, Result, Ok, Err, List, [], ◌++◌, map, option_map}
use Rattle.asm_words.specs.declared.faults.Unread.{Unread}
use Rattle.asm_words.specs.Results.{Fails}
use Rattle.asm_text.specs.declared.statements.Statement.{Statement}
use Rattle.asm_text.specs.declared.statements.Item.{Item}

abbrev pub item : ℕ → Statement → Item
item line s = record { line = line; statement = s }

-- the items, and behind them the statements of a line
unfoldable pub extended : List Item → ℕ → Option (List Statement) → Option (List Item)
extended items line statements = option_map (λ (ss : List Statement). items ++ map (item line) ss) statements

-- what a function that adds the statements of a line to the items did
abbrev pub Grows : {U : Type 0} → List Item → List Item → ℕ → Result U Unread → Option (List Statement) → Type 0
Grows old new line (Ok _) statements = extended old line statements ≡ Some new
Grows old new line (Err e) statements = Fails e statements

-- what was returned, seen by view, is the items of a line's statements, unless memory was refused
abbrev pub GivesItems : {V : Type 0} → (V → List Item) → ℕ → Result V Unread → Option (List Statement) → Type 0
GivesItems view line (Ok v) statements = extended [] line statements ≡ Some (view v)
GivesItems view line (Err e) statements = Fails e statements
