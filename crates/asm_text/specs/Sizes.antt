-- SPDX-License-Identifier: Apache-2.0
-- How many bytes of a text its statements take at least.
use Rattle.std.specs.Prelude.{ℕ, ◌+◌, List, [], ◌∷◌, length}
use Rattle.asm_text.specs.declared.statements.Statement.{Statement}
use Rattle.asm_text.specs.declared.statements.Statement.TheVariants as statement
use Rattle.asm_text.specs.declared.statements.Item.{Item}

-- the bytes of the name that a statement defines
abbrev pub defined_size : Statement → ℕ
defined_size (statement.Label name) = length name
defined_size (statement.Function name) = length name
defined_size _ = 0

-- the bytes of all names that are defined, and one more for each statement
unfoldable pub items_size : List Item → ℕ
items_size [] = 0
items_size (item ∷ items) = defined_size item.statement + 1 + items_size items
