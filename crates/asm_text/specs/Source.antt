-- SPDX-License-Identifier: Apache-2.0
-- The statements of a text, line by line, up to the first line that has a fault by itself.
use Rattle.std.specs.Prelude.{ℕ, ◌+◌, ◌==◌, Bool, false, Option, Some, None, List, [], ◌∷◌, ◌++◌, if◌then◌else◌}
use Rattle.std.specs.List.{list_any}
use Rattle.asm_text.specs.declared.lines.Quote.{Quote}
use Rattle.asm_text.specs.declared.lines.Quote.TheVariants.{Outside, Inside, Escaped}
use Rattle.asm_text.specs.declared.statements.Statement.{Statement}
use Rattle.asm_text.specs.declared.statements.Item.{Item}
use Rattle.asm_text.specs.declared.faults.AsmRule.{AsmRule}
use Rattle.asm_text.specs.declared.faults.AsmRule.TheVariants as rule
use Rattle.asm_text.specs.declared.faults.LineFault.{LineFault}
use Rattle.asm_words.specs.Characters.{is_foreign}
use Rattle.asm_words.specs.Numbers.{◌>>=◌}
use Rattle.asm_text.specs.Statements.{parts, in_front, statement_of}
use Rattle.asm_text.specs.Reading.{extended}

-- where the next character stands, behind this one
abbrev pub next : Quote → ℕ → Quote
next Outside c = if c == 34 then Inside else Outside
next Inside c = if c == 34 then Outside else (if c == 92 then Escaped else Inside)
next Escaped c = Inside

-- outside a string `;` ends a statement, and `#` begins a comment
abbrev pub is_end : Quote → ℕ → Bool
is_end Outside c = c == 59
is_end _ c = false

abbrev pub is_comment : Quote → ℕ → Bool
is_comment Outside c = c == 35
is_comment _ c = false

-- the texts of the statements of a line
unfoldable pub pieces : Quote → List ℕ → List (List ℕ)
pieces quote [] = [] ∷ []
pieces quote (c ∷ cs) =
    if is_comment quote c then [] ∷ []
    else (if is_end quote c then [] ∷ pieces Outside cs else in_front c (pieces (next quote c) cs))

-- the statements of the texts, one behind the other
unfoldable pub statements_in : List (List ℕ) → Option (List Statement)
statements_in [] = Some []
statements_in (piece ∷ others) = do
  first ← statement_of piece
  rest ← statements_in others
  Some (first ++ rest)

unfoldable pub line_of : List ℕ → Option (List Statement)
line_of line = statements_in (pieces Outside line)

-- the items of a source, and the first line with a fault of Text or Form by itself
pub record Read : Type 0 where
  pub items : List Item
  pub fault : Option LineFault

abbrev pub read : List Item → Option LineFault → Read
read items fault = record { items = items; fault = fault }

abbrev pub fault : ℕ → AsmRule → LineFault
fault line rule = record { line = line; rule = rule }

-- what follows a line that gave these items
abbrev pub behind_line : Option (List Item) → List Item → ℕ → (List Item → Read) → Read
behind_line None items line go = read items (Some (fault line rule.Form))
behind_line (Some more) items line go = go more

-- the lines behind these items, from this number on
unfoldable pub read_lines : List Item → ℕ → List (List ℕ) → Read
read_lines items line [] = read items None
read_lines items line (text ∷ others) =
    if list_any is_foreign text then read items (Some (fault line rule.Text))
    else behind_line (extended items line (line_of text)) items line (λ more. read_lines more (line + 1) others)

unfoldable pub source_of : List ℕ → Read
source_of text = read_lines [] 1 (parts (λ c. c == 10) text)
