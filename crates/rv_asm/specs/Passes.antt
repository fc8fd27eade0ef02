-- SPDX-License-Identifier: Apache-2.0
-- The first fault of a source, of those that a statement shows by itself, by its place, or by a name that is taken.
use Rattle.std.specs.Prelude.{ℕ, ◌+◌, ◌-◌, ◌==◌, ◌&&◌, not, nat_le, Bool, false, Option, Some, None, List, [], ◌∷◌, length, slice_index, count_by, option_map, if◌then◌else◌}
use Rattle.asm_text.specs.declared.statements.Statement.{Statement}
use Rattle.asm_text.specs.declared.statements.Statement.TheVariants as statement
use Rattle.asm_text.specs.declared.statements.Item.{Item}
use Rattle.asm_text.specs.declared.faults.AsmRule.{AsmRule}
use Rattle.asm_text.specs.declared.faults.AsmRule.TheVariants.{Entry, Form, Name, Open, Range, Twice}
use Rattle.asm_text.specs.declared.faults.LineFault.{LineFault}
use Rattle.asm_text.specs.Source.{Read, fault, source_of}
use Rattle.asm_places.specs.Names.{entry_twice_line, name_twice_line, first_unknown, functions_in, is_taken}
use Rattle.asm_places.specs.Places.{misplaced_line, is_open, first_place}
use Rattle.asm_places.specs.Ranges.{range_line}
use Rattle.asm_places.specs.Targets.{first_far}

-- the lower of two lines
abbrev pub lower_line : Option ℕ → Option ℕ → Option ℕ
lower_line None b = b
lower_line (Some a) None = Some a
lower_line (Some a) (Some b) = if nat_le a b then Some a else Some b

-- the fault of the lower line; on one line the first of the two
abbrev pub earlier : Option LineFault → Option LineFault → Option LineFault
earlier None b = b
earlier (Some a) None = Some a
earlier (Some a) (Some b) = if nat_le a.line b.line then Some a else Some b

-- the first that there is
abbrev pub else_fault : Option LineFault → Option LineFault → Option LineFault
else_fault None b = b
else_fault (Some a) b = Some a

abbrev pub at_line : AsmRule → Option ℕ → Option LineFault
at_line rule line = option_map (λ l. fault l rule) line

-- The first line with a fault of Text, Form or Twice, and on it the first of these. The items end before a line that
-- has a fault of Text or Form by itself.
unfoldable pub first_pass : Read → Option LineFault
first_pass source =
    else_fault
    (earlier (at_line Form (misplaced_line false source.items))
    (at_line Twice (lower_line (entry_twice_line false source.items) (name_twice_line false 0 [] source.items))))
    source.fault

-- The first line with a fault of Name or Range, distances apart, and on it the first of these.
abbrev pub second_pass : List Item → Option LineFault
second_pass items = earlier (at_line Name (first_unknown items)) (at_line Range (range_line first_place items))

-- the name of the first `.entry`
abbrev pub entry_or : Statement → Option (List ℕ) → Option (List ℕ)
entry_or (statement.Entry name) others = Some name
entry_or _ others = others

unfoldable pub entry_of : List Item → Option (List ℕ)
entry_of [] = None
entry_of (item ∷ items) = entry_or item.statement (entry_of items)

-- the name is one of a function
abbrev pub is_function_name : List (ℕ × List ℕ) → Option (List ℕ) → Bool
is_function_name functions None = false
is_function_name functions (Some name) = is_taken functions (0, name)

-- at the end, a function that is open, or no entry
abbrev pub final_pass : ℕ → List Item → Option LineFault
final_pass line items =
    if is_open false items then Some (fault line Open)
    else (if is_function_name (functions_in items) (entry_of items) then None else Some (fault line Entry))

-- the number of the last line: a line feed at the very end begins no further line
unfoldable pub last_line : List ℕ → ℕ
last_line text = count_by (λ c. c == 10) text + (if not (length text == 0) && (slice_index text (length text - 1) == 10) then 0 else 1)

-- the first fault of a source: pass by pass
unfoldable pub fault_of : List ℕ → Option LineFault
fault_of text =
    let items = (source_of text).items in
    else_fault (first_pass (source_of text)) (
    else_fault (second_pass items) (
    else_fault (at_line Range (first_far items)) (final_pass (last_line text) items)))
