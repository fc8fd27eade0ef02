-- SPDX-License-Identifier: Apache-2.0
-- What the check of a source answers.
use Rattle.std.specs.Prelude.{◌≡◌, true, false, Option, Some, None, Result, Ok, Err, List, []}
use Rattle.asm_text.specs.declared.statements.Item.{Item}
use Rattle.asm_text.specs.declared.faults.AsmFault.{AsmFault}
use Rattle.asm_text.specs.declared.faults.AsmFault.TheVariants as refusal
use Rattle.asm_text.specs.declared.faults.LineFault.{LineFault}
use Rattle.asm_places.specs.Names.{entry_twice_line, name_twice_line, first_unknown, functions_in}
use Rattle.asm_places.specs.Places.{misplaced_line, is_open, first_place}
use Rattle.asm_places.specs.Ranges.{range_line}
use Rattle.asm_places.specs.Targets.{first_far}
use Rattle.rv_asm.specs.Formed.{AreFormed}
use Rattle.rv_asm.specs.Passes.{entry_of, is_function_name}

abbrev pub refused_of : LineFault → AsmFault
refused_of f = refusal.Line f.line f.rule

-- a fault is answered where there is one, else the items; memory may be refused
abbrev pub Checks : Result (List Item) AsmFault → Option LineFault → List Item → Type 0
Checks (Ok items) None all = items ≡ all
Checks (Ok items) (Some f) all = ⊥
Checks (Err refusal.NoMemory) found all = Unit {0}
Checks (Err (refusal.Line line rule)) found all = found ≡ Some (record { line = line; rule = rule })

-- The items of a source that has no fault: each statement has the operands of its form and is in its place, no name
-- stands twice and each is known, all operands are in range and all targets near enough, each function ends, and the
-- entry is one.
pub record IsChecked (items : List Item) : Type 0 where
  pub formed : AreFormed items
  pub placed : misplaced_line false items ≡ None
  pub entry_once : entry_twice_line false items ≡ None
  pub names_once : name_twice_line false 0 [] items ≡ None
  pub known : first_unknown items ≡ None
  pub range : range_line first_place items ≡ None
  pub near : first_far items ≡ None
  pub closed : is_open false items ≡ false
  pub entry : is_function_name (functions_in items) (entry_of items) ≡ true
