-- SPDX-License-Identifier: Apache-2.0
-- What no fault of a source says of its items.
use Rattle.std.proofs.Common.{◌≡◌, ℕ, Bool, true, false, List, [], refl, sym, subst}
use Rattle.std.specs.Prelude.{nat_le, Option, Some, None, Ok, if◌then◌else◌}
use Rattle.asm_text.specs.declared.statements.Item.{Item}
use Rattle.asm_text.specs.declared.faults.AsmRule.{AsmRule}
use Rattle.asm_text.specs.declared.faults.AsmRule.TheVariants.{Entry, Form, Name, Open, Range, Twice}
use Rattle.asm_text.specs.declared.faults.LineFault.{LineFault}
use Rattle.asm_text.specs.Source.{Read, fault, source_of}
use Rattle.asm_places.specs.Names.{entry_twice_line, name_twice_line, first_unknown, functions_in}
use Rattle.asm_places.specs.Places.{misplaced_line, is_open, first_place}
use Rattle.asm_places.specs.Ranges.{range_line}
use Rattle.asm_places.specs.Targets.{first_far}
use Rattle.rv_asm.specs.Checking.{Checks, IsChecked}
use Rattle.rv_asm.specs.Passes.{lower_line, earlier, else_fault, at_line, first_pass, second_pass, entry_of, is_function_name, final_pass, last_line, fault_of}
use Rattle.rv_asm.proofs.Forming.{source_good}

no_fault : (a b : Option LineFault) → else_fault a b ≡ None → (a ≡ None) × (b ≡ None)
no_fault None b e = (refl, e)
no_fault (Some a) b e = (cc, cc)

not_chosen : (t : Bool) (a b : LineFault) → (if t then Some a else Some b) ≡ None → (Some a ≡ None) × (Some b ≡ None)
not_chosen true a b e = (cc, cc)
not_chosen false a b e = (cc, cc)

none_earlier : (a b : Option LineFault) → earlier a b ≡ None → (a ≡ None) × (b ≡ None)
none_earlier None b e = (refl, e)
none_earlier (Some a) None e = (cc, refl)
none_earlier (Some a) (Some b) e = not_chosen (nat_le a.line b.line) a b e

no_line_chosen : (t : Bool) (a b : ℕ) → (if t then Some a else Some b) ≡ None → (Some a ≡ None) × (Some b ≡ None)
no_line_chosen true a b e = (cc, cc)
no_line_chosen false a b e = (cc, cc)

none_lower : (a b : Option ℕ) → lower_line a b ≡ None → (a ≡ None) × (b ≡ None)
none_lower None b e = (refl, e)
none_lower (Some a) None e = (cc, refl)
none_lower (Some a) (Some b) e = no_line_chosen (nat_le a b) a b e

no_line : (rule : AsmRule) (line : Option ℕ) → at_line rule line ≡ None → line ≡ None
no_line rule None e = refl
no_line rule (Some l) e = cc

ended : (unended there : Bool) (a b : LineFault) → (if unended then Some a else (if there then None else Some b)) ≡ None → (unended ≡ false) × (there ≡ true)
ended true there a b e = (cc, cc)
ended false true a b e = (refl, refl)
ended false false a b e = (cc, cc)

first_passed : (source : Read) → first_pass source ≡ None
    → (misplaced_line false source.items ≡ None) × (entry_twice_line false source.items ≡ None) × (name_twice_line false 0 [] source.items ≡ None)
unfolding first_pass
first_passed source e =
    let twice = lower_line (entry_twice_line false source.items) (name_twice_line false 0 [] source.items) in
    let misplaced = misplaced_line false source.items in
    let both = none_earlier (at_line Form misplaced) (at_line Twice twice) (no_fault (earlier (at_line Form misplaced) (at_line Twice twice)) source.fault e).0 in
    let once = none_lower (entry_twice_line false source.items) (name_twice_line false 0 [] source.items) (no_line Twice twice both.1) in
    (no_line Form misplaced both.0, once.0, once.1)

answered : (items : List Item) (found : Option LineFault) (all : List Item) → Checks (Ok items) found all → (found ≡ None) × (items ≡ all)
answered items None all h = (refl, h)
answered items (Some f) all h = absurd h

passed : (text : List ℕ) → fault_of text ≡ None → IsChecked (source_of text).items
unfolding fault_of
passed text e =
    let source = source_of text in
    let items = source.items in
    let last = final_pass (last_line text) items in
    let far = at_line Range (first_far items) in
    let one = no_fault (first_pass source) (else_fault (second_pass items) (else_fault far last)) e in
    let two = no_fault (second_pass items) (else_fault far last) one.1 in
    let three = no_fault far last two.1 in
    let first = first_passed source one.0 in
    let second = none_earlier (at_line Name (first_unknown items)) (at_line Range (range_line first_place items)) two.0 in
    let end = ended (is_open false items) (is_function_name (functions_in items) (entry_of items)) (fault (last_line text) Open) (fault (last_line text) Entry) three.1 in
    record {
      formed = source_good text;
      placed = first.0;
      entry_once = first.1;
      names_once = first.2;
      known = no_line Name (first_unknown items) second.0;
      range = no_line Range (range_line first_place items) second.1;
      near = no_line Range (first_far items) three.0;
      closed = end.0;
      entry = end.1;
    }

pub is_checked : (text : List ℕ) (items : List Item) → Checks (Ok items) (fault_of text) (source_of text).items → IsChecked items
is_checked text items h =
    let parts = answered items (fault_of text) (source_of text).items h in
    subst (λ (is : List Item). IsChecked is) (sym parts.1) (passed text parts.0)
