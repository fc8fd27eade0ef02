-- SPDX-License-Identifier: Apache-2.0
-- Where a loop stands that goes over statements in range.
use Rattle.std.proofs.Common.{◌≡◌, ℕ, ◌+◌, ◌<◌, ◌≤◌, Bool, true, false, List, [], ◌∷◌, length, get_or, drop, refl, sym, ap, ◌∙◌}
use Rattle.std.specs.Prelude.{Option, Some, None, if◌then◌else◌}
use Rattle.std.proofs.lemmas.List.{at_drop_more, at_drop_all}
use Rattle.asm_text.specs.declared.statements.Item.{Item}
use Rattle.asm_places.specs.declared.places.Place.{Place}
use Rattle.asm_places.specs.Places.{place_after}
use Rattle.asm_places.specs.Ranges.{is_in_range, is_past, range_line}
use Rattle.asm_places.specs.Targets.{last_place}

parts : (r p : Bool) (line : ℕ) (rest : Option ℕ) → (if r then (if p then Some line else rest) else Some line) ≡ None → (r ≡ true) × (p ≡ false) × (rest ≡ None)
parts true true line rest e = (cc, cc, cc)
parts true false line rest e = (refl, refl, e)
parts false p line rest e = (cc, cc, cc)

pub all_fine : (place : Place) (item : Item) (items : List Item) → range_line place (item ∷ items) ≡ None
    → (is_in_range item.statement ≡ true) × (is_past (place_after place item.statement) ≡ false) × (range_line (place_after place item.statement) items ≡ None)
unfolding range_line
all_fine place item items e = parts (is_in_range item.statement) (is_past (place_after place item.statement)) item.line (range_line (place_after place item.statement) items) e

here : (place : Place) (items : List Item) (i : ℕ) (item : Item) → i < length items → item ≡ get_or items i item → range_line place (drop i items) ≡ None → range_line place (item ∷ drop (i + 1) items) ≡ None
here place items i item lt same e = sym (at_drop_more (range_line place) items i item lt ∙ ap (λ (x : Item). range_line place (x ∷ drop (i + 1) items)) (sym same)) ∙ e

pub is_fine : (place : Place) (items : List Item) (i : ℕ) (item : Item) → i < length items → item ≡ get_or items i item → range_line place (drop i items) ≡ None → is_in_range item.statement ≡ true
is_fine place items i item lt same e = (all_fine place item (drop (i + 1) items) (here place items i item lt same e)).0

pub not_past : (place : Place) (items : List Item) (i : ℕ) (item : Item) → i < length items → item ≡ get_or items i item → range_line place (drop i items) ≡ None → is_past (place_after place item.statement) ≡ false
not_past place items i item lt same e = (all_fine place item (drop (i + 1) items) (here place items i item lt same e)).1

pub stays_fine : (place next : Place) (items : List Item) (i : ℕ) (item : Item) → i < length items → item ≡ get_or items i item → next ≡ place_after place item.statement
    → range_line place (drop i items) ≡ None → range_line next (drop (i + 1) items) ≡ None
stays_fine place next items i item lt same n e =
    ap (λ (p : Place). range_line p (drop (i + 1) items)) n ∙ (all_fine place item (drop (i + 1) items) (here place items i item lt same e)).2

last_more : (place : Place) (item : Item) (items : List Item) → last_place place (item ∷ items) ≡ last_place (place_after place item.statement) items
unfolding last_place
last_more place item items = refl

last_none : (place : Place) → last_place place [] ≡ place
unfolding last_place
last_none place = refl

pub last_goes_on : (place next : Place) (items : List Item) (i : ℕ) (item : Item) (total : Place) → i < length items → item ≡ get_or items i item → next ≡ place_after place item.statement
    → last_place place (drop i items) ≡ total → last_place next (drop (i + 1) items) ≡ total
last_goes_on place next items i item total lt same n e =
    let rest = drop (i + 1) items in
    ap (λ (p : Place). last_place p rest) n
    ∙ sym (at_drop_more (last_place place) items i item lt ∙ ap (λ (x : Item). last_place place (x ∷ rest)) (sym same) ∙ last_more place item rest) ∙ e

pub last_done : (place : Place) (items : List Item) (i : ℕ) (total : Place) → length items ≤ i → last_place place (drop i items) ≡ total → place ≡ total
last_done place items i total le e = sym (at_drop_all (last_place place) items i le ∙ last_none place) ∙ e
