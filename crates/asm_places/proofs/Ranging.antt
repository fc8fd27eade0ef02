-- SPDX-License-Identifier: Apache-2.0
-- Where the loop stands that looks for the first operand out of range.
use Rattle.std.proofs.Common.{◌≡◌, ℕ, ◌+◌, ◌<◌, ◌≤◌, true, false, List, ◌∷◌, length, get_or, drop, refl, sym, ap, subst, ◌∙◌, arith}
use Rattle.std.proofs.lemmas.List.{at_drop_more}
use Rattle.asm_text.specs.declared.statements.Statement.{Statement}
use Rattle.asm_text.specs.declared.statements.Statement.TheVariants as statement
use Rattle.asm_text.specs.declared.statements.Item.{Item}
use Rattle.asm_places.specs.declared.places.Place.{Place}
use Rattle.asm_places.specs.Places.{begins, place_after}
use Rattle.asm_places.specs.Ranges.{is_in_range, is_past, range_line}

step : (place : Place) (item : Item) (items : List Item) → is_in_range item.statement ≡ true → is_past (place_after place item.statement) ≡ false
    → range_line place (item ∷ items) ≡ range_line (place_after place item.statement) items
unfolding range_line
step place item items r p = rw (r, p) refl

pub goes_on : (place next : Place) (items : List Item) (i : ℕ) (item : Item) → i < length items → item ≡ get_or items i item → is_in_range item.statement ≡ true
    → next ≡ place_after place item.statement → is_past next ≡ false → range_line next (drop (i + 1) items) ≡ range_line place (drop i items)
goes_on place next items i item lt same r n p =
    let rest = drop (i + 1) items in
    let here : range_line place (drop i items) ≡ range_line place (item ∷ rest) = at_drop_more (range_line place) items i item lt ∙ ap (λ (x : Item). range_line place (x ∷ rest)) (sym same) in
    let past : is_past (place_after place item.statement) ≡ false = subst (λ (q : Place). is_past q ≡ false) n p in
    ap (λ (q : Place). range_line q rest) n ∙ sym (here ∙ step place item rest r past)

begins_small : (s : Statement) → begins s ≤ 1
begins_small (statement.Function name) = omega arith
begins_small _ = omega arith

pub few_functions : (place next : Place) (s : Statement) (i : ℕ) → next ≡ place_after place s → place.functions ≤ i → next.functions ≤ i + 1
unfolding place_after
few_functions place next s i n few =
    let f : next.functions ≡ place.functions + begins s = ap (λ (q : Place). q.functions) n in
    omega (arith, begins_small s)
