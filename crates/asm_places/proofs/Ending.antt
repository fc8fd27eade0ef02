-- SPDX-License-Identifier: Apache-2.0
-- Where the loop stands that collects functions.
use Rattle.std.proofs.Common.{◌≡◌, ℕ, ◌+◌, ◌<◌, ◌≤◌, List, [], ◌∷◌, ◌++◌, length, get_or, drop, refl, sym, ap, ◌∙◌, append_assoc}
use Rattle.std.specs.Prelude.{Option}
use Rattle.std.proofs.lemmas.List.{at_drop_more, at_drop_all, append-nil}
use Rattle.sh_types.specs.declared.code.Function.{Function}
use Rattle.asm_text.specs.declared.statements.Item.{Item}
use Rattle.asm_places.specs.declared.places.Place.{Place}
use Rattle.asm_places.specs.Places.{place_after}
use Rattle.asm_places.specs.Functions.{ended, open_after, functions_from}

more : (begun : Option (List ℕ × ℕ)) (place : Place) (item : Item) (items : List Item)
    → functions_from begun place (item ∷ items) ≡ ended begun place item.statement ++ functions_from (open_after begun place item.statement) (place_after place item.statement) items
unfolding functions_from
more begun place item items = refl

none : (begun : Option (List ℕ × ℕ)) (place : Place) → functions_from begun place [] ≡ []
unfolding functions_from
none begun place = refl

pub goes_on : (old new : List Function) (begun later : Option (List ℕ × ℕ)) (place next : Place) (items : List Item) (i : ℕ) (item : Item) (total : List Function) → i < length items → item ≡ get_or items i item
    → next ≡ place_after place item.statement → later ≡ open_after begun place item.statement → new ≡ old ++ ended begun place item.statement
    → old ++ functions_from begun place (drop i items) ≡ total → new ++ functions_from later next (drop (i + 1) items) ≡ total
goes_on old new begun later place next items i item total lt same n l e so_far =
    let rest = drop (i + 1) items in
    let others = functions_from (open_after begun place item.statement) (place_after place item.statement) rest in
    let here : functions_from begun place (drop i items) ≡ ended begun place item.statement ++ others =
    at_drop_more (functions_from begun place) items i item lt ∙ ap (λ (x : Item). functions_from begun place (x ∷ rest)) (sym same) ∙ more begun place item rest in
    ap (λ (p : Place). new ++ functions_from later p rest) n ∙ ap (λ (o : Option (List ℕ × ℕ)). new ++ functions_from o (place_after place item.statement) rest) l
    ∙ ap (λ (w : List Function). w ++ others) e ∙ append_assoc old (ended begun place item.statement) others ∙ ap (λ (w : List Function). old ++ w) (sym here) ∙ so_far

pub done : (old : List Function) (begun : Option (List ℕ × ℕ)) (place : Place) (items : List Item) (i : ℕ) (total : List Function) → length items ≤ i → old ++ functions_from begun place (drop i items) ≡ total → old ≡ total
done old begun place items i total le so_far =
    sym (append-nil old) ∙ ap (λ (w : List Function). old ++ w) (sym (at_drop_all (functions_from begun place) items i le ∙ none begun place)) ∙ so_far
