-- SPDX-License-Identifier: Apache-2.0
-- Where a loop stands that lays out what statements give.
use Rattle.std.proofs.Common.{◌≡◌, ℕ, ◌+◌, ◌<◌, ◌≤◌, List, [], ◌∷◌, ◌++◌, length, get_or, drop, refl, sym, ap, ◌∙◌, append_assoc}
use Rattle.std.proofs.lemmas.List.{at_drop_more, at_drop_all, append-nil}
use Rattle.asm_text.specs.declared.statements.Statement.{Statement}
use Rattle.asm_text.specs.declared.statements.Item.{Item}
use Rattle.asm_places.specs.declared.places.Place.{Place}
use Rattle.asm_places.specs.Places.{place_after}
use Rattle.asm_places.specs.Laying.{laid}

laid_more : {A : Type 0} (give : Place → Statement → List A) (place : Place) (item : Item) (items : List Item) → laid give place (item ∷ items) ≡ give place item.statement ++ laid give (place_after place item.statement) items
unfolding laid
laid_more give place item items = refl

laid_none : {A : Type 0} (give : Place → Statement → List A) (place : Place) → laid give place [] ≡ []
unfolding laid
laid_none give place = refl

pub goes_on : {A : Type 0} (give : Place → Statement → List A) (old new : List A) (place next : Place) (items : List Item) (i : ℕ) (item : Item) (total : List A) → i < length items → item ≡ get_or items i item
    → next ≡ place_after place item.statement → new ≡ old ++ give place item.statement → old ++ laid give place (drop i items) ≡ total → new ++ laid give next (drop (i + 1) items) ≡ total
goes_on {A} give old new place next items i item total lt same n e so_far =
    let rest = drop (i + 1) items in
    let others = laid give (place_after place item.statement) rest in
    let here : laid give place (drop i items) ≡ give place item.statement ++ others =
    at_drop_more (laid give place) items i item lt ∙ ap (λ (x : Item). laid give place (x ∷ rest)) (sym same) ∙ laid_more give place item rest in
    ap (λ (p : Place). new ++ laid give p rest) n ∙ ap (λ (w : List A). w ++ others) e
    ∙ append_assoc old (give place item.statement) others ∙ ap (λ (w : List A). old ++ w) (sym here) ∙ so_far

pub done : {A : Type 0} (give : Place → Statement → List A) (old : List A) (place : Place) (items : List Item) (i : ℕ) (total : List A) → length items ≤ i → old ++ laid give place (drop i items) ≡ total → old ≡ total
done {A} give old place items i total le so_far =
    sym (append-nil old) ∙ ap (λ (w : List A). old ++ w) (sym (at_drop_all (laid give place) items i le ∙ laid_none give place)) ∙ so_far

pub laid_same : {A : Type 0} (f g : Place → Statement → List A) (place : Place) (items : List Item) → ((p : Place) (s : Statement) → f p s ≡ g p s) → laid f place items ≡ laid g place items
unfolding laid
laid_same f g place [] h = refl
laid_same {A} f g place (item ∷ items) h =
    ap (λ (w : List A). w ++ laid f (place_after place item.statement) items) (h place item.statement)
    ∙ ap (λ (w : List A). g place item.statement ++ w) (laid_same f g (place_after place item.statement) items h)
