-- SPDX-License-Identifier: Apache-2.0
-- What a map of names has, beside a list.
use Rattle.std.proofs.Common.{◌≡◌, ℕ, ◌+◌, ◌<◌, ◌≤◌, Bool, true, false, List, [], ◌∷◌, length, get_or, drop, refl, sym, ap, ◌∙◌}
use Rattle.std.specs.Prelude.{Option, Some, None, cond, if◌then◌else◌}
use Rattle.std.specs.BTreeMap.{BTreeMap}
use Rattle.std.proofs.lemmas.List.{at_drop_more, at_drop_all}
use denote.Ref.{Bor}
use Rattle.asm_words.specs.Tables.{first_of}
use Rattle.asm_text.specs.declared.statements.Statement.{Statement}
use Rattle.asm_text.specs.declared.statements.Statement.TheVariants as statement
use Rattle.asm_text.specs.declared.statements.Item.{Item}
use Rattle.asm_places.specs.declared.places.Place.{Place}
use Rattle.asm_places.specs.declared.targets.Target.{Target}
use Rattle.asm_places.specs.Places.{place_after}
use Rattle.asm_places.specs.Maps.{has_at, defines_by}
use Rattle.asm_places.specs.Targets.{defined_by, targets_with, targets_in, target_at, target_of, label_or_function, distance_to, is_reached, far_line}

pub cond_first : (b : Bool) (target : Target) (was : Option Target) → cond b (Some target) was ≡ first_of (if b then Some target else None) was
cond_first true target was = refl
cond_first false target was = refl

first_none : (a : Option Target) → first_of a None ≡ a
first_none None = refl
first_none (Some t) = refl

first_assoc : (a b c : Option Target) → first_of (first_of a b) c ≡ first_of a (first_of b c)
first_assoc None b c = refl
first_assoc (Some t) b c = refl

at_with : (one : Option ((ℕ × List ℕ) × Target)) (others : List ((ℕ × List ℕ) × Target)) (key : ℕ × List ℕ) → first_of (target_at others key) (defines_by one key) ≡ target_at (targets_with one others) key
unfolding target_at
at_with None others key = first_none (target_at others key)
at_with (Some t) others key = refl

at_none : (key : ℕ × List ℕ) → target_at [] key ≡ None
unfolding target_at
at_none key = refl

targets_more : (place : Place) (item : Item) (items : List Item) → targets_in place (item ∷ items) ≡ targets_with (defined_by place item.statement) (targets_in (place_after place item.statement) items)
unfolding targets_in
targets_more place item items = refl

targets_none : (place : Place) → targets_in place [] ≡ []
unfolding targets_in
targets_none place = refl

-- the names that are left, and behind them those of the map, have what all have
pub record Standing (targets : BTreeMap (ℕ × Bor (List ℕ)) Target) (rest all : List ((ℕ × List ℕ) × Target)) : Type 0 where
  pub left : (s : ℕ) (q : List ℕ) → first_of (target_at rest (s, q)) (has_at targets s q) ≡ target_at all (s, q)

pub begun : (targets : BTreeMap (ℕ × Bor (List ℕ)) Target) (all : List ((ℕ × List ℕ) × Target)) → ((s : ℕ) (q : List ℕ) → has_at targets s q ≡ None) → Standing targets all all
begun targets all empty = record { left = λ s q. ap (λ (o : Option Target). first_of (target_at all (s, q)) o) (empty s q) ∙ first_none (target_at all (s, q)) }

pub goes_on : (old new : BTreeMap (ℕ × Bor (List ℕ)) Target) (place next : Place) (items : List Item) (i : ℕ) (item : Item) (all : List ((ℕ × List ℕ) × Target)) → i < length items → item ≡ get_or items i item
    → next ≡ place_after place item.statement
    → ((s : ℕ) (q : List ℕ) → has_at new s q ≡ first_of (defines_by (defined_by place item.statement) (s, q)) (has_at old s q))
    → Standing old (targets_in place (drop i items)) all → Standing new (targets_in next (drop (i + 1) items)) all
goes_on old new place next items i item all lt same n after h =
    let rest = drop (i + 1) items in
    let others = targets_in (place_after place item.statement) rest in
    let one = defined_by place item.statement in
    let e : targets_in place (drop i items) ≡ targets_with one others =
    at_drop_more (targets_in place) items i item lt ∙ ap (λ (x : Item). targets_in place (x ∷ rest)) (sym same) ∙ targets_more place item rest in
    record {
      left = λ s q.
          ap (λ (p : Place). first_of (target_at (targets_in p rest) (s, q)) (has_at new s q)) n
          ∙ ap (λ (o : Option Target). first_of (target_at others (s, q)) o) (after s q)
          ∙ sym (first_assoc (target_at others (s, q)) (defines_by one (s, q)) (has_at old s q))
          ∙ ap (λ (o : Option Target). first_of o (has_at old s q)) (at_with one others (s, q))
          ∙ ap (λ (ts : List ((ℕ × List ℕ) × Target)). first_of (target_at ts (s, q)) (has_at old s q)) (sym e) ∙ h.left s q;
    }

pub done : (targets : BTreeMap (ℕ × Bor (List ℕ)) Target) (place : Place) (items : List Item) (i : ℕ) (all : List ((ℕ × List ℕ) × Target)) → length items ≤ i
    → Standing targets (targets_in place (drop i items)) all → (s : ℕ) (q : List ℕ) → has_at targets s q ≡ target_at all (s, q)
done targets place items i all le h s q =
    let e : targets_in place (drop i items) ≡ [] = at_drop_all (targets_in place) items i le ∙ targets_none place in
    let none : target_at (targets_in place (drop i items)) (s, q) ≡ None = ap (λ (ts : List ((ℕ × List ℕ) × Target)). target_at ts (s, q)) e ∙ at_none (s, q) in
    sym (ap (λ (o : Option Target). first_of o (has_at targets s q)) none) ∙ h.left s q

-- ---- the same targets

pub of_same : (f g : ℕ → List ℕ → Option Target) → ((s : ℕ) (q : List ℕ) → f s q ≡ g s q) → (number : ℕ) (s : Statement) → target_of f number s ≡ target_of g number s
unfolding target_of
of_same f g h number (statement.Branch op rs1 rs2 label) = h number label
of_same f g h number (statement.Jump rd target) = ap (λ (o : Option Target). label_or_function o (f 0 target)) (h number target) ∙ ap (λ (o : Option Target). label_or_function (g number target) o) (h 0 target)
of_same f g h number (statement.Reference width name) = h 0 name
of_same f g h number (statement.Address rd name) = h 0 name
of_same f g h number (statement.Call name) = h 0 name
of_same f g h number (statement.Tail name) = h 0 name
of_same f g h number _ = refl

pub far_same : (f g : ℕ → List ℕ → Option Target) (size : ℕ) (place : Place) (items : List Item) → ((s : ℕ) (q : List ℕ) → f s q ≡ g s q) → far_line f size place items ≡ far_line g size place items
unfolding far_line
far_same f g size place [] h = refl
far_same f g size place (item ∷ items) h =
    ap (λ (o : Option Target). if is_reached (distance_to size place o) item.statement then far_line f size (place_after place item.statement) items else Some item.line) (of_same f g h place.functions item.statement)
    ∙ ap (λ (l : Option ℕ). if is_reached (distance_to size place (target_of g place.functions item.statement)) item.statement then l else Some item.line) (far_same f g size (place_after place item.statement) items h)

-- ---- the loop over distances

far_more : (f : ℕ → List ℕ → Option Target) (size : ℕ) (place : Place) (item : Item) (items : List Item) → is_reached (distance_to size place (target_of f place.functions item.statement)) item.statement ≡ true
    → far_line f size place (item ∷ items) ≡ far_line f size (place_after place item.statement) items
unfolding far_line
far_more f size place item items h = rw h refl

far_here : (f : ℕ → List ℕ → Option Target) (size : ℕ) (place : Place) (item : Item) (items : List Item) → is_reached (distance_to size place (target_of f place.functions item.statement)) item.statement ≡ false
    → far_line f size place (item ∷ items) ≡ Some item.line
unfolding far_line
far_here f size place item items h = rw h refl

far_none : (f : ℕ → List ℕ → Option Target) (size : ℕ) (place : Place) → far_line f size place [] ≡ None
unfolding far_line
far_none f size place = refl

pub far_goes_on : (f : ℕ → List ℕ → Option Target) (size : ℕ) (place next : Place) (items : List Item) (i : ℕ) (item : Item) (total : Option ℕ) → i < length items → item ≡ get_or items i item
    → next ≡ place_after place item.statement → is_reached (distance_to size place (target_of f place.functions item.statement)) item.statement ≡ true
    → far_line f size place (drop i items) ≡ total → far_line f size next (drop (i + 1) items) ≡ total
far_goes_on f size place next items i item total lt same n h so_far =
    let rest = drop (i + 1) items in
    ap (λ (p : Place). far_line f size p rest) n
    ∙ sym (at_drop_more (far_line f size place) items i item lt ∙ ap (λ (x : Item). far_line f size place (x ∷ rest)) (sym same) ∙ far_more f size place item rest h) ∙ so_far

pub far_ends : (f : ℕ → List ℕ → Option Target) (size : ℕ) (place : Place) (items : List Item) (i : ℕ) (item : Item) (total : Option ℕ) → i < length items → item ≡ get_or items i item
    → is_reached (distance_to size place (target_of f place.functions item.statement)) item.statement ≡ false → far_line f size place (drop i items) ≡ total → Some item.line ≡ total
far_ends f size place items i item total lt same h so_far =
    let rest = drop (i + 1) items in
    sym (at_drop_more (far_line f size place) items i item lt ∙ ap (λ (x : Item). far_line f size place (x ∷ rest)) (sym same) ∙ far_here f size place item rest h) ∙ so_far

pub far_done : (f : ℕ → List ℕ → Option Target) (size : ℕ) (place : Place) (items : List Item) (i : ℕ) (total : Option ℕ) → length items ≤ i → far_line f size place (drop i items) ≡ total → None ≡ total
far_done f size place items i total le so_far = sym (at_drop_all (far_line f size place) items i le ∙ far_none f size place) ∙ so_far
