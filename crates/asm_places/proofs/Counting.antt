-- SPDX-License-Identifier: Apache-2.0
-- Where loops stand that lay out what statements give, or numbers.
use Rattle.std.proofs.Common.{◌≡◌, ℕ, ◌+◌, ◌<◌, ◌≤◌, Bool, true, false, List, [], ◌∷◌, ◌++◌, length, get_or, drop, refl, sym, ap, ◌∙◌, append_assoc}
use Rattle.std.specs.Prelude.{Option, Some, None, map, cond, if◌then◌else◌}
use Rattle.std.specs.BTreeMap.{BTreeMap}
use Rattle.std.proofs.lemmas.List.{at_drop_more, at_drop_all, append-nil}
use denote.Ref.{Bor}
use Rattle.asm_words.specs.Tables.{first_of}
use Rattle.asm_text.specs.declared.statements.Statement.{Statement}
use Rattle.asm_text.specs.declared.statements.Item.{Item}
use Rattle.asm_places.specs.declared.places.Place.{Place}
use Rattle.asm_places.specs.Places.{place_after}
use Rattle.asm_places.specs.declared.symbols.Scoped.{Scoped}
use Rattle.asm_places.specs.Numbers.{number_of}
use Rattle.asm_places.specs.Symbols.{counted, number_if, number_at}

-- ---- what statements give, by a count

more : {A : Type 0} (give : ℕ → Place → Statement → List A) (count : Place → Statement → ℕ) (n : ℕ) (place : Place) (item : Item) (items : List Item)
    → counted give count n place (item ∷ items) ≡ give n place item.statement ++ counted give count (n + count place item.statement) (place_after place item.statement) items
unfolding counted
more give count n place item items = refl

none : {A : Type 0} (give : ℕ → Place → Statement → List A) (count : Place → Statement → ℕ) (n : ℕ) (place : Place) → counted give count n place [] ≡ []
unfolding counted
none give count n place = refl

pub goes_on : {A : Type 0} (give : ℕ → Place → Statement → List A) (count : Place → Statement → ℕ) (old new : List A) (n m : ℕ) (place next : Place) (items : List Item) (i : ℕ) (item : Item) (total : List A) → i < length items → item ≡ get_or items i item
    → next ≡ place_after place item.statement → m ≡ n + count place item.statement → new ≡ old ++ give n place item.statement
    → old ++ counted give count n place (drop i items) ≡ total → new ++ counted give count m next (drop (i + 1) items) ≡ total
goes_on {A} give count old new n m place next items i item total lt same at_next more_n e so_far =
    let rest = drop (i + 1) items in
    let others = counted give count (n + count place item.statement) (place_after place item.statement) rest in
    let here : counted give count n place (drop i items) ≡ give n place item.statement ++ others =
    at_drop_more (counted give count n place) items i item lt ∙ ap (λ (x : Item). counted give count n place (x ∷ rest)) (sym same) ∙ more give count n place item rest in
    ap (λ (p : Place). new ++ counted give count m p rest) at_next ∙ ap (λ (k : ℕ). new ++ counted give count k (place_after place item.statement) rest) more_n
    ∙ ap (λ (w : List A). w ++ others) e ∙ append_assoc old (give n place item.statement) others ∙ ap (λ (w : List A). old ++ w) (sym here) ∙ so_far

pub done : {A : Type 0} (give : ℕ → Place → Statement → List A) (count : Place → Statement → ℕ) (old : List A) (n : ℕ) (place : Place) (items : List Item) (i : ℕ) (total : List A) → length items ≤ i
    → old ++ counted give count n place (drop i items) ≡ total → old ≡ total
done {A} give count old n place items i total le so_far =
    sym (append-nil old) ∙ ap (λ (w : List A). old ++ w) (sym (at_drop_all (counted give count n place) items i le ∙ none give count n place)) ∙ so_far

pub counted_same : {A : Type 0} (f g : ℕ → Place → Statement → List A) (count : Place → Statement → ℕ) (n : ℕ) (place : Place) (items : List Item) → ((m : ℕ) (p : Place) (s : Statement) → f m p s ≡ g m p s) → counted f count n place items ≡ counted g count n place items
unfolding counted
counted_same f g count n place [] h = refl
counted_same {A} f g count n place (item ∷ items) h =
    ap (λ (w : List A). w ++ counted f count (n + count place item.statement) (place_after place item.statement) items) (h n place item.statement)
    ∙ ap (λ (w : List A). g n place item.statement ++ w) (counted_same f g count (n + count place item.statement) (place_after place item.statement) items h)

-- ---- what a list gives, one for one

pub map_goes_on : {A B : Type 0} (g : A → B) (old new : List B) (xs : List A) (i : ℕ) (x : A) (total : List B) → i < length xs → x ≡ get_or xs i x → new ≡ old ++ g x ∷ [] → old ++ map g (drop i xs) ≡ total → new ++ map g (drop (i + 1) xs) ≡ total
map_goes_on {A} {B} g old new xs i x total lt same e so_far =
    let rest = drop (i + 1) xs in
    let here : map g (drop i xs) ≡ g x ∷ map g rest = at_drop_more (λ (l : List A). map g l) xs i x lt ∙ ap (λ (y : A). g y ∷ map g rest) (sym same) in
    ap (λ (w : List B). w ++ map g rest) e ∙ append_assoc old (g x ∷ []) (map g rest) ∙ ap (λ (w : List B). old ++ w) (sym here) ∙ so_far

pub map_done : {A B : Type 0} (g : A → B) (old : List B) (xs : List A) (i : ℕ) (total : List B) → length xs ≤ i → old ++ map g (drop i xs) ≡ total → old ≡ total
map_done {A} {B} g old xs i total le so_far = sym (append-nil old) ∙ ap (λ (w : List B). old ++ w) (sym (at_drop_all (λ (l : List A). map g l) xs i le)) ∙ so_far

-- ---- the map of numbers

pub cond_number : (b : Bool) (number : ℕ) (was : Option ℕ) → cond b (Some number) was ≡ first_of (if b then Some number else None) was
cond_number true number was = refl
cond_number false number was = refl

first_none : (a : Option ℕ) → first_of a None ≡ a
first_none None = refl
first_none (Some t) = refl

first_assoc : (a b c : Option ℕ) → first_of (first_of a b) c ≡ first_of a (first_of b c)
first_assoc None b c = refl
first_assoc (Some t) b c = refl

number_more : (n : ℕ) (s : Scoped) (rest : List Scoped) (key : ℕ × List ℕ) → number_at n (s ∷ rest) key ≡ first_of (number_at (n + 1) rest key) (number_if n s key)
unfolding number_at
number_more n s rest key = refl

number_none : (n : ℕ) (key : ℕ × List ℕ) → number_at n [] key ≡ None
unfolding number_at
number_none n key = refl

-- the symbols that are left, and behind them those of the map, have the numbers that all have
pub record Standing (numbers : BTreeMap (ℕ × Bor (List ℕ)) ℕ) (n : ℕ) (rest all : List Scoped) : Type 0 where
  pub left : (s : ℕ) (q : List ℕ) → first_of (number_at n rest (s, q)) (number_of numbers s q) ≡ number_at 1 all (s, q)

pub numbers_begun : (numbers : BTreeMap (ℕ × Bor (List ℕ)) ℕ) (all : List Scoped) → ((s : ℕ) (q : List ℕ) → number_of numbers s q ≡ None) → Standing numbers 1 all all
numbers_begun numbers all empty = record { left = λ s q. ap (λ (o : Option ℕ). first_of (number_at 1 all (s, q)) o) (empty s q) ∙ first_none (number_at 1 all (s, q)) }

pub numbers_go_on : (old new : BTreeMap (ℕ × Bor (List ℕ)) ℕ) (n : ℕ) (symbols : List Scoped) (i : ℕ) (symbol : Scoped) (all : List Scoped) → i < length symbols → symbol ≡ get_or symbols i symbol
    → ((s : ℕ) (q : List ℕ) → number_of new s q ≡ first_of (number_if n symbol (s, q)) (number_of old s q))
    → Standing old n (drop i symbols) all → Standing new (n + 1) (drop (i + 1) symbols) all
numbers_go_on old new n symbols i symbol all lt same after h =
    let rest = drop (i + 1) symbols in
    record {
      left = λ s q.
          let others = number_at (n + 1) rest (s, q) in
          let e : number_at n (drop i symbols) (s, q) ≡ first_of others (number_if n symbol (s, q)) =
          at_drop_more (λ (l : List Scoped). number_at n l (s, q)) symbols i symbol lt ∙ ap (λ (x : Scoped). number_at n (x ∷ rest) (s, q)) (sym same) ∙ number_more n symbol rest (s, q) in
          ap (λ (o : Option ℕ). first_of others o) (after s q)
          ∙ sym (first_assoc others (number_if n symbol (s, q)) (number_of old s q))
          ∙ ap (λ (o : Option ℕ). first_of o (number_of old s q)) (sym e) ∙ h.left s q;
    }

pub numbers_done : (numbers : BTreeMap (ℕ × Bor (List ℕ)) ℕ) (n : ℕ) (symbols : List Scoped) (i : ℕ) (all : List Scoped) → length symbols ≤ i → Standing numbers n (drop i symbols) all
    → (s : ℕ) (q : List ℕ) → number_of numbers s q ≡ number_at 1 all (s, q)
numbers_done numbers n symbols i all le h s q =
    let none_left : number_at n (drop i symbols) (s, q) ≡ None = at_drop_all (λ (l : List Scoped). number_at n l (s, q)) symbols i le ∙ number_none n (s, q) in
    sym (ap (λ (o : Option ℕ). first_of o (number_of numbers s q)) none_left) ∙ h.left s q
