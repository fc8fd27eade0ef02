-- SPDX-License-Identifier: Apache-2.0
-- Where the loops stand that collect names, and what they decide.
use Rattle.std.proofs.Common.{◌≡◌, ℕ, ◌+◌, ◌<◌, ◌≤◌, Bool, true, false, List, [], ◌∷◌, length, get_or, drop, refl, sym, ap, ◌∙◌}
use Rattle.std.specs.Prelude.{Option, Some, None, ◌||◌, if◌then◌else◌}
use Rattle.std.specs.BTreeSet.{BTreeSet}
use Rattle.std.proofs.lemmas.List.{at_drop_more, at_drop_all}
use denote.Ref.{Bor}
use Rattle.asm_text.specs.declared.statements.Statement.{Statement}
use Rattle.asm_text.specs.declared.statements.Statement.TheVariants as statement
use Rattle.asm_text.specs.declared.statements.Item.{Item}
use Rattle.asm_places.specs.Places.{begins, is_inside_after}
use Rattle.asm_places.specs.Names.{key_of, is_taken, keys_with, keys_in, function_key, functions_in, is_known, unknown_line}
use Rattle.asm_places.specs.Sets.{has, is_key}

or_none : (b : Bool) → (b || false) ≡ b
or_none true = refl
or_none false = refl

moved : (a b c : Bool) → ((a || b) || c) ≡ (b || (a || c))
moved true true c = refl
moved true false c = refl
moved false true c = refl
moved false false c = refl

pub taken_with : (key : Option (ℕ × List ℕ)) (keys : List (ℕ × List ℕ)) (other : ℕ × List ℕ) → (is_key key other || is_taken keys other) ≡ is_taken (keys_with key keys) other
unfolding is_taken
taken_with None keys other = refl
taken_with (Some key) keys other = refl

nothing_taken : (other : ℕ × List ℕ) → is_taken [] other ≡ false
unfolding is_taken
nothing_taken other = refl

-- what a set and a list have together, after a key went from the list into the set
carried : (old new : BTreeSet (ℕ × Bor (List ℕ))) (key : Option (ℕ × List ℕ)) (keys : List (ℕ × List ℕ)) (s : ℕ) (q : List ℕ)
    → has new s q ≡ (is_key key (s, q) || has old s q) → (has new s q || is_taken keys (s, q)) ≡ (has old s q || is_taken (keys_with key keys) (s, q))
carried old new key keys s q after =
    ap (λ (b : Bool). b || is_taken keys (s, q)) after ∙ moved (is_key key (s, q)) (has old s q) (is_taken keys (s, q))
    ∙ ap (λ (b : Bool). has old s q || b) (taken_with key keys (s, q))

-- the set, and the names that are left, have the names of all items
pub record Left (names : BTreeSet (ℕ × Bor (List ℕ))) (keys all : List (ℕ × List ℕ)) : Type 0 where
  pub left : (s : ℕ) (q : List ℕ) → (has names s q || is_taken keys (s, q)) ≡ is_taken all (s, q)

begun : (names : BTreeSet (ℕ × Bor (List ℕ))) (all : List (ℕ × List ℕ)) → ((s : ℕ) (q : List ℕ) → has names s q ≡ false) → Left names all all
begun names all empty = record { left = λ s q. ap (λ (b : Bool). b || is_taken all (s, q)) (empty s q) }

done : (names : BTreeSet (ℕ × Bor (List ℕ))) (keys all : List (ℕ × List ℕ)) → keys ≡ [] → Left names keys all → (s : ℕ) (q : List ℕ) → has names s q ≡ is_taken all (s, q)
done names keys all e h s q =
    sym (or_none (has names s q)) ∙ ap (λ (b : Bool). has names s q || b) (sym (nothing_taken (s, q)) ∙ ap (λ (ks : List (ℕ × List ℕ)). is_taken ks (s, q)) (sym e)) ∙ h.left s q

-- ---- all names

keys_more : (inside : Bool) (functions : ℕ) (item : Item) (items : List Item)
    → keys_in inside functions (item ∷ items) ≡ keys_with (key_of inside functions item.statement) (keys_in (is_inside_after inside item.statement) (functions + begins item.statement) items)
unfolding keys_in
keys_more inside functions item items = refl

keys_none : (inside : Bool) (functions : ℕ) → keys_in inside functions [] ≡ []
unfolding keys_in
keys_none inside functions = refl

pub names_begun : (names : BTreeSet (ℕ × Bor (List ℕ))) (items : List Item) → ((s : ℕ) (q : List ℕ) → has names s q ≡ false) → Left names (keys_in false 0 items) (keys_in false 0 items)
names_begun names items empty = begun names (keys_in false 0 items) empty

pub names_go_on : (old new : BTreeSet (ℕ × Bor (List ℕ))) (inside : Bool) (functions : ℕ) (items : List Item) (i : ℕ) (item : Item) (all : List (ℕ × List ℕ)) → i < length items → item ≡ get_or items i item
    → ((s : ℕ) (q : List ℕ) → has new s q ≡ (is_key (key_of inside functions item.statement) (s, q) || has old s q))
    → Left old (keys_in inside functions (drop i items)) all → Left new (keys_in (is_inside_after inside item.statement) (functions + begins item.statement) (drop (i + 1) items)) all
names_go_on old new inside functions items i item all lt same after h =
    let rest = drop (i + 1) items in
    let keys = keys_in (is_inside_after inside item.statement) (functions + begins item.statement) rest in
    let e : keys_in inside functions (drop i items) ≡ keys_with (key_of inside functions item.statement) keys =
    at_drop_more (keys_in inside functions) items i item lt ∙ ap (λ (x : Item). keys_in inside functions (x ∷ rest)) (sym same) ∙ keys_more inside functions item rest in
    record { left = λ s q. carried old new (key_of inside functions item.statement) keys s q (after s q) ∙ ap (λ (ks : List (ℕ × List ℕ)). has old s q || is_taken ks (s, q)) (sym e) ∙ h.left s q }

pub names_done : (names : BTreeSet (ℕ × Bor (List ℕ))) (inside : Bool) (functions : ℕ) (items : List Item) (i : ℕ) (all : List (ℕ × List ℕ)) → length items ≤ i
    → Left names (keys_in inside functions (drop i items)) all → (s : ℕ) (q : List ℕ) → has names s q ≡ is_taken all (s, q)
names_done names inside functions items i all le h =
    done names (keys_in inside functions (drop i items)) all (at_drop_all (keys_in inside functions) items i le ∙ keys_none inside functions) h

-- ---- all functions

functions_more : (item : Item) (items : List Item) → functions_in (item ∷ items) ≡ keys_with (function_key item.statement) (functions_in items)
unfolding functions_in
functions_more item items = refl

functions_none : functions_in [] ≡ []
unfolding functions_in
functions_none = refl

pub functions_begun : (names : BTreeSet (ℕ × Bor (List ℕ))) (items : List Item) → ((s : ℕ) (q : List ℕ) → has names s q ≡ false) → Left names (functions_in items) (functions_in items)
functions_begun names items empty = begun names (functions_in items) empty

pub functions_go_on : (old new : BTreeSet (ℕ × Bor (List ℕ))) (items : List Item) (i : ℕ) (item : Item) (all : List (ℕ × List ℕ)) → i < length items → item ≡ get_or items i item
    → ((s : ℕ) (q : List ℕ) → has new s q ≡ (is_key (function_key item.statement) (s, q) || has old s q)) → Left old (functions_in (drop i items)) all → Left new (functions_in (drop (i + 1) items)) all
functions_go_on old new items i item all lt same after h =
    let rest = drop (i + 1) items in
    let e : functions_in (drop i items) ≡ keys_with (function_key item.statement) (functions_in rest) =
    at_drop_more functions_in items i item lt ∙ ap (λ (x : Item). functions_in (x ∷ rest)) (sym same) ∙ functions_more item rest in
    record { left = λ s q. carried old new (function_key item.statement) (functions_in rest) s q (after s q) ∙ ap (λ (ks : List (ℕ × List ℕ)). has old s q || is_taken ks (s, q)) (sym e) ∙ h.left s q }

pub functions_done : (names : BTreeSet (ℕ × Bor (List ℕ))) (items : List Item) (i : ℕ) (all : List (ℕ × List ℕ)) → length items ≤ i
    → Left names (functions_in (drop i items)) all → (s : ℕ) (q : List ℕ) → has names s q ≡ is_taken all (s, q)
functions_done names items i all le h = done names (functions_in (drop i items)) all (at_drop_all functions_in items i le ∙ functions_none) h

-- ---- the names of statements

known_same : (f g x y : ℕ → List ℕ → Bool) → ((s : ℕ) (q : List ℕ) → f s q ≡ g s q) → ((s : ℕ) (q : List ℕ) → x s q ≡ y s q) → (number : ℕ) (s : Statement) → is_known f x number s ≡ is_known g y number s
unfolding is_known
known_same f g x y h k number (statement.Branch op rs1 rs2 label) = h number label
known_same f g x y h k number (statement.Jump rd target) = ap (λ (b : Bool). b || x 0 target) (h number target) ∙ ap (λ (b : Bool). g number target || b) (k 0 target)
known_same f g x y h k number (statement.Reference width name) = h 0 name
known_same f g x y h k number (statement.Address rd name) = h 0 name
known_same f g x y h k number (statement.Call name) = h 0 name
known_same f g x y h k number (statement.Tail name) = h 0 name
known_same f g x y h k number _ = refl

pub unknown_same : (f g x y : ℕ → List ℕ → Bool) (number : ℕ) (items : List Item) → ((s : ℕ) (q : List ℕ) → f s q ≡ g s q) → ((s : ℕ) (q : List ℕ) → x s q ≡ y s q)
    → unknown_line f x number items ≡ unknown_line g y number items
unfolding unknown_line
unknown_same f g x y number [] h k = refl
unknown_same f g x y number (item ∷ items) h k =
    ap (λ (b : Bool). if b then unknown_line f x (number + begins item.statement) items else Some item.line) (known_same f g x y h k number item.statement)
    ∙ ap (λ (o : Option ℕ). if is_known g y number item.statement then o else Some item.line) (unknown_same f g x y (number + begins item.statement) items h k)
