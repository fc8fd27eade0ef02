-- SPDX-License-Identifier: Apache-2.0
-- Where the loop stands that looks for the first name that is taken.
use Rattle.std.proofs.Common.{◌≡◌, ℕ, ◌+◌, ◌<◌, ◌≤◌, Bool, true, false, List, [], ◌∷◌, length, get_or, drop, refl, sym, ap, ◌∙◌, arith}
use Rattle.std.specs.Prelude.{Option, Some, None, not, ◌==◌, ◌&&◌, ◌||◌, cond}
use Rattle.std.specs.Ordering.{is_eq, nat_cmp, ordering_then}
use Rattle.std.specs.declared.cmp.Ordering.{Ordering}
use Rattle.std.specs.declared.cmp.Ordering.TheVariants.{Less, Equal, Greater}
use Rattle.std.specs.Cmp.Lexicographic.{slice_cmp}
use Rattle.std.specs.BTreeSet.{BTreeSet}
use Rattle.std.proofs.lemmas.List.{at_drop_more, at_drop_all}
use Rattle.std.proofs.lemmas.Map.Text.{is_eq-slice_cmp}
use Rattle.std.proofs.lemmas.Bool.Decides.{nat_tests}
use denote.Ref.{Bor}
use Rattle.asm_text.specs.declared.statements.Item.{Item}
use Rattle.asm_places.specs.Places.{begins, is_inside_after}
use Rattle.asm_places.specs.Names.{key_of, same_key, is_taken, is_taken_by, keys_with, name_twice_line}
use Rattle.asm_places.specs.Sets.{has, has_key, is_key}

is_eq_then : (a b : Ordering) → is_eq (ordering_then a b) ≡ (is_eq a && is_eq b)
is_eq_then Less b = refl
is_eq_then Equal b = refl
is_eq_then Greater b = refl

is_eq_nat : (a b : ℕ) → is_eq (nat_cmp a b) ≡ (a == b)
is_eq_nat a b = grind (arith, nat_tests)

-- what the order of keys says of two
pub same_keys : (a s : ℕ) (n q : List ℕ) → is_eq (ordering_then (nat_cmp a s) (slice_cmp nat_cmp n q)) ≡ same_key (a, n) (s, q)
same_keys a s n q =
    is_eq_then (nat_cmp a s) (slice_cmp nat_cmp n q) ∙ ap (λ (x : Bool). x && is_eq (slice_cmp nat_cmp n q)) (is_eq_nat a s)
    ∙ ap (λ (y : Bool). (a == s) && y) (is_eq-slice_cmp n q)

pub or_cond : (b x : Bool) → cond b true x ≡ (b || x)
or_cond true x = refl
or_cond false x = refl

-- the set of names and the list of keys so far, and what is left
pub record Held (names : BTreeSet (ℕ × Bor (List ℕ))) (inside : Bool) (functions : ℕ) (items : List Item) (total : Option ℕ) : Type 0 where
  pub keys : List (ℕ × List ℕ)
  pub held : (s : ℕ) (q : List ℕ) → has names s q ≡ is_taken keys (s, q)
  pub line : name_twice_line inside functions keys items ≡ total

pub begun : (names : BTreeSet (ℕ × Bor (List ℕ))) (items : List Item) → ((s : ℕ) (q : List ℕ) → has names s q ≡ false) → Held names false 0 items (name_twice_line false 0 [] items)
unfolding is_taken
begun names items empty = record { keys = []; held = λ s q. empty s q; line = refl }

taken_with : (key : Option (ℕ × List ℕ)) (keys : List (ℕ × List ℕ)) (other : ℕ × List ℕ) → (is_key key other || is_taken keys other) ≡ is_taken (keys_with key keys) other
unfolding is_taken
taken_with None keys other = refl
taken_with (Some key) keys other = refl

key_taken : (names : BTreeSet (ℕ × Bor (List ℕ))) (keys : List (ℕ × List ℕ)) (key : Option (ℕ × List ℕ)) → ((s : ℕ) (q : List ℕ) → has names s q ≡ is_taken keys (s, q)) → has_key names key ≡ is_taken_by keys key
key_taken names keys None h = refl
key_taken names keys (Some key) h = h key.0 key.1

go : (inside : Bool) (functions : ℕ) (keys : List (ℕ × List ℕ)) (item : Item) (items : List Item) → is_taken_by keys (key_of inside functions item.statement) ≡ false
    → name_twice_line inside functions keys (item ∷ items)
    ≡ name_twice_line (is_inside_after inside item.statement) (functions + begins item.statement) (keys_with (key_of inside functions item.statement) keys) items
unfolding name_twice_line
go inside functions keys item items h = rw h refl

stop : (inside : Bool) (functions : ℕ) (keys : List (ℕ × List ℕ)) (item : Item) (items : List Item) → is_taken_by keys (key_of inside functions item.statement) ≡ true
    → name_twice_line inside functions keys (item ∷ items) ≡ Some item.line
unfolding name_twice_line
stop inside functions keys item items h = rw h refl

none : (inside : Bool) (functions : ℕ) (keys : List (ℕ × List ℕ)) → name_twice_line inside functions keys [] ≡ None
unfolding name_twice_line
none inside functions keys = refl

not_false : (b : Bool) → not b ≡ true → b ≡ false
not_false true e = cc
not_false false e = refl

not_true : (b : Bool) → not b ≡ false → b ≡ true
not_true true e = refl
not_true false e = cc

here : (inside : Bool) (functions : ℕ) (keys : List (ℕ × List ℕ)) (items : List Item) (i : ℕ) (item : Item) → i < length items → item ≡ get_or items i item
    → name_twice_line inside functions keys (drop i items) ≡ name_twice_line inside functions keys (item ∷ drop (i + 1) items)
here inside functions keys items i item lt same =
    at_drop_more (name_twice_line inside functions keys) items i item lt ∙ ap (λ (x : Item). name_twice_line inside functions keys (x ∷ drop (i + 1) items)) (sym same)

pub goes_on : (old new : BTreeSet (ℕ × Bor (List ℕ))) (inside : Bool) (functions : ℕ) (items : List Item) (i : ℕ) (item : Item) (total : Option ℕ) → i < length items → item ≡ get_or items i item
    → not (has_key old (key_of inside functions item.statement)) ≡ true
    → ((s : ℕ) (q : List ℕ) → has new s q ≡ (is_key (key_of inside functions item.statement) (s, q) || has old s q))
    → Held old inside functions (drop i items) total
    → Held new (is_inside_after inside item.statement) (functions + begins item.statement) (drop (i + 1) items) total
goes_on old new inside functions items i item total lt same fresh after h =
    let key = key_of inside functions item.statement in
    let off : is_taken_by h.keys key ≡ false = sym (key_taken old h.keys key h.held) ∙ not_false (has_key old key) fresh in
    record {
      keys = keys_with key h.keys;
      held = λ s q. after s q ∙ ap (λ (b : Bool). is_key key (s, q) || b) (h.held s q) ∙ taken_with key h.keys (s, q);
      line = sym (here inside functions h.keys items i item lt same ∙ go inside functions h.keys item (drop (i + 1) items) off) ∙ h.line;
    }

pub ends : (old : BTreeSet (ℕ × Bor (List ℕ))) (inside : Bool) (functions : ℕ) (items : List Item) (i : ℕ) (item : Item) (total : Option ℕ) → i < length items → item ≡ get_or items i item
    → not (has_key old (key_of inside functions item.statement)) ≡ false → Held old inside functions (drop i items) total → Some item.line ≡ total
ends old inside functions items i item total lt same fresh h =
    let key = key_of inside functions item.statement in
    let on : is_taken_by h.keys key ≡ true = sym (key_taken old h.keys key h.held) ∙ not_true (has_key old key) fresh in
    sym (here inside functions h.keys items i item lt same ∙ stop inside functions h.keys item (drop (i + 1) items) on) ∙ h.line

pub ran_out : (old : BTreeSet (ℕ × Bor (List ℕ))) (inside : Bool) (functions : ℕ) (items : List Item) (i : ℕ) (total : Option ℕ) → length items ≤ i → Held old inside functions (drop i items) total → None ≡ total
ran_out old inside functions items i total le h = sym (at_drop_all (name_twice_line inside functions h.keys) items i le ∙ none inside functions h.keys) ∙ h.line
