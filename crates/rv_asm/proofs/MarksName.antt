-- SPDX-License-Identifier: Apache-2.0
-- The symbols of marks have the names that stand in the statements.
use Rattle.std.proofs.Common.{◌≡◌, ℕ, zero, suc, ◌+◌, Bool, true, false, List, [], ◌∷◌, ◌++◌, length, refl, sym, ap, subst, ◌∙◌, arith}
use Rattle.std.specs.Prelude.{Option, Some, None, map, option_map, slice_get, ◌==◌, ◌||◌, if◌then◌else◌}
use Rattle.std.specs.Str.{bytes_eq}
use Rattle.std.proofs.lemmas.List.{map-append}
use Rattle.std.proofs.lemmas.Slice.Eq.{bytes_eq-Decides}
use Rattle.sh_types.specs.declared.symbols.Symbol.{Symbol}
use Rattle.asm_words.specs.Tables.{first_of}
use Rattle.asm_text.specs.declared.statements.Statement.{Statement}
use Rattle.asm_text.specs.declared.statements.Statement.TheVariants as statement
use Rattle.asm_text.specs.declared.statements.Item.{Item}
use Rattle.asm_places.specs.declared.places.Place.{Place}
use Rattle.sh_types.specs.declared.objects.Mark.{Mark}
use Rattle.asm_places.specs.Names.{is_taken, keys_in, functions_in, is_known, unknown_line}
use Rattle.asm_places.specs.Places.{begins, place_after, first_place}
use Rattle.asm_places.specs.declared.symbols.Scoped.{Scoped}
use Rattle.asm_places.specs.Symbols.{counted, la_name, inner_symbol, las_in, inner_symbols, outer_symbols, named_symbols, symbols_of, symbol_of, is_named, number_at, number_in}
use Rattle.rv_asm.specs.Checking.{IsChecked}
use Rattle.rv_asm.specs.Marks.{number_or, label_or, marks_at, inner_in, marks_of, names_at, marked_names, name_of_symbol}
use Rattle.rv_asm.proofs.Finding.{is_symbol, found, function_taken}
use Rattle.rv_asm.proofs.Numbering.{inner_length}
use Rattle.rv_asm.proofs.Reaching.{both, near_line}

-- ---- the number of a name

chosen_some : (t b : Bool) (rest : Option ℕ) (n : ℕ) → (b ≡ true → (m : ℕ) × (rest ≡ Some m)) → (t || b) ≡ true → (m : ℕ) × (first_of rest (if t then Some n else None) ≡ Some m)
chosen_some t b (Some m) n f e = (m, refl)
chosen_some true b None n f e = (n, refl)
chosen_some false b None n f e = f e

-- a name of a symbol has a number
number_some : (n : ℕ) (symbols : List Scoped) (key : ℕ × List ℕ) → is_symbol symbols key ≡ true → (m : ℕ) × (number_at n symbols key ≡ Some m)
unfolding number_at
number_some n [] key e = absurd (cc)
number_some n (s ∷ symbols) key e =
    chosen_some (is_named s.scope s.symbol.name key) (is_symbol symbols key) (number_at (n + 1) symbols key) n (number_some (n + 1) symbols key) e

chosen : (t : Bool) (rest : Option ℕ) (n m : ℕ) (P : ℕ → Type 0) → ((x : ℕ) → rest ≡ Some x → P x) → (t ≡ true → P n) → first_of rest (if t then Some n else None) ≡ Some m → P m
chosen t (Some x) n m P f g e = f m e
chosen true None n m P f g e = let same : n ≡ m = cc in subst P same (g refl)
chosen false None n m P f g e = absurd (cc)

name_is : (scope : Option ℕ) (name : List ℕ) (key : ℕ × List ℕ) → is_named scope name key ≡ true → name ≡ key.1
name_is None name key e = absurd (cc)
name_is (Some scope) name key e = (bytes_eq-Decides name key.1).0 (both (scope == key.0) (bytes_eq name key.1) e).1

-- the symbols from a number on are these
abbrev Stand : List Symbol → ℕ → List Scoped → Type 0
Stand all n symbols = (k : ℕ) → slice_get all (n + k) ≡ slice_get (map symbol_of symbols) k

abbrev name_in : Option Symbol → Option (List ℕ)
name_in found = option_map (λ (s : Symbol). s.name) found

-- the symbol of a name's number has the name
number_names : (all : List Symbol) (n : ℕ) (symbols : List Scoped) (key : ℕ × List ℕ) (m : ℕ) → Stand all n symbols → number_at n symbols key ≡ Some m → name_of_symbol all m ≡ Some key.1
unfolding number_at
number_names all n [] key m at e = absurd (cc)
number_names all n (s ∷ symbols) key m at e =
    let same : n ≡ n + 0 = omega arith in
    let here : slice_get all n ≡ Some s.symbol = ap (λ i. slice_get all i) same ∙ at 0 in
    let rest : Stand all (n + 1) symbols = λ k. let i : n + 1 + k ≡ n + suc k = omega arith in ap (λ j. slice_get all j) i ∙ at (suc k) in
    chosen (is_named s.scope s.symbol.name key) (number_at (n + 1) symbols key) n m (λ x. name_of_symbol all x ≡ Some key.1)
    (λ x f. number_names all (n + 1) symbols key x rest f)
    (λ t. ap name_in here ∙ ap (λ (q : List ℕ). Some q) (name_is s.scope s.symbol.name key t)) e

-- ---- one statement

record Finds (find : ℕ → List ℕ → Option ℕ) (names functions : ℕ → List ℕ → Bool) (all : List Symbol) : Type 0 where
  pub some : (scope : ℕ) (q : List ℕ) → names scope q ≡ true → (n : ℕ) × (find scope q ≡ Some n)
  pub named : (scope : ℕ) (q : List ℕ) (n : ℕ) → find scope q ≡ Some n → name_of_symbol all n ≡ Some q
  pub function : (q : List ℕ) → functions 0 q ≡ true → names 0 q ≡ true

one_named : (find : ℕ → List ℕ → Option ℕ) (names functions : ℕ → List ℕ → Bool) (all : List Symbol) → Finds find names functions all → (scope : ℕ) (q : List ℕ) → names scope q ≡ true → name_of_symbol all (number_or (find scope q)) ≡ Some q
one_named find names functions all h scope q e =
    let n = h.some scope q e in
    ap (λ (o : Option ℕ). name_of_symbol all (number_or o)) n.1 ∙ h.named scope q n.0 n.1

-- a label, or else a function
label_named : (a b : Option ℕ) (x y : Bool) (P : ℕ → Type 0) → ((n : ℕ) → a ≡ Some n → P n) → (x ≡ true → (n : ℕ) × (a ≡ Some n)) → (y ≡ true → P (number_or b)) → (x || y) ≡ true → P (label_or a b)
label_named (Some n) b x y P f s g e = f n refl
label_named None b true y P f s g e = let n = s refl in let is = n.1 in absurd (cc)
label_named None b false y P f s g e = g e

names_here : (find : ℕ → List ℕ → Option ℕ) (names functions : ℕ → List ℕ → Bool) (all : List Symbol) (first next las : ℕ) (p : Place) (s : Statement) (rest : List Scoped) → Finds find names functions all
    → is_known names functions p.functions s ≡ true → Stand all (first + next) (inner_symbol las p s ++ rest)
    → map (λ (m : Mark). name_of_symbol all m.symbol) (marks_at find first next p s) ≡ map Some (names_at las p s)
unfolding marks_at names_at is_known inner_symbol
names_here find names functions all first next las p (statement.Branch op rs1 rs2 label) rest h e at =
    ap (λ (o : Option (List ℕ)). o ∷ []) (one_named find names functions all h p.functions label e)
names_here find names functions all first next las p (statement.Jump rd target) rest h e at =
    ap (λ (o : Option (List ℕ)). o ∷ [])
    (label_named (find p.functions target) (find 0 target) (names p.functions target) (functions 0 target) (λ n. name_of_symbol all n ≡ Some target)
    (h.named p.functions target) (h.some p.functions target) (λ f. one_named find names functions all h 0 target (h.function target f)) e)
names_here find names functions all first next las p (statement.Call name) rest h e at = ap (λ (o : Option (List ℕ)). o ∷ []) (one_named find names functions all h 0 name e)
names_here find names functions all first next las p (statement.Tail name) rest h e at = ap (λ (o : Option (List ℕ)). o ∷ []) (one_named find names functions all h 0 name e)
names_here find names functions all first next las p (statement.Address rd name) rest h e at =
    let same : first + next ≡ first + next + 0 = omega arith in
    let second : name_of_symbol all (first + next) ≡ Some (la_name las) = ap (λ i. name_of_symbol all i) same ∙ ap name_in (at 0) in
    ap (λ (o : Option (List ℕ)). o ∷ name_of_symbol all (first + next) ∷ []) (one_named find names functions all h 0 name e)
    ∙ ap (λ (o : Option (List ℕ)). Some name ∷ o ∷ []) second
names_here find names functions all first next las p (statement.Reference width name) rest h e at = ap (λ (o : Option (List ℕ)). o ∷ []) (one_named find names functions all h 0 name e)
names_here find names functions all first next las p _ rest h e at = refl

-- ---- all items

behind : (xs ys : List Scoped) (n k : ℕ) → length xs ≡ n → slice_get (map symbol_of (xs ++ ys)) (n + k) ≡ slice_get (map symbol_of ys) k
behind [] ys zero k e = let i : 0 + k ≡ k = omega arith in ap (λ j. slice_get (map symbol_of ys) j) i
behind [] ys (suc n) k e = absurd (omega arith)
behind (x ∷ xs) ys zero k e = absurd (omega arith)
behind (x ∷ xs) ys (suc n) k e =
    let i : suc n + k ≡ suc (n + k) = omega arith in
    ap (λ j. slice_get (map symbol_of (x ∷ xs ++ ys)) j) i ∙ behind xs ys n k (omega arith)

all_named : (find : ℕ → List ℕ → Option ℕ) (names functions : ℕ → List ℕ → Bool) (all : List Symbol) (first next las : ℕ) (p : Place) (items : List Item) → Finds find names functions all
    → unknown_line names functions p.functions items ≡ None → Stand all (first + next) (counted inner_symbol las_in las p items)
    → map (λ (m : Mark). name_of_symbol all m.symbol) (counted (marks_at find first) inner_in next p items) ≡ map Some (counted names_at las_in las p items)
unfolding counted unknown_line place_after
all_named find names functions all first next las p [] h known at = refl
all_named find names functions all first next las p (item ∷ items) h known at =
    let s = item.statement in
    let after = place_after p s in
    let fine = near_line (is_known names functions p.functions s) item.line (unknown_line names functions (p.functions + begins s) items) known in
    let here = inner_symbol las p s in
    let rest = counted inner_symbol las_in (las + las_in p s) after items in
    let marks = counted (marks_at find first) inner_in (next + inner_in p s) after items in
    let called = counted names_at las_in (las + las_in p s) after items in
    let name = λ (m : Mark). name_of_symbol all m.symbol in
    let later : Stand all (first + (next + inner_in p s)) rest = λ k.
    let i : first + (next + inner_in p s) + k ≡ first + next + (inner_in p s + k) = omega arith in
    ap (λ j. slice_get all j) i ∙ at (inner_in p s + k) ∙ behind here rest (inner_in p s) k (inner_length las p s) in
    map-append name (marks_at find first next p s) marks
    ∙ ap (λ (l : List (Option (List ℕ))). l ++ map name marks) (names_here find names functions all first next las p s rest h fine.0 at)
    ∙ ap (λ (l : List (Option (List ℕ))). map Some (names_at las p s) ++ l) (all_named find names functions all first (next + inner_in p s) (las + las_in p s) after items h fine.1 later)
    ∙ sym (map-append Some (names_at las p s) called)

pub marks_name : (items : List Item) → IsChecked items → map (λ (m : Mark). name_of_symbol (symbols_of items) m.symbol) (marks_of items) ≡ map Some (marked_names items)
marks_name items c =
    let symbols = named_symbols items in
    let outer = outer_symbols items in
    let all = symbols_of items in
    let keys = keys_in false 0 items in
    let stand : Stand (symbols_of items) 1 (named_symbols items) = λ k. let i : 1 + k ≡ suc k = omega arith in ap (λ j. slice_get (symbols_of items) j) i in
    let inner : Stand (symbols_of items) (length (outer_symbols items) + 1 + 0) (inner_symbols items) = λ k.
    let i : length (outer_symbols items) + 1 + 0 + k ≡ suc (length (outer_symbols items) + k) = omega arith in
    ap (λ j. slice_get (symbols_of items) j) i ∙ behind (outer_symbols items) (inner_symbols items) (length (outer_symbols items)) k refl in
    let finds : Finds (number_in (named_symbols items)) (λ s q. is_taken (keys_in false 0 items) (s, q)) (λ s q. is_taken (functions_in items) (s, q)) (symbols_of items) = record {
      some = λ scope q e. number_some 1 symbols (scope, q) (sym (found items c.placed c.closed (scope, q)) ∙ e);
      named = λ scope q n e. number_names all 1 symbols (scope, q) n stand e;
      function = λ q e. function_taken false 0 items (0, q) e;
    } in
    all_named (number_in symbols) (λ s q. is_taken (keys_in false 0 items) (s, q)) (λ s q. is_taken (functions_in items) (s, q)) all (length outer + 1) 0 0 first_place items finds c.known inner
