-- SPDX-License-Identifier: Apache-2.0
-- Each name that a source defines is that of a symbol.
use Rattle.std.proofs.Common.{◌≡◌, ℕ, ◌+◌, Bool, true, false, List, [], ◌∷◌, ◌++◌, refl, sym, ap, ◌∙◌}
use Rattle.std.specs.Prelude.{Option, Some, None, is_some, map, not, ◌||◌, if◌then◌else◌}
use Rattle.std.specs.List.{list_any}
use Rattle.std.proofs.lemmas.List.{map-append}
use Rattle.asm_text.specs.declared.statements.Statement.{Statement}
use Rattle.asm_text.specs.declared.statements.Statement.TheVariants as statement
use Rattle.asm_text.specs.declared.statements.Item.{Item}
use Rattle.sh_types.specs.declared.code.Function.{Function}
use Rattle.asm_places.specs.declared.places.Place.{Place}
use Rattle.asm_places.specs.Places.{is_misplaced, is_inside_after, misplaced_line, is_open, begins, place_after, first_place}
use Rattle.asm_places.specs.Names.{key_of, same_key, is_taken, keys_in, function_key, functions_in}
use Rattle.asm_places.specs.Sets.{is_key}
use Rattle.asm_places.proofs.Knowing.{taken_with}
use Rattle.asm_places.specs.declared.symbols.Scoped.{Scoped}
use Rattle.asm_places.specs.Laying.{laid, text_end}
use Rattle.asm_places.specs.Functions.{ended, open_after, functions_from, functions_of}
use Rattle.asm_places.specs.Symbols.{symbol, scoped, counted, function_symbol, data_label, inner_symbol, las_in, outer_symbols, inner_symbols, named_symbols, is_named}
use Rattle.rv_asm.proofs.Reaching.{placed_line}

-- a symbol has the name in its scope
abbrev pub is_symbol : List Scoped → ℕ × List ℕ → Bool
is_symbol symbols key = list_any (λ (s : Scoped). is_named s.scope s.symbol.name key) symbols

either_more : (a b c : Bool) → (a || (b || c)) ≡ ((a || b) || c)
either_more true b c = refl
either_more false b c = refl

symbol_append : (xs ys : List Scoped) (key : ℕ × List ℕ) → is_symbol (xs ++ ys) key ≡ (is_symbol xs key || is_symbol ys key)
symbol_append [] ys key = refl
symbol_append (x ∷ xs) ys key = ap (λ (b : Bool). is_named x.scope x.symbol.name key || b) (symbol_append xs ys key) ∙ either_more (is_named x.scope x.symbol.name key) (is_symbol xs key) (is_symbol ys key)

-- the function that is open has the name
abbrev is_begun : Option (List ℕ × ℕ) → ℕ × List ℕ → Bool
is_begun None key = false
is_begun (Some begun) key = same_key (0, begun.0) key

-- ---- one statement

false_true : false ≡ true → ⊥
false_true e = cc

spread_inner : (b k : Bool) → (b || k) ≡ ((false || (false || (k || false))) || b)
spread_inner true true = refl
spread_inner true false = refl
spread_inner false true = refl
spread_inner false false = refl

spread_data : (b k : Bool) → (b || k) ≡ ((false || ((k || false) || false)) || b)
spread_data true true = refl
spread_data true false = refl
spread_data false true = refl
spread_data false false = refl

spread_function : (k : Bool) → (k || false) ≡ (((k || false) || (false || false)) || false)
spread_function true = refl
spread_function false = refl

none_spread : (k : Bool) → (k || false) ≡ ((false || (false || false)) || k)
none_spread true = refl
none_spread false = refl

label_found : (inside : Bool) (functions at here : ℕ) (name : List ℕ) (key : ℕ × List ℕ) (b : Bool)
    → (b || same_key ((if inside then functions else 0), name) key) ≡ ((false || (is_symbol (if inside then [] else scoped (Some 0) (symbol name 1 2 at 0) ∷ []) key || is_symbol (if inside then scoped (Some functions) (symbol name 0 1 here 0) ∷ [] else []) key)) || b)
label_found true functions at here name key b = spread_inner b (same_key (functions, name) key)
label_found false functions at here name key b = spread_data b (same_key (0, name) key)

abbrev found_in : ℕ → ℕ → Option (List ℕ × ℕ) → Place → Statement → ℕ × List ℕ → Bool
found_in size las begun p s key = is_symbol (map function_symbol (ended begun p s)) key || (is_symbol (data_label size p s) key || is_symbol (inner_symbol las p s) key)

none_ends : (b : Bool) → not b ≡ false → b ≡ false → ⊥
none_ends true m o = absurd (cc)
none_ends false m o = absurd (cc)

found_here : (size las : ℕ) (key : ℕ × List ℕ) (begun : Option (List ℕ × ℕ)) (p : Place) (s : Statement) → is_misplaced p.inside s ≡ false → p.inside ≡ is_some begun
    → (is_begun begun key || is_key (key_of p.inside p.functions s) key) ≡ (found_in size las begun p s key || is_begun (open_after begun p s) key)
unfolding is_misplaced key_of data_label inner_symbol
found_here size las key None p (statement.Function name) m o = refl
found_here size las key None p statement.EndFunction m o = absurd (none_ends p.inside m o)
found_here size las key None p (statement.Label name) m o = label_found p.inside p.functions _ _ name key false
found_here size las key None p (statement.Address rd name) m o = refl
found_here size las key None p _ m o = refl
found_here size las key (Some begun) p (statement.Function name) m o = cc
found_here size las key (Some begun) p statement.EndFunction m o = spread_function (same_key (0, begun.0) key)
found_here size las key (Some begun) p (statement.Label name) m o = label_found p.inside p.functions _ _ name key (same_key (0, begun.0) key)
found_here size las key (Some begun) p (statement.Address rd name) m o = none_spread (same_key (0, begun.0) key)
found_here size las key (Some begun) p _ m o = none_spread (same_key (0, begun.0) key)

stays_open : (inside : Bool) (begun : Option (List ℕ × ℕ)) (p : Place) (s : Statement) → inside ≡ is_some begun → is_inside_after inside s ≡ is_some (open_after begun p s)
unfolding is_inside_after
stays_open inside begun p (statement.Function name) o = refl
stays_open inside begun p statement.EndFunction o = refl
stays_open inside begun p _ o = o

-- ---- all items

four : (a b c d : Bool) → ((a || b) || (c || d)) ≡ ((a || c) || (b || d))
four true b c d = refl
four false true true d = refl
four false true false d = refl
four false false c d = refl

six : (f d i g e j : Bool) → ((f || (d || i)) || (g || (e || j))) ≡ ((f || g) || ((d || e) || (i || j)))
six f d i g e j = four f (d || i) g (e || j) ∙ ap (λ (b : Bool). (f || g) || b) (four d i e j)

-- what is found in a statement, and what is found behind it
joined : (b k t c g e j f d i : Bool) → (b || k) ≡ ((f || (d || i)) || c) → (c || t) ≡ (g || (e || j)) → (b || (k || t)) ≡ ((f || g) || ((d || e) || (i || j)))
joined b k t c g e j f d i h r =
    either_more b k t ∙ ap (λ (z : Bool). z || t) h ∙ sym (either_more (f || (d || i)) c t) ∙ ap (λ (z : Bool). (f || (d || i)) || z) r ∙ six f d i g e j

apart : (es fs : List Function) (ds ls is cs : List Scoped) (key : ℕ × List ℕ)
    → (is_symbol (map function_symbol (es ++ fs)) key || (is_symbol (ds ++ ls) key || is_symbol (is ++ cs) key))
    ≡ ((is_symbol (map function_symbol es) key || is_symbol (map function_symbol fs) key) || ((is_symbol ds key || is_symbol ls key) || (is_symbol is key || is_symbol cs key)))
apart es fs ds ls is cs key =
    ap (λ (l : List Scoped). is_symbol l key || (is_symbol (ds ++ ls) key || is_symbol (is ++ cs) key)) (map-append function_symbol es fs)
    ∙ ap (λ (b : Bool). b || (is_symbol (ds ++ ls) key || is_symbol (is ++ cs) key)) (symbol_append (map function_symbol es) (map function_symbol fs) key)
    ∙ ap (λ (b : Bool). (is_symbol (map function_symbol es) key || is_symbol (map function_symbol fs) key) || (b || is_symbol (is ++ cs) key)) (symbol_append ds ls key)
    ∙ ap (λ (b : Bool). (is_symbol (map function_symbol es) key || is_symbol (map function_symbol fs) key) || ((is_symbol ds key || is_symbol ls key) || b)) (symbol_append is cs key)

all_found : (size las : ℕ) (key : ℕ × List ℕ) (begun : Option (List ℕ × ℕ)) (p : Place) (items : List Item) → misplaced_line p.inside items ≡ None → is_open p.inside items ≡ false → p.inside ≡ is_some begun
    → (is_begun begun key || is_taken (keys_in p.inside p.functions items) key)
    ≡ (is_symbol (map function_symbol (functions_from begun p items)) key || (is_symbol (laid (data_label size) p items) key || is_symbol (counted inner_symbol las_in las p items) key))
unfolding misplaced_line is_open keys_in is_taken functions_from laid counted place_after
all_found size las key None p [] m c o = refl
all_found size las key (Some begun) p [] m c o = absurd (cc)
all_found size las key begun p (item ∷ items) m c o =
    let s = item.statement in
    let after = place_after p s in
    let placed = placed_line (is_misplaced p.inside s) item.line (misplaced_line (is_inside_after p.inside s) items) m in
    let named = key_of p.inside p.functions s in
    let keys = keys_in (is_inside_after p.inside s) (p.functions + begins s) items in
    let later = open_after begun p s in
    let fs = functions_from later after items in
    let ls = laid (data_label size) after items in
    let cs = counted inner_symbol las_in (las + las_in p s) after items in
    ap (λ (b : Bool). is_begun begun key || b) (sym (taken_with named keys key))
    ∙ joined (is_begun begun key) (is_key named key) (is_taken keys key) (is_begun later key) (is_symbol (map function_symbol fs) key) (is_symbol ls key) (is_symbol cs key)
    (is_symbol (map function_symbol (ended begun p s)) key) (is_symbol (data_label size p s) key) (is_symbol (inner_symbol las p s) key)
    (found_here size las key begun p s placed.0 o) (all_found size (las + las_in p s) key later after items placed.1 c (stays_open p.inside begun p s o))
    ∙ sym (apart (ended begun p s) fs (data_label size p s) ls (inner_symbol las p s) cs key)

-- the names that a source defines are those of its symbols, each in its scope
pub found : (items : List Item) → misplaced_line false items ≡ None → is_open false items ≡ false → (key : ℕ × List ℕ) → is_taken (keys_in false 0 items) key ≡ is_symbol (named_symbols items) key
found items placed closed key =
    let functions = map function_symbol (functions_of items) in
    let labels = laid (data_label (text_end items)) first_place items in
    all_found (text_end items) 0 key None first_place items placed closed refl
    ∙ either_more (is_symbol functions key) (is_symbol labels key) (is_symbol (inner_symbols items) key)
    ∙ ap (λ (b : Bool). b || is_symbol (inner_symbols items) key) (sym (symbol_append functions labels key))
    ∙ sym (symbol_append (outer_symbols items) (inner_symbols items) key)

-- ---- functions are among all names

either_still : (a b c d : Bool) → (a ≡ true → c ≡ true) → (b ≡ true → d ≡ true) → (a || b) ≡ true → (c || d) ≡ true
either_still true b true d f g e = refl
either_still true b false d f g e = absurd (false_true (f refl))
either_still false b true d f g e = refl
either_still false b false d f g e = g e

function_named : (inside : Bool) (functions : ℕ) (s : Statement) (key : ℕ × List ℕ) → is_key (function_key s) key ≡ true → is_key (key_of inside functions s) key ≡ true
unfolding function_key key_of
function_named inside functions (statement.Function name) key e = e
function_named inside functions _ key e = absurd (false_true e)

pub function_taken : (inside : Bool) (functions : ℕ) (items : List Item) (key : ℕ × List ℕ) → is_taken (functions_in items) key ≡ true → is_taken (keys_in inside functions items) key ≡ true
unfolding functions_in keys_in is_taken
function_taken inside functions [] key e = e
function_taken inside functions (item ∷ items) key e =
    let s = item.statement in
    let all = keys_in (is_inside_after inside s) (functions + begins s) items in
    let one = key_of inside functions s in
    sym (taken_with one all key)
    ∙ either_still (is_key (function_key s) key) (is_taken (functions_in items) key) (is_key one key) (is_taken all key)
    (function_named inside functions s key) (function_taken (is_inside_after inside s) (functions + begins s) items key) (taken_with (function_key s) (functions_in items) key ∙ e)
