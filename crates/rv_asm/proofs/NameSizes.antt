-- SPDX-License-Identifier: Apache-2.0
-- The names of the symbols of a text of at most 64 MiB come to less than 4 GiB.
use Rattle.std.proofs.Common.{◌≡◌, ℕ, ◌+◌, ◌-◌, ◌*◌, ◌^◌, ◌<◌, ◌≤◌, Bool, true, false, List, [], ◌∷◌, ◌++◌, length, arith}
use Rattle.std.specs.Prelude.{Option, Some, None, map, codes, decimal, if◌then◌else◌}
use Rattle.std.proofs.lemmas.Fmt.{length-decimal-le}
use Rattle.std.proofs.lemmas.List.{length-append}
use Rattle.sh_types.specs.declared.code.Function.{Function}
use Rattle.asm_text.specs.declared.statements.Statement.{Statement}
use Rattle.asm_text.specs.declared.statements.Statement.TheVariants as statement
use Rattle.asm_text.specs.declared.statements.Item.{Item}
use Rattle.asm_text.specs.Sizes.{defined_size, items_size}
use Rattle.asm_text.specs.Source.{source_of}
use Rattle.asm_places.specs.declared.places.Place.{Place}
use Rattle.asm_places.specs.Places.{place_after, first_place}
use Rattle.asm_places.specs.declared.symbols.Scoped.{Scoped}
use Rattle.asm_places.specs.Laying.{laid, text_end}
use Rattle.asm_places.specs.Functions.{ended, open_after, functions_from, functions_of}
use Rattle.asm_places.specs.Symbols.{counted, function_symbol, data_label, inner_symbol, las_in, la_name, outer_symbols, inner_symbols, symbol_of, symbols_of}
use Rattle.rv_asm.specs.Whole.{names_size}

-- the bytes of the names of symbols with their scopes
abbrev size : List Scoped → ℕ
size symbols = names_size (map symbol_of symbols)

size_append : (a b : List Scoped) → size (a ++ b) ≡ size a + size b
unfolding names_size
size_append [] b = omega arith
size_append (s ∷ a) b = omega (arith, size_append a b)

-- ---- functions

-- what the name of an open function takes
abbrev open_size : Option (List ℕ × ℕ) → ℕ
open_size None = 0
open_size (Some begun) = length begun.0 + 1

-- a statement ends the open function, opens one with the name that it defines, or leaves it open
ended_size : (begun : Option (List ℕ × ℕ)) (place : Place) (s : Statement) → size (map function_symbol (ended begun place s)) + open_size (open_after begun place s) ≤ open_size begun + (defined_size s + 1)
unfolding names_size
ended_size None place (statement.Function name) = omega arith
ended_size (Some begun) place (statement.Function name) = omega arith
ended_size None place statement.EndFunction = omega arith
ended_size (Some begun) place statement.EndFunction = omega arith
ended_size None place _ = omega arith
ended_size (Some begun) place _ = omega arith

map_append : (a b : List Function) → size (map function_symbol (a ++ b)) ≡ size (map function_symbol a) + size (map function_symbol b)
unfolding names_size
map_append [] b = omega arith
map_append (f ∷ a) b = omega (arith, map_append a b)

functions_size : (begun : Option (List ℕ × ℕ)) (place : Place) (items : List Item) → size (map function_symbol (functions_from begun place items)) ≤ open_size begun + items_size items
unfolding functions_from items_size names_size
functions_size begun place [] = omega arith
functions_size begun place (item ∷ items) =
    let s = item.statement in
    let next = open_after begun place s in
    omega (arith, map_append (ended begun place s) (functions_from next (place_after place s) items), ended_size begun place s, functions_size next (place_after place s) items)

-- ---- labels

if_size : (n : ℕ) (t : Bool) (a b : List Scoped) → size a ≤ n → size b ≤ n → size (if t then a else b) ≤ n
if_size n true a b x y = x
if_size n false a b x y = y

label_size : (text : ℕ) (p : Place) (s : Statement) → size (data_label text p s) ≤ defined_size s + 1
unfolding data_label names_size
label_size text p (statement.Label name) = if_size (length name + 1) p.inside [] _ (omega arith) (omega arith)
label_size text p _ = omega arith

labels_size : (text : ℕ) (p : Place) (items : List Item) → size (laid (data_label text) p items) ≤ items_size items
unfolding laid items_size names_size
labels_size text p [] = omega arith
labels_size text p (item ∷ items) =
    let next = place_after p item.statement in
    omega (arith, size_append (data_label text p item.statement) (laid (data_label text) next items), label_size text p item.statement, labels_size text next items)

-- the name of a `.La` label has at most 3 bytes and 9 digits
la_size : (n : ℕ) → n < 10 ^ 9 → length (la_name n) ≤ 12
la_size n h = omega (arith, length-append (codes ".La") (decimal n), length-decimal-le 9 n (omega arith) h (omega arith))

inner_size : (las : ℕ) (p : Place) (s : Statement) → las < 10 ^ 9 → size (inner_symbol las p s) ≤ 13 * (defined_size s + 1)
unfolding inner_symbol names_size
inner_size las p (statement.Label name) h = if_size (13 * (length name + 1)) p.inside _ [] (omega arith) (omega arith)
inner_size las p (statement.Address rd name) h = omega (arith, la_size las h)
inner_size las p _ h = omega arith

las_low : (p : Place) (s : Statement) → las_in p s ≤ 1
unfolding las_in
las_low p (statement.Address rd name) = omega arith
las_low p _ = omega arith

inners_size : (las : ℕ) (p : Place) (items : List Item) → las + items_size items < 10 ^ 9 → size (counted inner_symbol las_in las p items) ≤ 13 * items_size items
unfolding counted items_size names_size
inners_size las p [] h = omega arith
inners_size las p (item ∷ items) h =
    let s = item.statement in
    let next = las + las_in p s in
    let one : las_in p s ≤ 1 = las_low p s in
    omega (arith, size_append (inner_symbol las p s) (counted inner_symbol las_in next (place_after p s) items), inner_size las p s (omega arith), inners_size next (place_after p s) items (omega arith))

symbols_size : (items : List Item) → items_size items ≤ 67108864 → names_size (symbols_of items) ≤ 1 + 15 * items_size items
unfolding names_size
symbols_size items h =
    let functions = map function_symbol (functions_of items) in
    let labels = laid (data_label (text_end items)) first_place items in
    omega (
      arith,
      size_append (outer_symbols items) (inner_symbols items),
      size_append functions labels,
      functions_size None first_place items,
      labels_size (text_end items) first_place items,
      inners_size 0 first_place items (omega arith),
    )

pub names_small : (text : List ℕ) → ((t : List ℕ) → items_size (source_of t).items ≤ length t) → length text ≤ 67108864 → names_size (symbols_of (source_of text).items) < 2 ^ 32 - 1
names_small text lie h =
    let items = (source_of text).items in
    let few : items_size items ≤ length text = lie text in
    omega (arith, symbols_size items (omega arith))
