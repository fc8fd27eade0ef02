-- SPDX-License-Identifier: Apache-2.0
-- The numbers of marks are those of symbols.
use Rattle.std.proofs.Common.{◌≡◌, ℕ, suc, ◌+◌, ◌<◌, ◌≤◌, Bool, true, false, List, [], ◌∷◌, ◌++◌, length, refl, arith}
use Rattle.std.specs.Prelude.{Option, Some, None, map, if◌then◌else◌}
use Rattle.std.specs.List.{All}
use Rattle.std.proofs.lemmas.List.Elements.{All-nil, All-cons, All-append}
use Rattle.std.proofs.lemmas.List.{length-map, length-append}
use Rattle.asm_words.specs.Tables.{first_of}
use Rattle.asm_text.specs.declared.statements.Statement.{Statement}
use Rattle.asm_text.specs.declared.statements.Statement.TheVariants as statement
use Rattle.asm_text.specs.declared.statements.Item.{Item}
use Rattle.asm_places.specs.declared.places.Place.{Place}
use Rattle.sh_types.specs.declared.objects.Mark.{Mark}
use Rattle.asm_places.specs.Places.{place_after, first_place}
use Rattle.asm_places.specs.declared.symbols.Scoped.{Scoped}
use Rattle.asm_places.specs.Symbols.{counted, inner_symbol, las_in, inner_symbols, outer_symbols, named_symbols, symbols_of, symbol_of, is_named, number_if, number_at, number_in}
use Rattle.rv_asm.specs.Marks.{mark, number_or, label_or, marks_at, inner_in, marks_of}

first_low : (bound : ℕ) (a b : Option ℕ) → number_or a < bound → number_or b < bound → number_or (first_of a b) < bound
first_low bound None b x y = y
first_low bound (Some a) b x y = x

if_low : (bound n : ℕ) (t : Bool) → n < bound → number_or (if t then Some n else None) < bound
if_low bound n true h = h
if_low bound n false h = omega arith

label_low : (bound : ℕ) (a b : Option ℕ) → number_or a < bound → number_or b < bound → label_or a b < bound
label_low bound None b x y = y
label_low bound (Some a) b x y = x

number_low : (n bound : ℕ) (symbols : List Scoped) (key : ℕ × List ℕ) → 0 < n → n + length symbols ≤ bound → 0 < bound → number_or (number_at n symbols key) < bound
unfolding number_at
number_low n bound [] key pos le some = some
number_low n bound (s ∷ symbols) key pos le some =
    first_low bound (number_at (n + 1) symbols key) (number_if n s key) (number_low (n + 1) bound symbols key (omega arith) (omega arith) some) (if_low bound n (is_named s.scope s.symbol.name key) (omega arith))

if_length : (t : Bool) (s : Scoped) → length (if t then s ∷ [] else []) ≡ (if t then 1 else 0)
if_length true s = refl
if_length false s = refl

pub inner_length : (las : ℕ) (p : Place) (s : Statement) → length (inner_symbol las p s) ≡ inner_in p s
unfolding inner_symbol inner_in
inner_length las p (statement.Label name) = if_length p.inside _
inner_length las p (statement.Address rd name) = refl
inner_length las p _ = refl

abbrev Low : ℕ → Mark → Type 0
Low bound m = m.symbol < bound

lone : (bound : ℕ) (m : Mark) → m.symbol < bound → All (Low bound) (m ∷ [])
lone bound m h = All-cons (Low bound) m [] h (All-nil (Low bound))

marks_low : (find : ℕ → List ℕ → Option ℕ) (first next bound : ℕ) (p : Place) (s : Statement) → ((scope : ℕ) (q : List ℕ) → number_or (find scope q) < bound) → first + (next + inner_in p s) ≤ bound → All (Low bound) (marks_at find first next p s)
unfolding marks_at inner_in
marks_low find first next bound p (statement.Branch op rs1 rs2 label) h le = lone bound _ (h p.functions label)
marks_low find first next bound p (statement.Jump rd target) h le = lone bound _ (label_low bound (find p.functions target) (find 0 target) (h p.functions target) (h 0 target))
marks_low find first next bound p (statement.Call name) h le = lone bound _ (h 0 name)
marks_low find first next bound p (statement.Tail name) h le = lone bound _ (h 0 name)
marks_low find first next bound p (statement.Address rd name) h le = All-cons (Low bound) _ (mark true (p.text + 4) 24 (first + next) ∷ []) (h 0 name) (lone bound (mark true (p.text + 4) 24 (first + next)) (omega arith))
marks_low find first next bound p (statement.Reference width name) h le = lone bound _ (h 0 name)
marks_low find first next bound p _ h le = All-nil (Low bound)

all_low : (find : ℕ → List ℕ → Option ℕ) (first next las bound : ℕ) (p : Place) (items : List Item) → ((scope : ℕ) (q : List ℕ) → number_or (find scope q) < bound)
    → first + (next + length (counted inner_symbol las_in las p items)) ≤ bound → All (Low bound) (counted (marks_at find first) inner_in next p items)
unfolding counted
all_low find first next las bound p [] h le = All-nil (Low bound)
all_low find first next las bound p (item ∷ items) h le =
    let s = item.statement in
    let here = inner_symbol las p s in
    let others = counted inner_symbol las_in (las + las_in p s) (place_after p s) items in
    let both : length (here ++ others) ≡ length here + length others = length-append here others in
    let one : length here ≡ inner_in p s = inner_length las p s in
    All-append (Low bound) (marks_at find first next p s) (counted (marks_at find first) inner_in (next + inner_in p s) (place_after p s) items)
    (marks_low find first next bound p s h (omega arith)) (all_low find first (next + inner_in p s) (las + las_in p s) bound (place_after p s) items h (omega arith))

pub marks_named : (items : List Item) → All (λ (m : Mark). m.symbol < length (symbols_of items)) (marks_of items)
marks_named items =
    let symbols = named_symbols items in
    let bound = suc (length (map symbol_of symbols)) in
    let m : length (map symbol_of symbols) ≡ length symbols = length-map symbols symbol_of in
    let parts : length symbols ≡ length (outer_symbols items) + length (inner_symbols items) = length-append (outer_symbols items) (inner_symbols items) in
    all_low (number_in symbols) (length (outer_symbols items) + 1) 0 0 bound first_place items (λ scope q. number_low 1 bound symbols (scope, q) (omega arith) (omega arith) (omega arith)) (omega arith)
