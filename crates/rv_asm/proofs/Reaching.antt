-- SPDX-License-Identifier: Apache-2.0
-- In checked items the distance from each statement to what it names fits the statement's instructions.
use Rattle.std.proofs.Common.{◌≡◌, ◌∙◌, ℕ, ◌+◌, ◌-◌, ◌%◌, ◌^◌, ◌<◌, ◌≤◌, Bool, true, false, List, [], ◌∷◌, length, get_or, drop, refl, sym, ap, subst, lit<, lit≤, arith}
use Rattle.std.specs.Prelude.{ℤ, pos, negsuc, ◌-ℤ◌, ◌==◌, ◌&&◌, ◌||◌, nat_lt, Option, Some, None, option_map, if◌then◌else◌}
use Rattle.std.specs.Str.{bytes_eq}
use Rattle.std.proofs.lemmas.Bool.{ltb-true, ltb-false, eqb-true}
use Rattle.std.proofs.lemmas.Int.{ints}
use Rattle.std.proofs.lemmas.List.{at_drop_more}
use Rattle.std.proofs.lemmas.List.Elements.{All-head, All-tail}
use Rattle.rv_table.specs.declared.instructions.Op.{Op}
use Rattle.rv_table.specs.Instruction.{low_bits, IsSigned}
use Rattle.asm_words.specs.Tables.{first_of}
use Rattle.asm_text.specs.declared.statements.Statement.{Statement}
use Rattle.asm_text.specs.declared.statements.Statement.TheVariants as statement
use Rattle.asm_text.specs.declared.statements.Item.{Item}
use Rattle.asm_places.specs.declared.places.Place.{Place}
use Rattle.asm_places.specs.declared.targets.Target.{Target}
use Rattle.asm_places.specs.Names.{key_of, same_key}
use Rattle.asm_places.specs.Places.{is_small, is_misplaced, is_inside_after, misplaced_line, text_size, begins, place_after, first_place}
use Rattle.asm_places.specs.Ranges.{is_from, is_past, range_line}
use Rattle.asm_places.specs.Targets.{target_here, targets_with, targets_in, target_if, target_at, label_or_function, target_of, address_of, data_start, distance_to, is_reached, far_line, last_place}
use Rattle.asm_places.proofs.Placing.{all_fine}
use Rattle.asm_places.proofs.Targeting.{of_same}
use Rattle.rv_asm.specs.Checking.{IsChecked}
use Rattle.rv_asm.specs.Fitting.{Fits, AllFit}
use Rattle.rv_asm.specs.Formed.{IsFormed, AreFormed}
use Rattle.rv_asm.proofs.Fitting.{Reaches, are_instrs}

-- ---- differences

below : (a b : ℕ) → a < b → negsuc (b - a - 1) ≡ pos a -ℤ pos b
below a b h = omega (arith, ints)

above : (a b : ℕ) → b ≤ a → pos (a - b) ≡ pos a -ℤ pos b
above a b h = omega (arith, ints)

by_sign : (P : ℤ → Type 0) (a b : ℕ) (t : Bool) → nat_lt a b ≡ t → ((c : ℕ) → a ≡ b + c → P (pos c)) → ((c : ℕ) → b ≡ a + (c + 1) → P (negsuc c)) → P (pos a -ℤ pos b)
by_sign P a b true e f g =
    let lt : a < b = ltb-true a b e in
    let is : b ≡ a + (b - a - 1 + 1) = omega arith in
    subst P (below a b lt) (g (b - a - 1) is)
by_sign P a b false e f g =
    let le : b ≤ a = ltb-false a b e in
    let is : a ≡ b + (a - b) = omega arith in
    subst P (above a b le) (f (a - b) is)

near_enough : (a b : ℕ) → a < 2 ^ 31 → b < 2 ^ 31 → IsSigned 31 (pos a -ℤ pos b)
near_enough a b l m = by_sign (IsSigned 31) a b (nat_lt a b) refl (λ c e. omega arith) (λ c e. omega arith)

even_13 : (a b : ℕ) → a % 4 ≡ 0 → b % 4 ≡ 0 → low_bits 13 (pos a -ℤ pos b) % 2 ≡ 0
even_13 a b p q = by_sign (λ d. low_bits 13 d % 2 ≡ 0) a b (nat_lt a b) refl (λ c e. omega arith) (λ c e. omega arith)

even_21 : (a b : ℕ) → a % 4 ≡ 0 → b % 4 ≡ 0 → low_bits 21 (pos a -ℤ pos b) % 2 ≡ 0
even_21 a b p q = by_sign (λ d. low_bits 21 d % 2 ≡ 0) a b (nat_lt a b) refl (λ c e. omega arith) (λ c e. omega arith)

signed : (k low : ℕ) (imm : ℤ) → low ≤ 2 ^ k → is_from low low imm ≡ true → IsSigned k imm
signed k low (pos n) l e = let lt : n < low = ltb-true n low e in omega arith
signed k low (negsuc n) l e = let lt : n < low = ltb-true n low e in omega arith

-- ---- places

-- a place whose offsets are short, in the text a multiple of four, and in a function only behind the first of them
record Even (place : Place) : Type 0 where
  pub four : place.text % 4 ≡ 0
  pub begun : place.inside ≡ true → 0 < place.functions
  pub short : is_past place ≡ false

neither : (a b : Bool) → (a || b) ≡ false → (a ≡ false) × (b ≡ false)
neither true b e = (cc, cc)
neither false b e = (refl, e)

pub short_text : (p : Place) → is_past p ≡ false → p.text ≤ 67108864
short_text p e = ltb-false 67108864 p.text (neither (nat_lt 67108864 p.text) (nat_lt 67108864 p.«data») e).0

pub short_data : (p : Place) → is_past p ≡ false → p.«data» ≤ 67108864
short_data p e = ltb-false 67108864 p.«data» (neither (nat_lt 67108864 p.text) (nat_lt 67108864 p.«data») e).1

literal_four : (t : Bool) → (if t then 4 else 8) % 4 ≡ 0
literal_four true = refl
literal_four false = refl

size_four : (s : Statement) → text_size s % 4 ≡ 0
unfolding text_size
size_four (statement.Nops count) = omega arith
size_four (statement.Literal rd value) = literal_four (is_small value)
size_four _ = refl

begun_after : (inside : Bool) (functions : ℕ) (s : Statement) → (inside ≡ true → 0 < functions) → is_inside_after inside s ≡ true → 0 < functions + begins s
unfolding is_inside_after
begun_after inside functions (statement.Function name) h e = omega arith
begun_after inside functions statement.EndFunction h e = absurd (cc)
begun_after inside functions _ h e = let low : 0 < functions = h e in omega arith

even_after : (place : Place) (s : Statement) → Even place → is_past (place_after place s) ≡ false → Even (place_after place s)
unfolding place_after
even_after place s h short =
    let size : text_size s % 4 ≡ 0 = size_four s in
    let here : place.text % 4 ≡ 0 = h.four in
    record { four = omega arith; begun = begun_after place.inside place.functions s h.begun; short = short }

even_first : Even first_place
even_first = record { four = refl; begun = λ e. absurd (cc); short = refl }

pub last_short : (place : Place) (items : List Item) → is_past place ≡ false → range_line place items ≡ None → is_past (last_place place items) ≡ false
unfolding last_place
last_short place [] p e = p
last_short place (item ∷ items) p e = let fine = all_fine place item items e in last_short (place_after place item.statement) items fine.1 fine.2

-- ---- targets

-- what a name of a scope stands for: labels of functions and functions are in the text, there a multiple of four
record Near (scope : ℕ) (t : Target) : Type 0 where
  pub small : t.at ≤ 67108864
  pub inner : 0 < scope → t.code ≡ true
  pub whole : t.function ≡ true → t.code ≡ true
  pub four : t.code ≡ true → t.at % 4 ≡ 0

record AllNear (find : ℕ → List ℕ → Option Target) : Type 0 where
  pub each : (scope : ℕ) (name : List ℕ) (t : Target) → find scope name ≡ Some t → Near scope t

either : (a b : Option Target) (t : Target) (P : Target → Type 0) → ((x : Target) → a ≡ Some x → P x) → ((x : Target) → b ≡ Some x → P x) → first_of a b ≡ Some t → P t
either None b t P f g e = g t e
either (Some x) b t P f g e = f t e

if_some : (b : Bool) (x t : Target) → (if b then Some x else None) ≡ Some t → (b ≡ true) × (x ≡ t)
if_some true x t e = (refl, cc)
if_some false x t e = (cc, cc)

pub both : (a b : Bool) → (a && b) ≡ true → (a ≡ true) × (b ≡ true)
both true b e = (refl, e)
both false b e = (cc, cc)

same_scope : (a b : ℕ × List ℕ) → same_key a b ≡ true → a.0 ≡ b.0
same_scope a b e = eqb-true a.0 b.0 (both (a.0 == b.0) (bytes_eq a.1 b.1) e).0

label_near : (inside : Bool) (functions text here : ℕ) (scope : ℕ) → (if inside then functions else 0) ≡ scope → text ≤ 67108864 → here ≤ 67108864 → text % 4 ≡ 0
    → Near scope (record { function = false; code = inside; at = if inside then text else here })
label_near true functions text here scope e a b c = record { small = a; inner = λ l. refl; whole = λ l. refl; four = λ l. c }
label_near false functions text here scope e a b c = record { small = b; inner = λ l. absurd (omega arith); whole = λ l. cc; four = λ l. cc }

here_near : (place : Place) (s : Statement) (key : ℕ × List ℕ) (scope : ℕ) → Even place → key_of place.inside place.functions s ≡ Some key → key.0 ≡ scope → Near scope (target_here place s)
unfolding key_of
here_near place (statement.Function name) key scope h k e =
    record { small = short_text place h.short; inner = λ l. refl; whole = λ l. refl; four = λ l. h.four }
here_near place (statement.Label name) key scope h k e =
    let is : ((if place.inside then place.functions else 0), name) ≡ key = cc in
    let number : (if place.inside then place.functions else 0) ≡ scope = ap (λ (x : ℕ × List ℕ). x.0) is ∙ e in
    label_near place.inside place.functions place.text place.«data» scope number (short_text place h.short) (short_data place h.short) h.four
here_near place _ key scope h k e = absurd (cc)

defined_near : (place : Place) (s : Statement) (key : Option (ℕ × List ℕ)) → key_of place.inside place.functions s ≡ key → Even place
    → (others : List ((ℕ × List ℕ) × Target)) (scope : ℕ) (name : List ℕ) (t : Target) → ((x : Target) → target_at others (scope, name) ≡ Some x → Near scope x)
    → target_at (targets_with (option_map (λ k. (k, target_here place s)) key) others) (scope, name) ≡ Some t → Near scope t
unfolding target_at
defined_near place s None k h others scope name t rest e = rest t e
defined_near place s (Some key) k h others scope name t rest e =
    let one = target_here place s in
    either (target_at others (scope, name)) (target_if (key, one) (scope, name)) t (Near scope) rest
    (λ x f. let parts = if_some (same_key key (scope, name)) one x f in subst (Near scope) parts.1 (here_near place s key scope h k (same_scope key (scope, name) parts.0))) e

targets_near : (place : Place) (items : List Item) → Even place → range_line place items ≡ None → (scope : ℕ) (name : List ℕ) (t : Target) → target_at (targets_in place items) (scope, name) ≡ Some t → Near scope t
unfolding targets_in target_at
targets_near place [] h r scope name t e = absurd (cc)
targets_near place (item ∷ items) h r scope name t e =
    let fine = all_fine place item items r in
    let after = place_after place item.statement in
    defined_near place item.statement (key_of place.inside place.functions item.statement) refl h (targets_in after items) scope name t
    (targets_near after items (even_after place item.statement h fine.1) fine.2 scope name) e

-- ---- distances

address_small : (code : Bool) (at size : ℕ) → at ≤ 67108864 → size ≤ 67108864 → (if code then 0x10000 + at else data_start size + at) < 2 ^ 31
address_small true at size a l = omega arith
address_small false at size a l = omega arith

distance_signed : (size : ℕ) (place : Place) (o : Option Target) → size ≤ 67108864 → Even place → ((t : Target) → o ≡ Some t → t.at ≤ 67108864) → IsSigned 31 (distance_to size place o)
distance_signed size place None l h small = lit< tt
distance_signed size place (Some t) l h small = near_enough (address_of size t) (0x10000 + place.text) (address_small t.code t.at size (small t refl) l) (let s : place.text ≤ 67108864 = short_text place h.short in omega arith)

chosen : (c : Bool) (a b : ℕ) → c ≡ true → (if c then a else b) ≡ a
chosen true a b e = refl
chosen false a b e = absurd (cc)

code_address : (size : ℕ) (t : Target) → t.code ≡ true → address_of size t ≡ 0x10000 + t.at
code_address size t e = chosen t.code (0x10000 + t.at) (data_start size + t.at) e

-- a target in the text, a multiple of four
abbrev InText : Option Target → Type 0
InText o = (t : Target) → o ≡ Some t → (t.code ≡ true) × (t.at % 4 ≡ 0)

four_address : (size : ℕ) (t : Target) → (t.code ≡ true) × (t.at % 4 ≡ 0) → address_of size t % 4 ≡ 0
four_address size t h =
    let four : t.at % 4 ≡ 0 = h.1 in
    let is : (0x10000 + t.at) % 4 ≡ 0 = omega arith in
    ap (λ (n : ℕ). n % 4) (code_address size t h.0) ∙ is

four_here : (place : Place) → Even place → (0x10000 + place.text) % 4 ≡ 0
four_here place h = let four : place.text % 4 ≡ 0 = h.four in omega arith

even_branch : (size : ℕ) (place : Place) (o : Option Target) → Even place → InText o → low_bits 13 (distance_to size place o) % 2 ≡ 0
even_branch size place None h i = refl
even_branch size place (Some t) h i = even_13 (address_of size t) (0x10000 + place.text) (four_address size t (i t refl)) (four_here place h)

even_jump : (size : ℕ) (place : Place) (o : Option Target) → Even place → InText o → low_bits 21 (distance_to size place o) % 2 ≡ 0
even_jump size place None h i = refl
even_jump size place (Some t) h i = even_21 (address_of size t) (0x10000 + place.text) (four_address size t (i t refl)) (four_here place h)

labelled : (a b : Option Target) (P : Target → Type 0) → ((x : Target) → a ≡ Some x → P x) → ((x : Target) → b ≡ Some x → x.function ≡ true → P x) → (t : Target) → label_or_function a b ≡ Some t → P t
labelled (Some x) b P f g t e = f t e
labelled None None P f g t e = absurd (cc)
labelled None (Some x) P f g t e =
    let parts = if_some x.function x t e in subst P parts.1 (g x refl parts.0)

target_small : (find : ℕ → List ℕ → Option Target) → AllNear find → (number : ℕ) (s : Statement) (t : Target) → target_of find number s ≡ Some t → t.at ≤ 67108864
unfolding target_of
target_small find near number (statement.Branch op rs1 rs2 label) t e = (near.each number label t e).small
target_small find near number (statement.Jump rd target) t e =
    labelled (find number target) (find 0 target) (λ x. x.at ≤ 67108864) (λ x f. (near.each number target x f).small) (λ x f u. (near.each 0 target x f).small) t e
target_small find near number (statement.Reference width name) t e = (near.each 0 name t e).small
target_small find near number (statement.Address rd name) t e = (near.each 0 name t e).small
target_small find near number (statement.Call name) t e = (near.each 0 name t e).small
target_small find near number (statement.Tail name) t e = (near.each 0 name t e).small
target_small find near number _ t e = absurd (cc)

inner_text : (find : ℕ → List ℕ → Option Target) → AllNear find → (number : ℕ) (name : List ℕ) → 0 < number → InText (find number name)
inner_text find near number name low t e =
    let n = near.each number name t e in
    let code : t.code ≡ true = n.inner low in
    (code, n.four code)

function_text : (find : ℕ → List ℕ → Option Target) → AllNear find → (name : List ℕ) (t : Target) → find 0 name ≡ Some t → t.function ≡ true → (t.code ≡ true) × (t.at % 4 ≡ 0)
function_text find near name t e f =
    let n = near.each 0 name t e in
    let code : t.code ≡ true = n.whole f in
    (code, n.four code)

branch_inside : (inside : Bool) (op : Op) (rs1 rs2 : ℕ) (label : List ℕ) → is_misplaced inside (statement.Branch op rs1 rs2 label) ≡ false → inside ≡ true
unfolding is_misplaced
branch_inside true op rs1 rs2 label e = refl
branch_inside false op rs1 rs2 label e = cc

jump_inside : (inside : Bool) (rd : ℕ) (target : List ℕ) → is_misplaced inside (statement.Jump rd target) ≡ false → inside ≡ true
unfolding is_misplaced
jump_inside true rd target e = refl
jump_inside false rd target e = cc

reaches : (find : ℕ → List ℕ → Option Target) (size : ℕ) (place : Place) (s : Statement) → AllNear find → Even place → is_misplaced place.inside s ≡ false
    → is_reached (distance_to size place (target_of find place.functions s)) s ≡ true → Reaches (distance_to size place (target_of find place.functions s)) s
unfolding is_reached target_of
reaches find size place (statement.Branch op rs1 rs2 label) near h m r =
    let low : 0 < place.functions = h.begun (branch_inside place.inside op rs1 rs2 label m) in
    let o = find place.functions label in
    (signed 12 4096 (distance_to size place o) (lit≤ tt) r, even_branch size place o h (inner_text find near place.functions label low))
reaches find size place (statement.Jump rd target) near h m r =
    let low : 0 < place.functions = h.begun (jump_inside place.inside rd target m) in
    let o = label_or_function (find place.functions target) (find 0 target) in
    let inside : InText o = labelled (find place.functions target) (find 0 target) (λ x. (x.code ≡ true) × (x.at % 4 ≡ 0)) (inner_text find near place.functions target low) (function_text find near target) in
    (signed 20 (2 ^ 20) (distance_to size place o) (lit≤ tt) r, even_jump size place o h inside)
reaches find size place _ near h m r = tt

-- ---- all items

pub near_line : (r : Bool) (line : ℕ) (rest : Option ℕ) → (if r then rest else Some line) ≡ None → (r ≡ true) × (rest ≡ None)
near_line true line rest e = (refl, e)
near_line false line rest e = (cc, cc)

pub placed_line : (m : Bool) (line : ℕ) (rest : Option ℕ) → (if m then Some line else rest) ≡ None → (m ≡ false) × (rest ≡ None)
placed_line true line rest e = (cc, cc)
placed_line false line rest e = (refl, e)

all_fit : (find : ℕ → List ℕ → Option Target) (size : ℕ) (place : Place) (items : List Item) → AllNear find → size ≤ 67108864 → Even place → AreFormed items → range_line place items ≡ None
    → misplaced_line place.inside items ≡ None → far_line find size place items ≡ None → AllFit find size place items
unfolding AllFit misplaced_line far_line place_after
all_fit find size place [] near l h f r m n = tt
all_fit find size place (item ∷ items) near l h f r m n =
    let s = item.statement in
    let after = place_after place s in
    let o = target_of find place.functions s in
    let fine = all_fine place item items r in
    let placed = placed_line (is_misplaced place.inside s) item.line (misplaced_line (is_inside_after place.inside s) items) m in
    let reached = near_line (is_reached (distance_to size place o) s) item.line (far_line find size after items) n in
    let fits : Fits (distance_to size place o) s = record {
      signed = distance_signed size place o l h (target_small find near place.functions s);
      instrs = are_instrs (distance_to size place o) s (All-head (λ (i : Item). IsFormed i.statement) item items f) fine.0 (reaches find size place s near h placed.0 reached.0);
    } in
    (fits, all_fit find size after items near l (even_after place s h fine.1) (All-tail (λ (i : Item). IsFormed i.statement) item items f) fine.2 placed.1 reached.1)

fit_same : (f g : ℕ → List ℕ → Option Target) (size : ℕ) (place : Place) (items : List Item) → ((s : ℕ) (q : List ℕ) → f s q ≡ g s q) → AllFit g size place items → AllFit f size place items
unfolding AllFit
fit_same f g size place [] h a = tt
fit_same f g size place (item ∷ items) h a =
    (subst (λ (o : Option Target). Fits (distance_to size place o) item.statement) (sym (of_same f g h place.functions item.statement)) a.0, fit_same f g size (place_after place item.statement) items h a.1)

pub checked_fit : (find : ℕ → List ℕ → Option Target) (last : Place) (items : List Item) → IsChecked items → last ≡ last_place first_place items
    → ((s : ℕ) (q : List ℕ) → find s q ≡ target_at (targets_in first_place items) (s, q)) → AllFit find last.text first_place items
checked_fit find last items c e same =
    let all = λ (s : ℕ) (q : List ℕ). target_at (targets_in first_place items) (s, q) in
    let end = last_place first_place items in
    let size : end.text ≤ 67108864 = short_text end (last_short first_place items refl c.range) in
    let fits : AllFit all end.text first_place items = all_fit all end.text first_place items (record { each = targets_near first_place items even_first c.range }) size even_first c.formed c.range c.placed c.near in
    fit_same find all last.text first_place items same (subst (λ (p : Place). AllFit all p.text first_place items) (sym e) fits)

-- ---- a loop over them

at_item : (items : List Item) (i : ℕ) (item : Item) → i < length items → item ≡ get_or items i item → drop i items ≡ item ∷ drop (i + 1) items
at_item items i item lt same = at_drop_more (λ (is : List Item). is) items i item lt ∙ ap (λ (x : Item). x ∷ drop (i + 1) items) (sym same)

headed : (find : ℕ → List ℕ → Option Target) (size : ℕ) (place : Place) (item : Item) (items : List Item) → AllFit find size place (item ∷ items)
    → Fits (distance_to size place (target_of find place.functions item.statement)) item.statement × AllFit find size (place_after place item.statement) items
unfolding AllFit
headed find size place item items a = a

pub fits_here : (find : ℕ → List ℕ → Option Target) (size : ℕ) (place : Place) (items : List Item) (i : ℕ) (item : Item) → i < length items → item ≡ get_or items i item
    → AllFit find size place (drop i items) → Fits (distance_to size place (target_of find place.functions item.statement)) item.statement
fits_here find size place items i item lt same a = (headed find size place item (drop (i + 1) items) (subst (AllFit find size place) (at_item items i item lt same) a)).0

pub stays_fit : (find : ℕ → List ℕ → Option Target) (size : ℕ) (place next : Place) (items : List Item) (i : ℕ) (item : Item) → i < length items → item ≡ get_or items i item → next ≡ place_after place item.statement
    → AllFit find size place (drop i items) → AllFit find size next (drop (i + 1) items)
stays_fit find size place next items i item lt same n a =
    subst (λ (p : Place). AllFit find size p (drop (i + 1) items)) (sym n) (headed find size place item (drop (i + 1) items) (subst (AllFit find size place) (at_item items i item lt same) a)).1
