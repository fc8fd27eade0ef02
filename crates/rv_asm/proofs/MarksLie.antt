-- SPDX-License-Identifier: Apache-2.0
-- The marks of checked items lie in their parts and rise.
use Rattle.std.proofs.Common.{◌≡◌, ℕ, ◌+◌, ◌<◌, ◌≤◌, Bool, true, false, List, [], ◌∷◌, ◌++◌, length, refl, sym, ap, subst, arith, lit<}
use Rattle.std.specs.Prelude.{Option, Contains, if◌then◌else◌}
use Rattle.std.specs.List.{All}
use Rattle.std.proofs.lemmas.List.Elements.{All-nil, All-cons, All-head, All-tail, All-append, All-contains}
use Rattle.asm_text.specs.declared.statements.Statement.{Statement}
use Rattle.asm_text.specs.declared.statements.Statement.TheVariants as statement
use Rattle.asm_text.specs.declared.statements.Item.{Item}
use Rattle.sh_types.specs.declared.objects.Mark.{Mark}
use Rattle.sh_types.specs.declared.objects.Object.{Object}
use Rattle.asm_places.specs.declared.places.Place.{Place}
use Rattle.asm_places.specs.Places.{text_size, data_size, place_after, first_place}
use Rattle.asm_places.specs.Targets.{last_place}
use Rattle.asm_places.specs.Laying.{text_end}
use Rattle.asm_places.specs.Symbols.{counted, number_in, named_symbols, outer_symbols}
use Rattle.rv_asm.specs.Checking.{IsChecked}
use Rattle.rv_asm.specs.Formed.{IsFormed, AreFormed}
use Rattle.rv_asm.specs.Marks.{mark, number_or, label_or, reference_kind, marks_at, inner_in, marks_of}
use Rattle.rv_asm.specs.Whole.{text_bytes, IsInside, AreRising}

-- ---- places never fall

abbrev offset : Bool → Place → ℕ
offset in_text p = if in_text then p.text else p.«data»

stays : (t : Bool) (p : Place) (s : Statement) → offset t p ≤ offset t (place_after p s)
unfolding place_after
stays true p s = omega arith
stays false p s = omega arith

never_falls : (t : Bool) (p : Place) (items : List Item) → offset t p ≤ offset t (last_place p items)
unfolding last_place
never_falls t p [] = omega arith
never_falls t p (item ∷ items) =
    let first = stays t p item.statement in
    let others = never_falls t (place_after p item.statement) items in
    omega (arith, first, others)

-- ---- between two places

record Between (p q : Place) (m : Mark) : Type 0 where
  pub low : offset m.in_text p ≤ m.at
  pub high : m.at < offset m.in_text q

until : (p q r : Place) (items : List Item) (m : Mark) → Between p q m → r ≡ last_place q items → Between p r m
until p q r items m h e =
    let more = never_falls m.in_text q items in
    let high = h.high in
    let end : offset m.in_text r ≡ offset m.in_text (last_place q items) = ap (λ (x : Place). offset m.in_text x) e in
    record { low = h.low; high = omega (arith, more, high, end) }

since : (p q r : Place) (s : Statement) (m : Mark) → q ≡ place_after p s → Between q r m → Between p r m
since p q r s m e h =
    let more = stays m.in_text p s in
    let low = h.low in
    let begin : offset m.in_text q ≡ offset m.in_text (place_after p s) = ap (λ (x : Place). offset m.in_text x) e in
    record { low = omega (arith, more, low, begin); high = h.high }

-- what stands in front of a place is below what stands behind it
apart : (p q r : Place) (m n : Mark) → Between p q m → Between q r n → m.in_text ≡ n.in_text → m.at < n.at
apart p q r m n a b e =
    let high = a.high in
    let low = b.low in
    let same : offset m.in_text q ≡ offset n.in_text q = ap (λ (t : Bool). offset t q) e in
    omega (arith, high, low, same)

abbrev IsBelow : Mark → Mark → Type 0
IsBelow m n = m.in_text ≡ n.in_text → m.at < n.at

rise_on : (p q r : Place) (ms ns : List Mark) → All (Between p q) ms → All (Between q r) ns → AreRising ms → AreRising ns → AreRising (ms ++ ns)
unfolding AreRising
rise_on p q r [] ns a b c d = d
rise_on p q r (m ∷ ms) ns a b c d = (
  All-append (IsBelow m) ms ns c.0 (λ k n lt. apart p q r m _ (All-head (Between p q) m ms a) (b k n lt)),
  rise_on p q r ms ns (All-tail (Between p q) m ms a) b c.1 d,
)

-- ---- the marks of a statement

record Lie (p q : Place) (ms : List Mark) : Type 0 where
  pub between : All (Between p q) ms
  pub rising : AreRising ms

lie_none : (p q : Place) → Lie p q []
unfolding AreRising
lie_none p q = record { between = All-nil (Between p q); rising = tt }

lie_one : (p q : Place) (m : Mark) → Between p q m → Lie p q (m ∷ [])
unfolding AreRising
lie_one p q m h = record { between = All-cons (Between p q) m [] h (All-nil (Between p q)); rising = (All-nil (IsBelow m), tt) }

lie_two : (p q : Place) (m n : Mark) → Between p q m → Between p q n → m.at < n.at → Lie p q (m ∷ n ∷ [])
unfolding AreRising
lie_two p q m n h k lt =
    record {
      between = All-cons (Between p q) m (n ∷ []) h (All-cons (Between p q) n [] k (All-nil (Between p q)));
      rising = (All-cons (IsBelow m) n [] (λ e. lt) (All-nil (IsBelow m)), (All-nil (IsBelow n), tt));
    }

-- names have a width
has_width : (width : ℕ) → Contains (4 ∷ 8 ∷ []) width → 0 < width
has_width width h = All-contains (λ (n : ℕ). 0 < n) (4 ∷ 8 ∷ []) width (All-cons (λ (n : ℕ). 0 < n) 4 (8 ∷ []) (lit< tt) (All-cons (λ (n : ℕ). 0 < n) 8 [] (lit< tt) (All-nil (λ (n : ℕ). 0 < n)))) h

lie_here : (find : ℕ → List ℕ → Option ℕ) (first next : ℕ) (p : Place) (s : Statement) → IsFormed s → Lie p (place_after p s) (marks_at find first next p s)
unfolding marks_at place_after text_size data_size
lie_here find first next p (statement.Branch op rs1 rs2 label) h =
    lie_one p (place_after p (statement.Branch op rs1 rs2 label)) (mark true p.text 16 (number_or (find p.functions label))) (record { low = omega arith; high = omega arith })
lie_here find first next p (statement.Jump rd target) h =
    lie_one p (place_after p (statement.Jump rd target)) (mark true p.text 17 (label_or (find p.functions target) (find 0 target))) (record { low = omega arith; high = omega arith })
lie_here find first next p (statement.Call name) h = lie_one p (place_after p (statement.Call name)) (mark true p.text 19 (number_or (find 0 name))) (record { low = omega arith; high = omega arith })
lie_here find first next p (statement.Tail name) h = lie_one p (place_after p (statement.Tail name)) (mark true p.text 19 (number_or (find 0 name))) (record { low = omega arith; high = omega arith })
lie_here find first next p (statement.Address rd name) h =
    lie_two p (place_after p (statement.Address rd name)) (mark true p.text 23 (number_or (find 0 name))) (mark true (p.text + 4) 24 (first + next)) (record { low = omega arith; high = omega arith })
    (record { low = omega arith; high = omega arith }) (omega arith)
lie_here find first next p (statement.Reference width name) h =
    let some = has_width width h in
    lie_one p (place_after p (statement.Reference width name)) (mark false p.«data» (reference_kind width) (number_or (find 0 name))) (record { low = omega arith; high = omega (arith, some) })
lie_here find first next p s h = lie_none p (place_after p s)

-- ---- all marks

abbrev formed : Item → Type 0
formed item = IsFormed item.statement

lie_joined : (p q r : Place) (s : Statement) (items : List Item) (ms ns : List Mark) → q ≡ place_after p s → r ≡ last_place q items → Lie p q ms → Lie q r ns → Lie p r (ms ++ ns)
lie_joined p q r s items ms ns e l a b =
    record {
      between = All-append (Between p r) ms ns (λ k m lt. until p q r items _ (a.between k m lt) l) (λ k n lt. since p q r s _ e (b.between k n lt));
      rising = rise_on p q r ms ns a.between b.between a.rising b.rising;
    }

all_lie : (find : ℕ → List ℕ → Option ℕ) (first next : ℕ) (p : Place) (items : List Item) → AreFormed items → Lie p (last_place p items) (counted (marks_at find first) inner_in next p items)
unfolding counted last_place
all_lie find first next p [] h = lie_none p p
all_lie find first next p (item ∷ items) h =
    let s = item.statement in
    let q = place_after p s in
    let m = next + inner_in p s in
    lie_joined p q (last_place q items) s items (marks_at find first next p s) (counted (marks_at find first) inner_in m q items) refl refl (lie_here find first next p s (All-head formed item items h))
    (all_lie find first m q items (All-tail formed item items h))

marks_lie : (items : List Item) → IsChecked items → Lie first_place (last_place first_place items) (marks_of items)
marks_lie items c = all_lie (number_in (named_symbols items)) (length (outer_symbols items) + 1) 0 first_place items c.formed

pub marks_rise : (items : List Item) → IsChecked items → AreRising (marks_of items)
marks_rise items c = (marks_lie items c).rising

ends : (t : Bool) (last : Place) (text bytes : ℕ) → text ≡ last.text → bytes ≡ last.«data» → offset t last ≡ (if t then text else bytes)
ends true last text bytes e f = sym e
ends false last text bytes e f = sym f

is_inside : (object : Object) (p last : Place) (m : Mark) → text_bytes object ≡ last.text → length object.bytes ≡ last.«data» → Between p last m → IsInside object m
is_inside object p last m e f h = subst (λ (n : ℕ). m.at < n) (ends m.in_text last (text_bytes object) (length object.bytes) e f) h.high

pub marks_inside : (items : List Item) (object : Object) → IsChecked items → object.marks ≡ marks_of items → text_bytes object ≡ text_end items → length object.bytes ≡ (last_place first_place items).«data»
    → All (IsInside object) object.marks
marks_inside items object c same text bytes =
    let inside : All (IsInside object) (marks_of items) = λ k m lt. is_inside object first_place (last_place first_place items) _ text bytes ((marks_lie items c).between k m lt) in
    subst (All (IsInside object)) (sym same) inside
