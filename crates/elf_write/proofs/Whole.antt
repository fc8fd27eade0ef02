-- SPDX-License-Identifier: Apache-2.0
-- The object of a source without a fault can be written.
use Rattle.std.proofs.Common.{◌≡◌, ℕ, zero, suc, ◌+◌, ◌-◌, ◌^◌, ◌<◌, ◌≤◌, Bool, true, false, cond, List, [], ◌∷◌, length, map, get_or, refl, sym, subst, ◌∙◌, arith, add-one}
use Rattle.std.specs.Prelude.{filter, if◌then◌else◌}
use Rattle.std.specs.List.{All}
use Rattle.std.specs.List.Sorted.{IsStrictlyIncreasing}
use Rattle.std.proofs.lemmas.List.{length-append, length-map}
use Rattle.std.proofs.lemmas.List.Elements.{All-filter, All-map, filter_passes}
use Rattle.std.proofs.lemmas.List.Filters.{length-filter_both}
use Rattle.sh_types.specs.declared.symbols.Symbol.{Symbol}
use Rattle.asm_text.specs.declared.statements.Item.{Item}
use Rattle.sh_types.specs.declared.objects.Object.{Object}
use Rattle.sh_types.specs.declared.objects.Mark.{Mark}
use Rattle.rv_asm.specs.Whole.{text_bytes, IsInside, AreRising, names_size, IsWhole}
use Rattle.elf_write.specs.Parts.{is_in, string_table, names_in, text_part, data_part}
use Rattle.elf_write.specs.Writable.{IsMark, IsWritable}

-- ---- sizes

text_size : (object : Object) → (text_part object).size ≡ text_bytes object
unfolding text_part
text_size object = refl

data_size : (object : Object) → (data_part object).size ≡ length object.bytes
unfolding data_part
data_size object = refl

table_size : (symbols : List Symbol) → length (string_table (names_in symbols)) ≡ names_size symbols
unfolding string_table names_size
table_size [] = refl
table_size (s ∷ symbols) =
    let rest = table_size symbols in
    simp length-append (omega arith)

-- ---- marks

is_mark : (object : Object) (m : Mark) → IsInside object m → m.symbol < length object.symbols → IsMark object m
unfolding text_part data_part
is_mark object m inside symbol = record { inside = inside; symbol = symbol }

rises_none : IsStrictlyIncreasing []
rises_none k inside = absurd (omega arith)

-- a number before others that rise, each above it
rises_more : (x : ℕ) (xs : List ℕ) → All (λ y. x < y) xs → IsStrictlyIncreasing xs → IsStrictlyIncreasing (x ∷ xs)
rises_more x xs above rises zero inside = above 0 0 (omega arith)
rises_more x xs above rises (suc k) inside =
    let next : suc k + 1 ≡ suc (k + 1) = omega arith in
    subst (λ n. get_or xs k 0 < get_or (x ∷ xs) n 0) (sym next) (rises k (omega arith))

same_part : (in_text a b : Bool) (m n : Mark) → m.in_text ≡ a → n.in_text ≡ b → is_in in_text m ≡ true → is_in in_text n ≡ true → m.in_text ≡ n.in_text
same_part true a b m n ma nb x y = x ∙ sym y
same_part false true b m n ma nb x y = cc
same_part false false true m n ma nb x y = cc
same_part false false false m n ma nb x y = ma ∙ sym nb

unfoldable places : List Mark → List ℕ
places marks = map (λ (m : Mark). m.at) marks

above : (in_text : Bool) (m : Mark) (ms : List Mark) → is_in in_text m ≡ true → All (λ (n : Mark). m.in_text ≡ n.in_text → m.at < n.at) ms → All (λ y. m.at < y) (places (filter (is_in in_text) ms))
unfolding places
above in_text m ms here later =
    let rest = filter (is_in in_text) ms in
    let all = All-filter (is_in in_text) (λ (n : Mark). m.in_text ≡ n.in_text → m.at < n.at) ms later in
    let passes = filter_passes (is_in in_text) ms in
    All-map (λ y. m.at < y) (λ (n : Mark). n.at) rest (λ k d lt. let n = get_or rest k d in all k d lt (same_part in_text m.in_text n.in_text m n refl refl here (passes k d lt)))

kept : (b : Bool) (m : Mark) (ms : List Mark) → (b ≡ true → All (λ y. m.at < y) (places ms)) → IsStrictlyIncreasing (places ms) → IsStrictlyIncreasing (places (cond b (m ∷ ms) ms))
unfolding places
kept true m ms more rises = rises_more m.at (map (λ (n : Mark). n.at) ms) (more refl) rises
kept false m ms more rises = rises

marks_rise : (in_text : Bool) (marks : List Mark) → AreRising marks → IsStrictlyIncreasing (places (filter (is_in in_text) marks))
unfolding AreRising places
marks_rise in_text [] rising = rises_none
marks_rise in_text (m ∷ ms) rising =
    kept (is_in in_text m) m (filter (is_in in_text) ms) (λ here. above in_text m ms here rising.0) (marks_rise in_text ms rising.1)

-- numbers that rise are at least their places
at_least : (xs : List ℕ) → IsStrictlyIncreasing xs → (k : ℕ) → k < length xs → k ≤ get_or xs k 0
at_least xs rises zero inside = omega arith
at_least xs rises (suc k) inside =
    let before : k ≤ get_or xs k 0 = at_least xs rises k (omega arith) in
    let step : get_or xs k 0 < get_or xs (k + 1) 0 = rises k (omega arith) in
    let next : get_or xs k 0 < get_or xs (suc k) 0 = rw add-one at step in
    omega arith

-- numbers below n that rise are at most n
at_most : (xs : List ℕ) (n : ℕ) → IsStrictlyIncreasing xs → All (λ x. x < n) xs → length xs ≤ n
at_most [] n rises below = omega arith
at_most (x ∷ xs) n rises below =
    let last : length xs ≤ get_or (x ∷ xs) (length xs) 0 = at_least (x ∷ xs) rises (length xs) (omega arith) in
    let bound : get_or (x ∷ xs) (length xs) 0 < n = below (length xs) 0 (omega arith) in
    omega arith

-- the marks of one part are no more than its bytes
few_in : (object : Object) (in_text : Bool) → All (λ (m : Mark). m.at < 67108864) object.marks → AreRising object.marks → length (filter (is_in in_text) object.marks) ≤ 67108864
unfolding places
few_in object in_text low rising =
    let at : Mark → ℕ = λ (m : Mark). m.at in
    let below : All (λ x. x < 67108864) (map at (filter (is_in in_text) object.marks)) =
    All-map (λ x. x < 67108864) at (filter (is_in in_text) object.marks) (All-filter (is_in in_text) (λ (m : Mark). m.at < 67108864) object.marks low) in
    let few = at_most (map at (filter (is_in in_text) object.marks)) 67108864 (marks_rise in_text object.marks rising) below in
    rw length-map at few

low_mark : (b : Bool) (at text data_size : ℕ) → text ≤ 67108864 → data_size ≤ 67108864 → at < (if b then text else data_size) → at < 67108864
low_mark true at text data_size t d h = omega arith
low_mark false at text data_size t d h = omega arith

few_marks : (items : List Item) (object : Object) → IsWhole items object → length object.marks < 2 ^ 32
few_marks items object w =
    let low : All (λ (m : Mark). m.at < 67108864) object.marks =
    λ k d lt. let m = get_or object.marks k d in low_mark m.in_text m.at (text_bytes object) (length object.bytes) w.text w.bytes (w.inside k d lt) in
    let code = few_in object true low w.rising in
    let values = few_in object false low w.rising in
    let both = length-filter_both (is_in true) (is_in false) (λ (m : Mark). refl) object.marks in
    omega arith

pub writable : (items : List Item) (object : Object) → IsWhole items object → IsWritable object
writable items object w =
    record {
      text = subst (λ n. n ≤ 67108864) (sym (text_size object)) w.text;
      data_size = subst (λ n. n ≤ 67108864) (sym (data_size object)) w.bytes;
      names = subst (λ n. n < 2 ^ 32 - 1) (sym (table_size object.symbols)) w.names;
      entry = w.entry;
      marks = λ k d lt. is_mark object (get_or object.marks k d) (w.inside k d lt) (w.symbols k d lt);
      few = few_marks items object w;
    }
