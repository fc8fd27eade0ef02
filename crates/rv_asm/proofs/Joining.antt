-- SPDX-License-Identifier: Apache-2.0
-- The words of the functions are all words of the text, and the sizes of the text and of the data.
use Rattle.std.proofs.Common.{◌≡◌, ℕ, suc, ◌+◌, ◌-◌, ◌*◌, ◌/◌, ◌<◌, ◌≤◌, min, Bool, true, false, List, [], ◌∷◌, ◌++◌, length, take, drop, refl, sym, ap, subst, ◌∙◌, append_assoc, length-append, length-take, arith}
use Rattle.std.specs.Prelude.{ℤ, Option, Some, None, map, replicate, ◌||◌, if◌then◌else◌}
use Rattle.std.specs.Int.{w64, to_le_bytes}
use Rattle.std.specs.List.{concat, Contains}
use Rattle.std.specs.Str.{bytes_eq}
use Rattle.std.proofs.lemmas.List.{append-nil, length-replicate, take_at, drop_at, nil_from_length}
use Rattle.std.proofs.lemmas.List.Elements.{All-head, All-tail, All-nil, All-cons, All-contains}
use Rattle.sh_types.specs.declared.code.Function.{Function}
use Rattle.rv_table.specs.declared.instructions.Op.TheVariants.{Lui, Addi, Addiw}
use Rattle.rv_table.specs.Instruction.{low_bits, word_of}
use Rattle.rv_table.specs.Decoding.{made}
use Rattle.asm_text.specs.declared.statements.Statement.{Statement}
use Rattle.asm_text.specs.declared.statements.Statement.TheVariants as statement
use Rattle.asm_text.specs.declared.statements.Item.{Item}
use Rattle.asm_places.specs.declared.places.Place.{Place}
use Rattle.asm_places.specs.declared.targets.Target.{Target}
use Rattle.asm_places.specs.Names.{is_taken, keys_with, functions_in, function_key}
use Rattle.asm_places.specs.Places.{is_small, natural, padding, text_size, data_size, is_misplaced, is_inside_after, misplaced_line, is_open, place_after, first_place}
use Rattle.asm_places.specs.Targets.{target_of, distance_to, last_place}
use Rattle.asm_places.specs.Laying.{laid, text_end}
use Rattle.asm_places.specs.Functions.{ended, open_after, functions_from, functions_of}
use Rattle.rv_asm.specs.Checking.{IsChecked}
use Rattle.rv_asm.specs.Data.{low_bytes, address_or, data_bytes, text_words, target_in, text_of, data_of}
use Rattle.rv_asm.specs.Formed.{IsFormed, AreFormed}
use Rattle.rv_asm.specs.Object.{words_in, function_number, entry_number}
use Rattle.rv_asm.specs.Passes.{entry_of, is_function_name}
use Rattle.rv_asm.specs.Words.{upper, lower, instrs_of, plain_words, words_of}
use Rattle.rv_asm.proofs.Reaching.{short_text, short_data, last_short, placed_line}

-- ---- the sizes of the text and of the data

literal_words : (t : Bool) (rd : ℕ) (value : ℤ) → 4 * length (map word_of (if t then made Addi rd 0 0 value ∷ [] else made Lui rd 0 0 (upper value) ∷ made Addiw rd rd 0 (lower value) ∷ [])) ≡ (if t then 4 else 8)
literal_words true rd value = refl
literal_words false rd value = refl

nops_words : (n word : ℕ) → 4 * length (replicate n word ++ []) ≡ 4 * n
nops_words n word = ap (λ (w : List ℕ). 4 * length w) (append-nil (replicate n word)) ∙ ap (λ (m : ℕ). 4 * m) (length-replicate n word)

words_size : (distance : ℤ) (s : Statement) → 4 * length (words_of distance s) ≡ text_size s
unfolding instrs_of plain_words text_size
words_size distance (statement.Nops count) = nops_words (natural count) 0x13
words_size distance (statement.Literal rd value) = literal_words (is_small value) rd value
words_size distance _ = refl

four_more : (b c : List ℕ) (n m total : ℕ) → 4 * length b ≡ m → n + m + 4 * length c ≡ total → n + 4 * length (b ++ c) ≡ total
four_more b c n m total size rest =
    let both : length (b ++ c) ≡ length b + length c = length-append b c in
    omega arith

text_from : (find : ℕ → List ℕ → Option Target) (size : ℕ) (place : Place) (items : List Item) → place.text + 4 * length (laid (text_words find size) place items) ≡ (last_place place items).text
unfolding laid text_words last_place place_after
text_from find size place [] = omega arith
text_from find size place (item ∷ items) =
    let s = item.statement in
    four_more (text_words find size place s) (laid (text_words find size) (place_after place s) items) place.text (text_size s) (last_place (place_after place s) items).text
    (words_size (distance_to size place (target_of find place.functions s)) s) (text_from find size (place_after place s) items)

pub text_size_of : (items : List Item) → IsChecked items → 4 * length (text_of items) ≡ text_end items
text_size_of items c = let all = text_from (target_in items) (text_end items) first_place items in omega arith

pub text_short : (items : List Item) → IsChecked items → 4 * length (text_of items) ≤ 67108864
text_short items c =
    let last = last_place first_place items in
    let short : last.text ≤ 67108864 = short_text last (last_short first_place items refl c.range) in
    let size : 4 * length (text_of items) ≡ last.text = text_size_of items c in
    omega arith

low_length : (width n : ℕ) → width ≤ 8 → length (low_bytes width n) ≡ width
low_length width n narrow =
    let all : length (to_le_bytes w64 n) ≡ 8 = refl in
    let cut : length (low_bytes width n) ≡ min (min width 8) (length (to_le_bytes w64 n)) = length-take (min width 8) (to_le_bytes w64 n) in
    omega arith

abbrev Narrow : ℕ → Type 0
Narrow width = width ≤ 8

value_narrow : (width : ℕ) → Contains (1 ∷ 4 ∷ 8 ∷ []) width → width ≤ 8
value_narrow width h =
    All-contains Narrow (1 ∷ 4 ∷ 8 ∷ []) width (All-cons Narrow 1 (4 ∷ 8 ∷ []) (omega arith) (All-cons Narrow 4 (8 ∷ []) (omega arith) (All-cons Narrow 8 [] (omega arith) (All-nil Narrow)))) h

reference_narrow : (width : ℕ) → Contains (4 ∷ 8 ∷ []) width → width ≤ 8
reference_narrow width h = All-contains Narrow (4 ∷ 8 ∷ []) width (All-cons Narrow 4 (8 ∷ []) (omega arith) (All-cons Narrow 8 [] (omega arith) (All-nil Narrow))) h

bytes_size : (find : ℕ → List ℕ → Option Target) (size : ℕ) (place : Place) (s : Statement) → IsFormed s → length (data_bytes find size place s) ≡ data_size place.«data» s
unfolding data_bytes data_size
bytes_size find size place (statement.Value width value) h = low_length width (low_bits 64 value) (value_narrow width h)
bytes_size find size place (statement.Reference width name) h = low_length width (address_or size (find 0 name)) (reference_narrow width h)
bytes_size find size place (statement.Zero count) h = length-replicate (natural count) 0
bytes_size find size place (statement.Align to) h = length-replicate (padding place.«data» (natural to)) 0
bytes_size find size place _ h = refl

one_more : (b c : List ℕ) (n m total : ℕ) → length b ≡ m → n + m + length c ≡ total → n + length (b ++ c) ≡ total
one_more b c n m total size rest =
    let both : length (b ++ c) ≡ length b + length c = length-append b c in
    omega arith

data_from : (find : ℕ → List ℕ → Option Target) (size : ℕ) (place : Place) (items : List Item) → AreFormed items → place.«data» + length (laid (data_bytes find size) place items) ≡ (last_place place items).«data»
unfolding laid last_place place_after
data_from find size place [] f = omega arith
data_from find size place (item ∷ items) f =
    let s = item.statement in
    one_more (data_bytes find size place s) (laid (data_bytes find size) (place_after place s) items) place.«data» (data_size place.«data» s) (last_place (place_after place s) items).«data»
    (bytes_size find size place s (All-head (λ (i : Item). IsFormed i.statement) item items f)) (data_from find size (place_after place s) items (All-tail (λ (i : Item). IsFormed i.statement) item items f))

pub data_size_of : (items : List Item) → IsChecked items → length (data_of items) ≡ (last_place first_place items).«data»
data_size_of items c = let all = data_from (target_in items) (text_end items) first_place items c.formed in omega arith

pub data_short : (items : List Item) → IsChecked items → length (data_of items) ≤ 67108864
data_short items c =
    let last = last_place first_place items in
    let short : last.«data» ≤ 67108864 = short_data last (last_short first_place items refl c.range) in
    let size : length (data_of items) ≡ last.«data» = data_size_of items c in
    omega arith

-- ---- the words of the functions

-- where the open function begins, or else the end of the text so far
abbrev start_of : Option (List ℕ × ℕ) → ℕ → ℕ
start_of None at = at
start_of (Some begun) at = begun.1

abbrev is_begun : Option (List ℕ × ℕ) → Bool
is_begun None = false
is_begun (Some begun) = true

-- the text at a place: the words before the open function, those of the open function so far, and the rest
record Split (text rest : List ℕ) (begun : Option (List ℕ × ℕ)) (place : Place) : Type 0 where
  pub before : List ℕ
  pub so_far : List ℕ
  pub whole : text ≡ before ++ (so_far ++ rest)
  pub start : 4 * length before ≡ start_of begun place.text
  pub here : 4 * length before + 4 * length so_far ≡ place.text
  pub inside : is_begun begun ≡ place.inside

-- the same behind a statement, whose words come to those so far or, with these, to a function that ends
record Next (text words rest so_far : List ℕ) (begun : Option (List ℕ × ℕ)) (place : Place) (s : Statement) : Type 0 where
  pub split : Split text rest (open_after begun place s) (place_after place s)
  pub same : concat (map (words_in text) (ended begun place s)) ++ (split.so_far ++ rest) ≡ so_far ++ (words ++ rest)

no_words : (s : Statement) → is_misplaced false s ≡ false → text_size s ≡ 0
unfolding is_misplaced text_size
no_words (statement.Function name) e = refl
no_words _ e = cc

size_nil : (words : List ℕ) → 4 * length words ≡ 0 → words ≡ []
size_nil words e = nil_from_length words (omega arith)

-- a statement that ends no function
stays : (text words rest : List ℕ) (begun : Option (List ℕ × ℕ)) (place : Place) (s : Statement) → 4 * length words ≡ text_size s → (h : Split text (words ++ rest) begun place) → ended begun place s ≡ []
    → start_of (open_after begun place s) (place.text + text_size s) ≡ start_of begun place.text → is_begun (open_after begun place s) ≡ is_inside_after place.inside s → Next text words rest h.so_far begun place s
unfolding place_after
stays text words rest begun place s size h none start inside =
    let both : length (h.so_far ++ words) ≡ length h.so_far + length words = length-append h.so_far words in
    let here : 4 * length h.before + 4 * length h.so_far ≡ place.text = h.here in
    let together : (h.so_far ++ words) ++ rest ≡ h.so_far ++ (words ++ rest) = append_assoc h.so_far words rest in
    record {
      split = record {
        before = h.before;
        so_far = h.so_far ++ words;
        whole = h.whole ∙ ap (λ (w : List ℕ). h.before ++ w) (sym together);
        start = h.start ∙ sym start;
        here = omega arith;
        inside = inside;
      };
      same = ap (λ (fs : List Function). concat (map (words_in text) fs) ++ ((h.so_far ++ words) ++ rest)) none ∙ together;
    }

piece : (before so_far rest name : List ℕ) (start at : ℕ) → 4 * length before ≡ start → 4 * length before + 4 * length so_far ≡ at
    → words_in (before ++ (so_far ++ rest)) (record { home = 0x10000 + start; size = at - start; name = name }) ≡ so_far
piece before so_far rest name start at s e =
    let text = before ++ (so_far ++ rest) in
    let home : (0x10000 + start - 0x10000) / 4 ≡ length before = omega arith in
    let size : (at - start) / 4 ≡ length so_far = omega arith in
    ap (λ (n : ℕ). take n (drop ((0x10000 + start - 0x10000) / 4) text)) size ∙ ap (λ (n : ℕ). take (length so_far) (drop n text)) home
    ∙ ap (λ (w : List ℕ). take (length so_far) w) (drop_at before (so_far ++ rest) (length before) refl) ∙ take_at so_far rest (length so_far) refl

-- the end of a function
ends : (text words rest : List ℕ) (begun : List ℕ × ℕ) (place : Place) → 4 * length words ≡ 0 → (h : Split text (words ++ rest) (Some begun) place) → Next text words rest h.so_far (Some begun) place statement.EndFunction
unfolding place_after text_size is_inside_after
ends text words rest begun place size h =
    let empty : words ≡ [] = size_nil words size in
    let both : length (h.before ++ h.so_far) ≡ length h.before + length h.so_far = length-append h.before h.so_far in
    let here : 4 * length h.before + 4 * length h.so_far ≡ place.text = h.here in
    let whole : text ≡ h.before ++ (h.so_far ++ rest) = h.whole ∙ ap (λ (w : List ℕ). h.before ++ (h.so_far ++ (w ++ rest))) empty in
    let f : Function = record { home = 0x10000 + begun.1; size = place.text - begun.1; name = begun.0 } in
    let given : words_in text f ≡ h.so_far = ap (λ (w : List ℕ). words_in w f) whole ∙ piece h.before h.so_far rest begun.0 begun.1 place.text h.start h.here in
    record {
      split = record {
        before = h.before ++ h.so_far;
        so_far = [];
        whole = whole ∙ sym (append_assoc h.before h.so_far rest);
        start = omega arith;
        here = omega arith;
        inside = refl;
      };
      same = ap (λ (w : List ℕ). w ++ rest) (append-nil (words_in text f) ∙ given) ∙ ap (λ (w : List ℕ). h.so_far ++ (w ++ rest)) (sym empty);
    }

step_out : (text words rest : List ℕ) (place : Place) (s : Statement) → is_misplaced false s ≡ false → false ≡ place.inside → 4 * length words ≡ text_size s → (h : Split text (words ++ rest) None place)
    → Next text words rest h.so_far None place s
unfolding is_misplaced is_inside_after
step_out text words rest place (statement.Function name) m i size h = stays text words rest None place (statement.Function name) size h refl refl refl
step_out text words rest place statement.EndFunction m i size h = absurd (cc)
step_out text words rest place s m i size h = let none : text_size s ≡ 0 = no_words s m in stays text words rest None place s size h refl (omega arith) i

step_in : (text words rest : List ℕ) (begun : List ℕ × ℕ) (place : Place) (s : Statement) → is_misplaced true s ≡ false → true ≡ place.inside → 4 * length words ≡ text_size s
    → (h : Split text (words ++ rest) (Some begun) place) → Next text words rest h.so_far (Some begun) place s
unfolding is_misplaced is_inside_after text_size
step_in text words rest begun place (statement.Function name) m i size h = absurd (cc)
step_in text words rest begun place statement.EndFunction m i size h = ends text words rest begun place size h
step_in text words rest begun place s m i size h = stays text words rest (Some begun) place s size h refl refl i

step : (text words rest : List ℕ) (begun : Option (List ℕ × ℕ)) (place : Place) (s : Statement) → is_misplaced place.inside s ≡ false → 4 * length words ≡ text_size s → (h : Split text (words ++ rest) begun place)
    → Next text words rest h.so_far begun place s
step text words rest None place s m size h = step_out text words rest place s (subst (λ (b : Bool). is_misplaced b s ≡ false) (sym h.inside) m) h.inside size h
step text words rest (Some begun) place s m size h = step_in text words rest begun place s (subst (λ (b : Bool). is_misplaced b s ≡ false) (sym h.inside) m) h.inside size h

concat_both : (f : Function → List ℕ) (xs ys : List Function) → concat (map f (xs ++ ys)) ≡ concat (map f xs) ++ concat (map f ys)
concat_both f [] ys = refl
concat_both f (x ∷ xs) ys = ap (λ (w : List ℕ). f x ++ w) (concat_both f xs ys) ∙ sym (append_assoc (f x) (concat (map f xs)) (concat (map f ys)))

all_closed : (begun : Option (List ℕ × ℕ)) (at : ℕ) (before so_far : List ℕ) → is_begun begun ≡ false → 4 * length before ≡ start_of begun at → 4 * length before + 4 * length so_far ≡ at → [] ≡ so_far ++ []
all_closed None at before so_far e start here = sym (append-nil so_far ∙ size_nil so_far (omega arith))
all_closed (Some begun) at before so_far e start here = absurd (cc)

-- the words of the functions that end from a place on are those of the open function and all behind it
words_from : (find : ℕ → List ℕ → Option Target) (size : ℕ) (text : List ℕ) (begun : Option (List ℕ × ℕ)) (place : Place) (items : List Item) → misplaced_line place.inside items ≡ None → is_open place.inside items ≡ false
    → (h : Split text (laid (text_words find size) place items) begun place) → concat (map (words_in text) (functions_from begun place items)) ≡ h.so_far ++ laid (text_words find size) place items
unfolding laid text_words functions_from misplaced_line is_open place_after
words_from find size text begun place [] m o h = all_closed begun place.text h.before h.so_far (h.inside ∙ o) h.start h.here
words_from find size text begun place (item ∷ items) m o h =
    let s = item.statement in
    let give = words_in text in
    let after = place_after place s in
    let words = text_words find size place s in
    let rest = laid (text_words find size) after items in
    let placed = placed_line (is_misplaced place.inside s) item.line (misplaced_line (is_inside_after place.inside s) items) m in
    let next : Next text words rest h.so_far begun place s = step text words rest begun place s placed.0 (words_size (distance_to size place (target_of find place.functions s)) s) h in
    let others = functions_from (open_after begun place s) after items in
    concat_both give (ended begun place s) others ∙ ap (λ (w : List ℕ). concat (map give (ended begun place s)) ++ w) (words_from find size text (open_after begun place s) after items placed.1 o next.split) ∙ next.same

pub all_words : (items : List Item) → IsChecked items → concat (map (words_in (text_of items)) (functions_of items)) ≡ text_of items
all_words items c =
    words_from (target_in items) (text_end items) (text_of items) None first_place items c.placed c.closed
    (record { before = []; so_far = []; whole = refl; start = refl; here = refl; inside = refl })

-- ---- the entry

abbrev begun_key : Option (List ℕ × ℕ) → Option (ℕ × List ℕ)
begun_key None = None
begun_key (Some begun) = Some (0, begun.0)

first_or : (this others : Bool) (n count : ℕ) → (others ≡ true → n < count) → (this || others) ≡ true → (if this then 0 else suc n) < suc count
first_or true others n count h e = omega arith
first_or false others n count h e = let less : n < count = h e in omega arith

number_step : (name : List ℕ) (begun : Option (List ℕ × ℕ)) (place : Place) (s : Statement) (keys : List (ℕ × List ℕ)) (fs : List Function) → is_begun begun ≡ place.inside → is_misplaced place.inside s ≡ false
    → (is_taken (keys_with (begun_key (open_after begun place s)) keys) (0, name) ≡ true → function_number name fs < length fs)
    → is_taken (keys_with (begun_key begun) (keys_with (function_key s) keys)) (0, name) ≡ true → function_number name (ended begun place s ++ fs) < length (ended begun place s ++ fs)
unfolding is_misplaced function_key is_taken function_number
number_step name None place (statement.Function other) keys fs i m h e = h e
number_step name None place _ keys fs i m h e = h e
number_step name (Some begun) place (statement.Function other) keys fs i m h e = absurd (cc)
number_step name (Some begun) place statement.EndFunction keys fs i m h e = first_or (bytes_eq begun.0 name) (is_taken keys (0, name)) (function_number name fs) (length fs) h e
number_step name (Some begun) place _ keys fs i m h e = h e

begun_after : (begun : Option (List ℕ × ℕ)) (place : Place) (s : Statement) → is_begun begun ≡ place.inside → is_begun (open_after begun place s) ≡ is_inside_after place.inside s
unfolding is_inside_after
begun_after begun place (statement.Function name) i = refl
begun_after begun place statement.EndFunction i = refl
begun_after begun place _ i = i

none_named : (name : List ℕ) (begun : Option (List ℕ × ℕ)) → is_begun begun ≡ false → is_taken (keys_with (begun_key begun) []) (0, name) ≡ true → ⊥
unfolding is_taken
none_named name None i e = cc
none_named name (Some begun) i e = cc

number_from : (name : List ℕ) (begun : Option (List ℕ × ℕ)) (place : Place) (items : List Item) → is_begun begun ≡ place.inside → misplaced_line place.inside items ≡ None → is_open place.inside items ≡ false
    → is_taken (keys_with (begun_key begun) (functions_in items)) (0, name) ≡ true → function_number name (functions_from begun place items) < length (functions_from begun place items)
unfolding functions_in functions_from misplaced_line is_open place_after
number_from name begun place [] i m o e = absurd (none_named name begun (i ∙ o) e)
number_from name begun place (item ∷ items) i m o e =
    let s = item.statement in
    let after = place_after place s in
    let placed = placed_line (is_misplaced place.inside s) item.line (misplaced_line (is_inside_after place.inside s) items) m in
    number_step name begun place s (functions_in items) (functions_from (open_after begun place s) after items) i placed.0
    (number_from name (open_after begun place s) after items (begun_after begun place s i) placed.1 o) e

named : (entry : Option (List ℕ)) (items : List Item) → IsChecked items → is_function_name (functions_in items) entry ≡ true → entry_number entry (functions_of items) < length (functions_of items)
named None items c e = absurd (cc)
named (Some name) items c e = number_from name None first_place items refl c.placed c.closed e

pub entry_there : (items : List Item) → IsChecked items → entry_number (entry_of items) (functions_of items) < length (functions_of items)
entry_there items c = named (entry_of items) items c c.entry
