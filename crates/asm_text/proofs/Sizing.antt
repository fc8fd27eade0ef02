-- SPDX-License-Identifier: Apache-2.0
-- The names that a text defines, and a byte more for each statement, come to no more bytes than the text has.
use Rattle.std.proofs.Common.{◌≡◌, ℕ, ◌+◌, ◌<◌, ◌≤◌, Bool, true, false, List, [], ◌∷◌, ◌++◌, length, refl, sym, subst, arith}
use Rattle.std.specs.Prelude.{ℤ, ◌==◌, slice_index, Option, Some, None, map, option_map, option_and_then, if◌then◌else◌}
use Rattle.std.specs.List.{list_any}
use Rattle.asm_text.specs.declared.faults.AsmRule.TheVariants.{Text}
use Rattle.asm_text.specs.declared.lines.Quote.{Quote}
use Rattle.asm_text.specs.declared.lines.Quote.TheVariants.{Outside}
use Rattle.asm_words.specs.declared.shapes.Plain.{Plain}
use Rattle.asm_words.specs.declared.shapes.Plain.TheVariants as plain
use Rattle.asm_words.specs.declared.shapes.Naming.{Naming}
use Rattle.asm_words.specs.declared.shapes.Naming.TheVariants as naming
use Rattle.asm_words.specs.declared.shapes.Shape.{Shape}
use Rattle.asm_words.specs.declared.shapes.Shape.TheVariants as shape
use Rattle.asm_text.specs.declared.statements.Statement.{Statement}
use Rattle.asm_text.specs.declared.statements.Statement.TheVariants as statement
use Rattle.asm_text.specs.declared.statements.Item.{Item}
use Rattle.asm_words.specs.Characters.{cut, led, before, from, is_blank, is_name, joined, trimmed, trimmed_start, trimmed_end, is_foreign}
use Rattle.asm_words.specs.Mnemonics.{shape_of}
use Rattle.asm_words.specs.Strings.{string_of}
use Rattle.asm_words.specs.Numbers.{magnitude, signed, number_of}
use Rattle.asm_text.specs.Reading.{item, extended}
use Rattle.asm_text.specs.Sizes.{defined_size, items_size}
use Rattle.asm_words.specs.Registers.{register_of}
use Rattle.asm_text.specs.Source.{Read, read, fault, next, is_end, is_comment, pieces, statements_in, line_of, behind_line, read_lines, source_of}
use Rattle.asm_words.specs.Operands.{is_nothing, name_of, register_first, register_and_number, register_and_name, indexed, based}
use Rattle.asm_text.specs.Statements.{in_front, register_form, immediate_form, memory_form, store_form, upper_form, atomic_form, reserve_form, alone, move_form, to_register_form, literal_form, plain_of, branch_form, branch_zero_form, jump_form, address_form, naming_of, each, value_of, values_of, alone_in, body_of, unlabelled, label_of, statement_of, parts}
use Rattle.asm_words.proofs.Trimming.{start_no}

-- what is there has the property
record Good {A : Type 0} (P : A → Type 0) (o : Option A) : Type 0 where
  pub fits : (x : A) → o ≡ Some x → P x

some : {A : Type 0} (P : A → Type 0) (x : A) → P x → Good P (Some x)
some P x h = record { fits = λ y e. let same : x ≡ y = cc in subst P same h }

none : {A : Type 0} (P : A → Type 0) → Good P None
none P = record { fits = λ y e. absurd (cc) }

bind : {A B : Type 0} {P : A → Type 0} {Q : B → Type 0} {o : Option A} {f : A → Option B} → Good P o → ((x : A) → P x → Good Q (f x)) → Good Q (option_and_then f o)
bind {Q = Q} {o = None} g h = none Q
bind {o = Some x} g h = h x (g.fits x refl)

-- where nothing has to be known of what is there
after : {A B : Type 0} {Q : B → Type 0} (o : Option A) {f : A → Option B} → ((x : A) → Good Q (f x)) → Good Q (option_and_then f o)
after {Q = Q} None h = none Q
after (Some x) h = h x

mapped : {A B : Type 0} {P : A → Type 0} {Q : B → Type 0} {o : Option A} (f : A → B) → Good P o → ((x : A) → P x → Q (f x)) → Good Q (option_map f o)
mapped {Q = Q} {o = None} f g h = none Q
mapped {Q = Q} {o = Some x} f g h = some Q (f x) (h x (g.fits x refl))

guarded : {A : Type 0} (P : A → Type 0) (t : Bool) (o : Option A) → (t ≡ true → Good P o) → Good P (if t then o else None)
guarded P true o g = g refl
guarded P false o g = none P

weaker : {A : Type 0} {P : A → Type 0} {o : Option A} (Q : A → Type 0) → Good P o → ((x : A) → P x → Q x) → Good Q o
weaker Q g h = record { fits = λ x e. h x (g.fits x e) }

-- ---- characters

if_least : (n : ℕ) (t : Bool) (a b : List ℕ) → length a ≤ n → length b ≤ n → length (if t then a else b) ≤ n
if_least n true a b x y = x
if_least n false a b x y = y

two_parts : (c : ℕ) (a b text : List ℕ) (t : Bool) → length a + length b ≤ length text → length (if t then [] else c ∷ a) + length (if t then c ∷ text else b) ≤ length (c ∷ text)
two_parts c a b text true h = omega arith
two_parts c a b text false h = omega arith

split_size : (test : ℕ → Bool) (text : List ℕ) → length (before test text) + length (from test text) ≤ length text
unfolding before from
split_size test [] = omega arith
split_size test (c ∷ cs) = two_parts c (before test cs) (from test cs) cs (test c) (split_size test cs)

-- what a cut leaves has one byte less
abbrev Cuts : List ℕ → List ℕ × List ℕ → Type 0
Cuts text x = length x.0 + (length x.1 + 1) ≤ length text

cut_or : (c : ℕ) (cs : List ℕ) (o : Option (List ℕ × List ℕ)) (t : Bool) → Good (Cuts cs) o → Good (Cuts (c ∷ cs)) (if t then Some ([], cs) else option_map (led c) o)
cut_or c cs o true g = some (Cuts (c ∷ cs)) ([], cs) (omega arith)
cut_or c cs o false g = mapped (led c) g (λ x h. omega arith)

cut_good : (test : ℕ → Bool) (text : List ℕ) → Good (Cuts text) (cut test text)
unfolding cut
cut_good test [] = none (Cuts [])
cut_good test (c ∷ cs) = cut_or c cs (cut test cs) (test c) (cut_good test cs)

start_size : (text : List ℕ) → length (trimmed_start text) ≤ length text
unfolding trimmed_start
start_size [] = omega arith
start_size (c ∷ cs) = if_least (length (c ∷ cs)) (is_blank c) (trimmed_start cs) (c ∷ cs) (omega (arith, start_size cs)) (omega arith)

joined_size : (c : ℕ) (text : List ℕ) → length (joined c text) ≤ length text + 1
joined_size c [] = if_least 1 (is_blank c) [] (c ∷ []) (omega arith) (omega arith)
joined_size c (d ∷ ds) = omega arith

end_size : (text : List ℕ) → length (trimmed_end text) ≤ length text
unfolding trimmed_end
end_size [] = omega arith
end_size (c ∷ cs) = omega (arith, joined_size c (trimmed_end cs), end_size cs)

trimmed_size : (text : List ℕ) → length (trimmed text) ≤ length text
trimmed_size text = omega (arith, end_size (trimmed_start text), start_size text)

operand_or : (c : ℕ) (cs : List ℕ) (t : Bool) → is_blank c ≡ t → length (trimmed (if t then c ∷ cs else from is_blank cs)) < length (c ∷ cs)
operand_or c cs true e =
    let shorter : length (trimmed (c ∷ cs)) ≤ length cs = subst (λ (w : List ℕ). length (trimmed_end w) ≤ length cs) (sym (start_no c cs e)) (trimmed_size cs) in
    omega arith
operand_or c cs false e = omega (arith, trimmed_size (from is_blank cs), split_size is_blank cs)

-- operands are shorter than a text that is not empty, since a blank or a mnemonic stands before them
operand_size : (c : ℕ) (cs : List ℕ) → length (trimmed (from is_blank (c ∷ cs))) < length (c ∷ cs)
unfolding from
operand_size c cs = operand_or c cs (is_blank c) refl

-- the bytes of all texts
abbrev lengths : List (List ℕ) → ℕ
lengths [] = 0
lengths (text ∷ texts) = length text + lengths texts

front_size : (c : ℕ) (all : List (List ℕ)) → lengths (in_front c all) ≤ lengths all + 1
front_size c [] = omega arith
front_size c (part ∷ others) = omega arith

parts_or : (c n : ℕ) (all : List (List ℕ)) (t : Bool) → lengths all ≤ n → lengths (if t then [] ∷ all else in_front c all) ≤ n + 1
parts_or c n all true h = omega arith
parts_or c n all false h = omega (arith, front_size c all)

parts_size : (test : ℕ → Bool) (text : List ℕ) → lengths (parts test text) ≤ length text
unfolding parts
parts_size test [] = omega arith
parts_size test (c ∷ cs) = omega (arith, parts_or c (length cs) (parts test cs) (test c) (parts_size test cs))

pieces_or : (c n : ℕ) (split rest : List (List ℕ)) (a b : Bool) → lengths split ≤ n → lengths rest ≤ n → lengths (if a then [] ∷ [] else (if b then [] ∷ split else in_front c rest)) ≤ n + 1
pieces_or c n split rest true b h k = omega arith
pieces_or c n split rest false true h k = omega arith
pieces_or c n split rest false false h k = omega (arith, front_size c rest)

pieces_size : (quote : Quote) (line : List ℕ) → lengths (pieces quote line) ≤ length line
unfolding pieces
pieces_size quote [] = omega arith
pieces_size quote (c ∷ cs) =
    omega (arith, pieces_or c (length cs) (pieces Outside cs) (pieces (next quote c) cs) (is_comment quote c) (is_end quote c) (pieces_size Outside cs) (pieces_size (next quote c) cs))

-- ---- operands

-- of what is read from a text: the text has a byte
abbrev IsFilled : {A : Type 0} → List ℕ → A → Type 0
IsFilled text x = 0 < length text

if_none : {A : Type 0} (P : A → Type 0) (t : Bool) → Good P (if t then None else None)
if_none P true = none P
if_none P false = none P

-- a text that is a number or a name has a byte
number_some : (text : List ℕ) → Good (IsFilled text) (number_of text)
unfolding number_of signed magnitude trimmed_start trimmed_end
number_some [] = if_none (IsFilled []) (slice_index (trimmed []) 0 == 45)
number_some (c ∷ cs) = record { fits = λ n e. omega arith }

name_some : (text : List ℕ) → Good (IsFilled text) (name_of text)
unfolding name_of is_name trimmed_start trimmed_end
name_some [] = none (IsFilled [])
name_some (c ∷ cs) = record { fits = λ n e. omega arith }

-- of a name: it has less than so many bytes
abbrev Under : ℕ → List ℕ → Type 0
Under n name = length name < n

name_size : (n : ℕ) (text : List ℕ) → length (trimmed text) < n → Good (Under n) (name_of text)
unfolding name_of
name_size n text h = guarded (Under n) (is_name (trimmed text)) (Some (trimmed text)) (λ e. some (Under n) (trimmed text) h)

-- ---- statements

-- the bytes of what the statements define, and one more for each
abbrev total : List Statement → ℕ
total [] = 0
total (s ∷ ss) = defined_size s + 1 + total ss

total_append : (a b : List Statement) → total (a ++ b) ≡ total a + total b
total_append [] b = omega arith
total_append (s ∷ a) b = omega (arith, total_append a b)

-- of a statement: it takes at most so many bytes
abbrev Below : ℕ → Statement → Type 0
Below n s = defined_size s < n

-- of statements: they take at most so many bytes
abbrev Within : ℕ → List Statement → Type 0
Within n ss = total ss ≤ n

lone : (n : ℕ) (s : Statement) → defined_size s < n → Good (Below n) (Some s)
lone n s h = some (Below n) s h

alone_good : (n : ℕ) (s : Statement) (text : List ℕ) → defined_size s < n → Good (Below n) (alone s text)
unfolding alone
alone_good n s text h = guarded (Below n) (is_nothing text) (Some s) (λ e. lone n s h)

made : {A : Type 0} (n : ℕ) (make : A → Statement) (o : Option A) → ((x : A) → defined_size (make x) < n) → Good (Below n) (option_map make o)
made n make None h = none (Below n)
made n make (Some x) h = lone n (make x) (h x)

plain_good : (n : ℕ) (s : Plain) (text : List ℕ) → 0 < n → Good (Below n) (plain_of s text)
unfolding plain_of register_form immediate_form memory_form store_form upper_form atomic_form reserve_form move_form to_register_form literal_form
plain_good n (plain.Register op) text h = after (register_first text) (λ rd. after (register_first rd.1) (λ rs1. after (register_of rs1.1) (λ rs2. lone n _ h)))
plain_good n (plain.Immediate op) text h = after (register_first text) (λ rd. after (register_and_number rd.1) (λ x. lone n _ h))
plain_good n (plain.Memory op) text h = after (register_first text) (λ rd. after (indexed rd.1) (λ x. lone n _ h))
plain_good n (plain.Store op) text h = after (register_first text) (λ rs2. after (indexed rs2.1) (λ x. lone n _ h))
plain_good n (plain.Upper op) text h = after (register_and_number text) (λ x. lone n _ h)
plain_good n (plain.Atomic op) text h = after (register_first text) (λ rd. after (register_first rd.1) (λ rs2. after (based rs2.1) (λ rs1. lone n _ h)))
plain_good n (plain.Reserve op) text h = after (register_first text) (λ rd. after (based rd.1) (λ rs1. lone n _ h))
plain_good n (plain.Bare op) text h = alone_good n _ text h
plain_good n plain.Nop text h = alone_good n _ text h
plain_good n plain.Move text h = after (register_first text) (λ rd. after (register_of rd.1) (λ rs. lone n _ h))
plain_good n plain.Return text h = alone_good n _ text h
plain_good n plain.ToRegister text h = after (register_of text) (λ rs. lone n _ h)
plain_good n plain.Literal text h = after (register_and_number text) (λ x. lone n _ h)
plain_good n plain.EndFunction text h = alone_good n statement.EndFunction text h
plain_good n plain.Raw text h = made n statement.Raw (number_of text) (λ x. h)
plain_good n plain.Nops text h = made n statement.Nops (number_of text) (λ x. h)
plain_good n plain.Zero text h = made n statement.Zero (number_of text) (λ x. h)
plain_good n plain.Align text h = made n statement.Align (number_of text) (λ x. h)

naming_good : (n : ℕ) (s : Naming) (text : List ℕ) → length (trimmed text) < n → 0 < n → Good (Below n) (naming_of s text)
unfolding naming_of branch_form branch_zero_form jump_form address_form
naming_good n (naming.Branch op) text less h = after (register_first text) (λ rs1. after (register_and_name rs1.1) (λ x. lone n _ h))
naming_good n (naming.BranchZero op) text less h = after (register_and_name text) (λ x. lone n _ h)
naming_good n naming.Entry text less h = made n statement.Entry (name_of text) (λ x. h)
naming_good n naming.Function text less h = mapped statement.Function (name_size n text less) (λ x e. e)
naming_good n naming.Jump text less h = after (register_and_name text) (λ x. lone n _ h)
naming_good n naming.ToLabel text less h = made n (statement.Jump 0) (name_of text) (λ x. h)
naming_good n naming.Address text less h = after (register_and_name text) (λ x. lone n _ h)
naming_good n naming.Call text less h = made n statement.Call (name_of text) (λ x. h)
naming_good n naming.Tail text less h = made n statement.Tail (name_of text) (λ x. h)

-- ---- values

value_or : (width : ℕ) (names : Bool) (text : List ℕ) (number : Option ℤ) → Good (IsFilled text) number
    → Good (Below (length text)) (elim number [ Some n ↦ Some (statement.Value width n) | None ↦ if names then option_map (statement.Reference width) (name_of text) else None ])
value_or width names text None g =
    guarded (Below (length text)) names (option_map (statement.Reference width) (name_of text)) (λ e. mapped (statement.Reference width) (name_some text) (λ x h. h))
value_or width names text (Some n) g = lone (length text) (statement.Value width n) (g.fits n refl)

value_good : (width : ℕ) (names : Bool) (text : List ℕ) → Good (Below (length text)) (value_of width names text)
unfolding value_of
value_good width names text = value_or width names text (number_of text) (number_some text)

each_good : (read : List ℕ → Option Statement) → ((text : List ℕ) → Good (Below (length text)) (read text)) → (texts : List (List ℕ)) → Good (Within (lengths texts)) (each read texts)
unfolding each
each_good read h [] = some (Within 0) [] (omega arith)
each_good read h (text ∷ texts) = bind (h text) (λ x a. bind (each_good read h texts) (λ xs b. some (Within (lengths (text ∷ texts))) (x ∷ xs) (omega arith)))

values_good : (width : ℕ) (names : Bool) (text : List ℕ) → Good (Within (length text)) (values_of width names text)
unfolding values_of
values_good width names text =
    let commas = parts (λ c. c == 44) text in
    weaker (Within (length text)) (each_good (value_of width names) (value_good width names) commas) (λ ss h. omega (arith, parts_size (λ c. c == 44) text))

-- ---- whole statements, lines and sources

alone_in_good : (n : ℕ) (s : Option Statement) → Good (Below n) s → Good (Within n) (alone_in s)
alone_in_good n s g = mapped (λ x. x ∷ []) g (λ x h. omega arith)

body_good : (s : Shape) (c : ℕ) (cs : List ℕ) → Good (Within (length (c ∷ cs))) (body_of s (from is_blank (c ∷ cs)))
unfolding body_of
body_good (shape.Plain s) c cs = let text = c ∷ cs in alone_in_good (length text) (plain_of s (from is_blank text)) (plain_good (length text) s (from is_blank text) (omega arith))
body_good (shape.Naming s) c cs =
    let text = c ∷ cs in
    alone_in_good (length text) (naming_of s (from is_blank text)) (naming_good (length text) s (from is_blank text) (operand_size c cs) (omega arith))
body_good (shape.Values width names) c cs =
    let text = c ∷ cs in
    weaker (Within (length text)) (values_good width names (from is_blank text)) (λ ss h. omega (arith, split_size is_blank text))
body_good shape.Ascii c cs =
    let text = c ∷ cs in
    alone_in_good (length text) (option_map statement.Ascii (string_of (from is_blank text))) (made (length text) statement.Ascii (string_of (from is_blank text)) (λ x. omega arith))

nothing_or : (n : ℕ) (t : Bool) (other : Option (List Statement)) → Good (Within n) other → Good (Within n) (if t then Some [] else other)
nothing_or n true other g = some (Within n) [] (omega arith)
nothing_or n false other g = g

unlabelled_good : (text : List ℕ) → Good (Within (length text)) (unlabelled text)
unfolding unlabelled
unlabelled_good [] = some (Within 0) [] (omega arith)
unlabelled_good (c ∷ cs) = nothing_or (length (c ∷ cs)) (length (c ∷ cs) == 0) _ (after (shape_of (before is_blank (c ∷ cs))) (λ s. body_good s c cs))

label_good : (text : List ℕ) → Good (Cuts text) (label_of text)
unfolding label_of
label_good text = bind (cut_good (λ c. c == 58) text) (λ x h. guarded (Cuts text) (is_name x.0) (Some x) (λ e. some (Cuts text) x h))

labelled_or : (label : Option (List ℕ × List ℕ)) (text : List ℕ) → Good (Cuts text) label
    → Good (Within (length text)) (elim label [ None ↦ unlabelled text | Some x ↦ option_and_then (λ others. Some (statement.Label x.0 ∷ others)) (unlabelled (trimmed x.1)) ])
labelled_or None text g = unlabelled_good text
labelled_or (Some x) text g =
    bind (unlabelled_good (trimmed x.1)) (λ others h. some (Within (length text)) (statement.Label x.0 ∷ others) (omega (arith, g.fits x refl, trimmed_size x.1)))

statement_good : (text : List ℕ) → Good (Within (length text)) (statement_of text)
unfolding statement_of
statement_good text = weaker (Within (length text)) (labelled_or (label_of (trimmed text)) (trimmed text) (label_good (trimmed text))) (λ ss h. omega (arith, trimmed_size text))

statements_good : (texts : List (List ℕ)) → Good (Within (lengths texts)) (statements_in texts)
unfolding statements_in
statements_good [] = some (Within 0) [] (omega arith)
statements_good (text ∷ texts) =
    bind (statement_good text) (λ first a. bind (statements_good texts) (λ rest b.
    some (Within (lengths (text ∷ texts))) (first ++ rest) (omega (arith, total_append first rest))))

line_good : (line : List ℕ) → Good (Within (length line)) (line_of line)
unfolding line_of
line_good line = weaker (Within (length line)) (statements_good (pieces Outside line)) (λ ss h. omega (arith, pieces_size Outside line))

items_append : (items : List Item) (line : ℕ) (ss : List Statement) → items_size (items ++ map (item line) ss) ≡ items_size items + total ss
unfolding items_size
items_append [] line [] = refl
items_append [] line (s ∷ ss) = omega (arith, items_append [] line ss)
items_append (i ∷ items) line ss = omega (arith, items_append items line ss)

-- of items: they take at most so many bytes
abbrev Fits : ℕ → List Item → Type 0
Fits n items = items_size items ≤ n

extended_good : (items : List Item) (line n : ℕ) (statements : Option (List Statement)) → Good (Within n) statements → Good (Fits (items_size items + n)) (extended items line statements)
unfolding extended
extended_good items line n statements g = mapped (λ ss. items ++ map (item line) ss) g (λ ss h. omega (arith, items_append items line ss))

behind_good : (n : ℕ) (more : Option (List Item)) (items : List Item) (line : ℕ) (go : List Item → Read) → items_size items ≤ n → ((is : List Item) → more ≡ Some is → items_size (go is).items ≤ n)
    → items_size (behind_line more items line go).items ≤ n
behind_good n None items line go a h = a
behind_good n (Some more) items line go a h = h more refl

text_or : (n : ℕ) (t : Bool) (stopped read : Read) → items_size stopped.items ≤ n → items_size read.items ≤ n → items_size (if t then stopped else read).items ≤ n
text_or n true stopped read a b = a
text_or n false stopped read a b = b

lines_good : (items : List Item) (line : ℕ) (texts : List (List ℕ)) → items_size (read_lines items line texts).items ≤ items_size items + lengths texts
unfolding read_lines
lines_good items line [] = omega arith
lines_good items line (text ∷ others) =
    let n = items_size items + lengths (text ∷ others) in
    let here = extended items line (line_of text) in
    text_or n (list_any is_foreign text) (read items (Some (fault line Text))) (behind_line here items line (λ more. read_lines more (line + 1) others)) (omega arith)
    (behind_good n here items line (λ more. read_lines more (line + 1) others) (omega arith)
    (λ more e. omega (arith, lines_good more (line + 1) others, (extended_good items line (length text) (line_of text) (line_good text)).fits more e)))

pub source_size : (text : List ℕ) → items_size (source_of text).items ≤ length text
unfolding source_of items_size
source_size text = omega (arith, lines_good [] 1 (parts (λ c. c == 10) text), parts_size (λ c. c == 10) text)
