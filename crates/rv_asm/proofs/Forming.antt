-- SPDX-License-Identifier: Apache-2.0
-- What a source gives has registers below 32, and instructions of the forms that their mnemonics have.
use Rattle.std.proofs.Common.{◌≡◌, ℕ, ◌<◌, ◌+◌, Bool, true, false, List, [], ◌∷◌, ◌++◌, length, refl, sym, subst, lit<, ⊎_elim}
use Rattle.std.specs.Prelude.{ℤ, pos, ◌==◌, ◌&&◌, ◌||◌, nat_lt, Option, Some, None, Contains, map, option_map, option_and_then, if◌then◌else◌}
use Rattle.std.specs.List.{All, list_any}
use Rattle.std.specs.Str.{bytes_eq}
use Rattle.std.proofs.lemmas.Bool.{ltb-true, eqb-true, or_cases}
use Rattle.std.proofs.lemmas.List.Elements.{All-nil, All-cons, All-append, All-map, Contains-append_right}
use Rattle.rv_table.specs.Instruction.{row_of, form_number}
use Rattle.rv_table.specs.declared.rows.Form.{Form}
use Rattle.rv_table.specs.declared.rows.Form.TheVariants.{Upper, Branch, Immediate, Storing, Register, Shift6, Shift5, Atomic, Reserving, Fencing, Whole}
use Rattle.rv_table.specs.declared.instructions.Op.{Op}
use Rattle.rv_table.specs.declared.instructions.Op.TheVariants.{Addi, Jalr}
use Rattle.asm_text.specs.declared.faults.AsmRule.TheVariants.{Text}
use Rattle.asm_text.specs.declared.lines.Quote.TheVariants.{Outside}
use Rattle.asm_words.specs.declared.shapes.Plain.{Plain}
use Rattle.asm_words.specs.declared.shapes.Plain.TheVariants as plain
use Rattle.asm_words.specs.declared.shapes.Naming.{Naming}
use Rattle.asm_words.specs.declared.shapes.Naming.TheVariants as naming
use Rattle.asm_words.specs.declared.shapes.Shape.{Shape}
use Rattle.asm_words.specs.declared.shapes.Shape.TheVariants as shape
use Rattle.asm_text.specs.declared.statements.Statement.{Statement}
use Rattle.asm_text.specs.declared.statements.Statement.TheVariants as statement
use Rattle.asm_text.specs.declared.statements.Item.{Item}
use Rattle.asm_words.specs.Characters.{before, from, is_blank, trimmed, is_foreign}
use Rattle.asm_words.specs.Mnemonics.{base_rows, product_rows, low_word_rows, register_rows, immediate_rows, memory_rows, store_rows, branch_rows, upper_rows, atomic_word_rows, atomic_double_rows, atomic_rows, reserve_rows, bare_rows, plain_rows, naming_rows, value_rows, instruction_shape, shape_of}
use Rattle.asm_words.specs.Strings.{string_of}
use Rattle.asm_words.specs.Numbers.{◌>>=◌, number_of}
use Rattle.asm_text.specs.Reading.{item, extended}
use Rattle.asm_words.specs.Registers.{below_ten, below_twenty, from_twenty, numbered, pointers, temporaries, saved, arguments, by_use, register_named, register_of}
use Rattle.asm_text.specs.Source.{Read, read, fault, pieces, statements_in, line_of, behind_line, read_lines, source_of}
use Rattle.asm_words.specs.Operands.{at_comma, is_nothing, bracketed, indexed, based, name_of, register_first, register_and_name, register_and_number}
use Rattle.asm_text.specs.Statements.{register_form, immediate_form, memory_form, store_form, upper_form, atomic_form, reserve_form, alone, move_form, to_register_form, literal_form, plain_of, branch_form, branch_zero_form, jump_form, address_form, naming_of, each, value_of, values_of, alone_in, body_of, unlabelled, label_of, statement_of, parts}
use Rattle.asm_words.specs.Tables.{named, first_of}
use Rattle.rv_asm.specs.Formed.{HasOperands, IsFormed, AreFormed}

-- what is there has the property
record Good {A : Type 0} (P : A → Type 0) (o : Option A) : Type 0 where
  pub fits : (x : A) → o ≡ Some x → P x

some : {A : Type 0} (P : A → Type 0) (x : A) → P x → Good P (Some x)
some P x h = record { fits = λ y e. let same : x ≡ y = cc in subst P same h }

none : {A : Type 0} (P : A → Type 0) → Good P None
none P = record { fits = λ y e. absurd (cc) }

any : {A : Type 0} (o : Option A) → Good (λ (x : A). Unit {0}) o
any o = record { fits = λ y e. tt }

bind_at : {A B : Type 0} (P : A → Type 0) (Q : B → Type 0) (o : Option A) (f : A → Option B) → Good P o → ((x : A) → P x → Good Q (f x)) → Good Q (option_and_then f o)
bind_at P Q None f g h = none Q
bind_at P Q (Some x) f g h = h x (g.fits x refl)

bind : {A B : Type 0} {P : A → Type 0} {o : Option A} (Q : B → Type 0) → Good P o → (f : A → Option B) → ((x : A) → P x → Good Q (f x)) → Good Q (option_and_then f o)
bind {A} {B} {P} {o} Q g f h = bind_at P Q o f g h

mapped_at : {A B : Type 0} (P : A → Type 0) (Q : B → Type 0) (o : Option A) (f : A → B) → Good P o → ((x : A) → P x → Q (f x)) → Good Q (option_map f o)
mapped_at P Q None f g h = none Q
mapped_at P Q (Some x) f g h = some Q (f x) (h x (g.fits x refl))

mapped : {A B : Type 0} {P : A → Type 0} {o : Option A} (Q : B → Type 0) → Good P o → (f : A → B) → ((x : A) → P x → Q (f x)) → Good Q (option_map f o)
mapped {A} {B} {P} {o} Q g f h = mapped_at P Q o f g h

guarded : {A : Type 0} (P : A → Type 0) (t : Bool) (o : Option A) → Good P o → Good P (if t then o else None)
guarded P true o g = g
guarded P false o g = none P

either : {A : Type 0} (P : A → Type 0) (a b : Option A) → Good P a → Good P b → Good P (first_of a b)
either P None b g h = h
either P (Some x) b g h = g

-- ---- tables

row_good : {A : Type 0} (P : A → Type 0) (t : Bool) (x : A) (o : Option A) → (t ≡ true → P x) → Good P o → Good P (if t then Some x else o)
row_good P true x o p g = some P x (p refl)
row_good P false x o p g = g

both : (a b : Bool) → (a && b) ≡ true → (a ≡ true) × (b ≡ true)
both true b e = (refl, e)
both false b e = (cc, cc)

-- the test of every row of a table
abbrev rows_pass : {A : Type 0} → (A → Bool) → List (List ℕ × A) → Bool
rows_pass test [] = true
rows_pass test (row ∷ rows) = test row.1 && rows_pass test rows

abbrev Passes : {A : Type 0} → (A → Bool) → A → Type 0
Passes test x = test x ≡ true

in_table : {A : Type 0} (test : A → Bool) (rows : List (List ℕ × A)) (name : List ℕ) → rows_pass test rows ≡ true → Good (Passes test) (named rows name)
in_table test [] name e = none (Passes test)
in_table test (row ∷ rows) name e =
    let h = both (test row.1) (rows_pass test rows) e in
    row_good (Passes test) (bytes_eq name row.0) row.1 (named rows name) (λ u. h.0) (in_table test rows name h.1)

-- ---- registers

abbrev Low : ℕ → Type 0
Low r = r < 32

abbrev FirstLow : {B : Type 0} → ℕ × B → Type 0
FirstLow x = x.0 < 32

abbrev SecondLow : {A : Type 0} → A × ℕ → Type 0
SecondLow x = x.1 < 32

abbrev is_register : ℕ → Bool
is_register n = nat_lt n 32

named_register : (text : List ℕ) → Good (Passes is_register) (register_of text)
unfolding register_of register_named numbered below_ten below_twenty from_twenty by_use pointers temporaries saved arguments
named_register text =
    either (Passes is_register) (named by_use (trimmed text)) (named numbered (trimmed text)) (in_table is_register by_use (trimmed text) refl) (in_table is_register numbered (trimmed text) refl)

register_good : (text : List ℕ) → Good Low (register_of text)
register_good text = record { fits = λ r e. ltb-true r 32 ((named_register text).fits r e) }

first_good : (text : List ℕ) → Good (FirstLow {B = List ℕ}) (register_first text)
unfolding register_first
first_good text =
    bind (FirstLow {B = List ℕ}) (any (at_comma text)) (λ x. register_of x.0 >>= (λ r. Some (r, x.1))) (λ x u.
    bind (FirstLow {B = List ℕ}) (register_good x.0) (λ r. Some (r, x.1)) (λ r h. some (FirstLow {B = List ℕ}) (r, x.1) h))

name_good : (text : List ℕ) → Good (FirstLow {B = List ℕ}) (register_and_name text)
unfolding register_and_name
name_good text =
    bind (FirstLow {B = List ℕ}) (first_good text) (λ x. name_of x.1 >>= (λ n. Some (x.0, n))) (λ x h.
    bind (FirstLow {B = List ℕ}) (any (name_of x.1)) (λ n. Some (x.0, n)) (λ n u. some (FirstLow {B = List ℕ}) (x.0, n) h))

number_good : (text : List ℕ) → Good (FirstLow {B = ℤ}) (register_and_number text)
unfolding register_and_number
number_good text =
    bind (FirstLow {B = ℤ}) (first_good text) (λ x. number_of x.1 >>= (λ n. Some (x.0, n))) (λ x h.
    bind (FirstLow {B = ℤ}) (any (number_of x.1)) (λ n. Some (x.0, n)) (λ n u. some (FirstLow {B = ℤ}) (x.0, n) h))

indexed_good : (text : List ℕ) → Good (SecondLow {A = ℤ}) (indexed text)
unfolding indexed
indexed_good text =
    bind (SecondLow {A = ℤ}) (any (bracketed text)) (λ x. number_of x.0 >>= (λ n. register_of x.1 >>= (λ r. Some (n, r)))) (λ x u.
    bind (SecondLow {A = ℤ}) (any (number_of x.0)) (λ n. register_of x.1 >>= (λ r. Some (n, r))) (λ n v.
    bind (SecondLow {A = ℤ}) (register_good x.1) (λ r. Some (n, r)) (λ r h. some (SecondLow {A = ℤ}) (n, r) h)))

based_good : (text : List ℕ) → Good Low (based text)
unfolding based
based_good text =
    bind Low (any (bracketed text)) (λ x. if is_nothing x.0 then register_of x.1 else None) (λ x u. guarded Low (is_nothing x.0) (register_of x.1) (register_good x.1))

-- ---- statements of registers and numbers

abbrev number_is : ℕ → Op → Bool
number_is n op = form_number (row_of op).form == n

abbrev takes_number : Op → Bool
takes_number op = number_is 3 op || (number_is 6 op || number_is 7 op)

abbrev takes_none : Op → Bool
takes_none op = number_is 10 op || number_is 11 op

three : (rd rs1 rs2 : ℕ) (f : Form) → (form_number f == 5) ≡ true → rd < 32 → rs1 < 32 → rs2 < 32 → HasOperands rd rs1 rs2 (pos 0) f
three rd rs1 rs2 Register e a b c = (a, b, c, refl)
three rd rs1 rs2 _ e a b c = absurd (cc)

two : (rd rs1 : ℕ) (imm : ℤ) (f : Form) → ((form_number f == 3) || ((form_number f == 6) || (form_number f == 7))) ≡ true → rd < 32 → rs1 < 32 → HasOperands rd rs1 0 imm f
two rd rs1 imm Immediate e a b = (a, b, refl)
two rd rs1 imm Shift6 e a b = (a, b, refl)
two rd rs1 imm Shift5 e a b = (a, b, refl)
two rd rs1 imm _ e a b = absurd (cc)

offset : (rd rs1 : ℕ) (imm : ℤ) (f : Form) → (form_number f == 3) ≡ true → rd < 32 → rs1 < 32 → HasOperands rd rs1 0 imm f
offset rd rs1 imm Immediate e a b = (a, b, refl)
offset rd rs1 imm _ e a b = absurd (cc)

stored : (rs1 rs2 : ℕ) (imm : ℤ) (f : Form) → (form_number f == 4) ≡ true → rs1 < 32 → rs2 < 32 → HasOperands 0 rs1 rs2 imm f
stored rs1 rs2 imm Storing e a b = (refl, a, b)
stored rs1 rs2 imm _ e a b = absurd (cc)

swapped : (rd rs1 rs2 : ℕ) (f : Form) → (form_number f == 8) ≡ true → rd < 32 → rs1 < 32 → rs2 < 32 → HasOperands rd rs1 rs2 (pos 0) f
swapped rd rs1 rs2 Atomic e a b c = (a, b, c, refl)
swapped rd rs1 rs2 _ e a b c = absurd (cc)

reserved : (rd rs1 : ℕ) (f : Form) → (form_number f == 9) ≡ true → rd < 32 → rs1 < 32 → HasOperands rd rs1 0 (pos 0) f
reserved rd rs1 Reserving e a b = (a, b, refl, refl)
reserved rd rs1 _ e a b = absurd (cc)

bare : (f : Form) → ((form_number f == 10) || (form_number f == 11)) ≡ true → HasOperands 0 0 0 (pos 0) f
bare Fencing e = (refl, refl, refl, refl)
bare Whole e = (refl, refl, refl, refl)
bare _ e = absurd (cc)

is_upper : (f : Form) → (form_number f == 0) ≡ true → f ≡ Upper
is_upper Upper e = refl
is_upper _ e = absurd (cc)

is_branch : (f : Form) → (form_number f == 2) ≡ true → f ≡ Branch
is_branch Branch e = refl
is_branch _ e = absurd (cc)

-- what takes registers and numbers has an operation of its kind
abbrev plain_fits : Plain → Bool
plain_fits (plain.Register op) = number_is 5 op
plain_fits (plain.Immediate op) = takes_number op
plain_fits (plain.Memory op) = number_is 3 op
plain_fits (plain.Store op) = number_is 4 op
plain_fits (plain.Upper op) = number_is 0 op
plain_fits (plain.Atomic op) = number_is 8 op
plain_fits (plain.Reserve op) = number_is 9 op
plain_fits (plain.Bare op) = takes_none op
plain_fits _ = true

abbrev naming_fits : Naming → Bool
naming_fits (naming.Branch op) = number_is 2 op
naming_fits (naming.BranchZero op) = number_is 2 op
naming_fits _ = true

-- values of this width, which may be names
abbrev width_fits : ℕ → Bool → Bool
width_fits width true = (width == 4) || (width == 8)
width_fits width false = width == 1

abbrev shape_fits : Shape → Bool
shape_fits (shape.Plain s) = plain_fits s
shape_fits (shape.Naming s) = naming_fits s
shape_fits (shape.Values width names) = width_fits width names
shape_fits _ = true

group : (test : Op → Bool) (rows : List (List ℕ × Op)) (name : List ℕ) (make : Op → Shape) (others : Option Shape) → rows_pass test rows ≡ true → ((op : Op) → test op ≡ true → shape_fits (make op) ≡ true)
    → Good (Passes shape_fits) others → Good (Passes shape_fits) (first_of (option_map make (named rows name)) others)
group test rows name make others e h g =
    either (Passes shape_fits) (option_map make (named rows name)) others (mapped_at (Passes test) (Passes shape_fits) (named rows name) make (in_table test rows name e) h) g

abbrev group_of : List (List ℕ × Op) → (Op → Shape) → List ℕ → Option Shape
group_of rows make name = option_map make (named rows name)

instruction_good : (name : List ℕ) → Good (Passes shape_fits) (instruction_shape name)
unfolding instruction_shape register_rows base_rows product_rows low_word_rows immediate_rows memory_rows store_rows upper_rows atomic_rows atomic_word_rows atomic_double_rows reserve_rows bare_rows branch_rows row_of
instruction_good name =
    let i = group_of branch_rows (λ op. shape.Naming (naming.Branch op)) name in
    let h = first_of (group_of bare_rows (λ op. shape.Plain (plain.Bare op)) name) i in
    let g = first_of (group_of reserve_rows (λ op. shape.Plain (plain.Reserve op)) name) h in
    let f = first_of (group_of atomic_rows (λ op. shape.Plain (plain.Atomic op)) name) g in
    let e = first_of (group_of upper_rows (λ op. shape.Plain (plain.Upper op)) name) f in
    let d = first_of (group_of store_rows (λ op. shape.Plain (plain.Store op)) name) e in
    let c = first_of (group_of memory_rows (λ op. shape.Plain (plain.Memory op)) name) d in
    let b = first_of (group_of immediate_rows (λ op. shape.Plain (plain.Immediate op)) name) c in
    group (number_is 5) register_rows name (λ op. shape.Plain (plain.Register op)) b refl (λ op t. t) (
    group takes_number immediate_rows name (λ op. shape.Plain (plain.Immediate op)) c refl (λ op t. t) (
    group (number_is 3) memory_rows name (λ op. shape.Plain (plain.Memory op)) d refl (λ op t. t) (
    group (number_is 4) store_rows name (λ op. shape.Plain (plain.Store op)) e refl (λ op t. t) (
    group (number_is 0) upper_rows name (λ op. shape.Plain (plain.Upper op)) f refl (λ op t. t) (
    group (number_is 8) atomic_rows name (λ op. shape.Plain (plain.Atomic op)) g refl (λ op t. t) (
    group (number_is 9) reserve_rows name (λ op. shape.Plain (plain.Reserve op)) h refl (λ op t. t) (
    group takes_none bare_rows name (λ op. shape.Plain (plain.Bare op)) i refl (λ op t. t) (
    mapped_at (Passes (number_is 2)) (Passes shape_fits) (named branch_rows name) (λ op. shape.Naming (naming.Branch op)) (in_table (number_is 2) branch_rows name refl) (λ op t. t)))))))))

shape_good : (name : List ℕ) → Good (Passes shape_fits) (shape_of name)
unfolding shape_of plain_rows naming_rows value_rows row_of
shape_good name =
    let values = named value_rows name in
    let namings = option_map shape.Naming (named naming_rows name) in
    let plains = option_map shape.Plain (named plain_rows name) in
    either (Passes shape_fits) (instruction_shape name) (first_of plains (first_of namings values)) (instruction_good name) (
    either (Passes shape_fits) plains (first_of namings values) (mapped_at (Passes plain_fits) (Passes shape_fits) (named plain_rows name) shape.Plain (in_table plain_fits plain_rows name refl) (λ s t. t)) (
    either (Passes shape_fits) namings values (mapped_at (Passes naming_fits) (Passes shape_fits) (named naming_rows name) shape.Naming (in_table naming_fits naming_rows name refl) (λ s t. t))
    (in_table shape_fits value_rows name refl)))

alone_good : (s : Statement) (text : List ℕ) → IsFormed s → Good IsFormed (alone s text)
unfolding alone
alone_good s text h = guarded IsFormed (is_nothing text) (Some s) (some IsFormed s h)

register_form_good : (op : Op) (text : List ℕ) → number_is 5 op ≡ true → Good IsFormed (register_form op text)
unfolding register_form
register_form_good op text e =
    bind IsFormed (first_good text) (λ rd. register_first rd.1 >>= (λ rs1. register_of rs1.1 >>= (λ rs2. Some (statement.Plain op rd.0 rs1.0 rs2 (pos 0))))) (λ rd a.
    bind IsFormed (first_good rd.1) (λ rs1. register_of rs1.1 >>= (λ rs2. Some (statement.Plain op rd.0 rs1.0 rs2 (pos 0)))) (λ rs1 b.
    bind IsFormed (register_good rs1.1) (λ rs2. Some (statement.Plain op rd.0 rs1.0 rs2 (pos 0))) (λ rs2 c.
    some IsFormed (statement.Plain op rd.0 rs1.0 rs2 (pos 0)) (three rd.0 rs1.0 rs2 (row_of op).form e a b c))))

immediate_form_good : (op : Op) (text : List ℕ) → takes_number op ≡ true → Good IsFormed (immediate_form op text)
unfolding immediate_form
immediate_form_good op text e =
    bind IsFormed (first_good text) (λ rd. register_and_number rd.1 >>= (λ x. Some (statement.Plain op rd.0 x.0 0 x.1))) (λ rd a.
    bind IsFormed (number_good rd.1) (λ x. Some (statement.Plain op rd.0 x.0 0 x.1)) (λ x b.
    some IsFormed (statement.Plain op rd.0 x.0 0 x.1) (two rd.0 x.0 x.1 (row_of op).form e a b)))

memory_form_good : (op : Op) (text : List ℕ) → number_is 3 op ≡ true → Good IsFormed (memory_form op text)
unfolding memory_form
memory_form_good op text e =
    bind IsFormed (first_good text) (λ rd. indexed rd.1 >>= (λ x. Some (statement.Plain op rd.0 x.1 0 x.0))) (λ rd a.
    bind IsFormed (indexed_good rd.1) (λ x. Some (statement.Plain op rd.0 x.1 0 x.0)) (λ x b.
    some IsFormed (statement.Plain op rd.0 x.1 0 x.0) (offset rd.0 x.1 x.0 (row_of op).form e a b)))

store_form_good : (op : Op) (text : List ℕ) → number_is 4 op ≡ true → Good IsFormed (store_form op text)
unfolding store_form
store_form_good op text e =
    bind IsFormed (first_good text) (λ rs2. indexed rs2.1 >>= (λ x. Some (statement.Plain op 0 x.1 rs2.0 x.0))) (λ rs2 b.
    bind IsFormed (indexed_good rs2.1) (λ x. Some (statement.Plain op 0 x.1 rs2.0 x.0)) (λ x a.
    some IsFormed (statement.Plain op 0 x.1 rs2.0 x.0) (stored x.1 rs2.0 x.0 (row_of op).form e a b)))

upper_form_good : (op : Op) (text : List ℕ) → number_is 0 op ≡ true → Good IsFormed (upper_form op text)
unfolding upper_form
upper_form_good op text e =
    bind IsFormed (number_good text) (λ x. Some (statement.Upper op x.0 x.1)) (λ x a. some IsFormed (statement.Upper op x.0 x.1) (a, is_upper (row_of op).form e))

atomic_form_good : (op : Op) (text : List ℕ) → number_is 8 op ≡ true → Good IsFormed (atomic_form op text)
unfolding atomic_form
atomic_form_good op text e =
    bind IsFormed (first_good text) (λ rd. register_first rd.1 >>= (λ rs2. based rs2.1 >>= (λ rs1. Some (statement.Plain op rd.0 rs1 rs2.0 (pos 0))))) (λ rd a.
    bind IsFormed (first_good rd.1) (λ rs2. based rs2.1 >>= (λ rs1. Some (statement.Plain op rd.0 rs1 rs2.0 (pos 0)))) (λ rs2 b.
    bind IsFormed (based_good rs2.1) (λ rs1. Some (statement.Plain op rd.0 rs1 rs2.0 (pos 0))) (λ rs1 c.
    some IsFormed (statement.Plain op rd.0 rs1 rs2.0 (pos 0)) (swapped rd.0 rs1 rs2.0 (row_of op).form e a c b))))

reserve_form_good : (op : Op) (text : List ℕ) → number_is 9 op ≡ true → Good IsFormed (reserve_form op text)
unfolding reserve_form
reserve_form_good op text e =
    bind IsFormed (first_good text) (λ rd. based rd.1 >>= (λ rs1. Some (statement.Plain op rd.0 rs1 0 (pos 0)))) (λ rd a.
    bind IsFormed (based_good rd.1) (λ rs1. Some (statement.Plain op rd.0 rs1 0 (pos 0))) (λ rs1 b.
    some IsFormed (statement.Plain op rd.0 rs1 0 (pos 0)) (reserved rd.0 rs1 (row_of op).form e a b)))

add_number : (rd rs1 : ℕ) (imm : ℤ) → rd < 32 → rs1 < 32 → IsFormed (statement.Plain Addi rd rs1 0 imm)
unfolding row_of
add_number rd rs1 imm a b = (a, b, refl)

jump_to : (rd rs1 : ℕ) (imm : ℤ) → rd < 32 → rs1 < 32 → IsFormed (statement.Plain Jalr rd rs1 0 imm)
unfolding row_of
jump_to rd rs1 imm a b = (a, b, refl)

move_good : (text : List ℕ) → Good IsFormed (move_form text)
unfolding move_form
move_good text =
    bind IsFormed (first_good text) (λ rd. register_of rd.1 >>= (λ rs. Some (statement.Plain Addi rd.0 rs 0 (pos 0)))) (λ rd a.
    bind IsFormed (register_good rd.1) (λ rs. Some (statement.Plain Addi rd.0 rs 0 (pos 0))) (λ rs b. some IsFormed (statement.Plain Addi rd.0 rs 0 (pos 0)) (add_number rd.0 rs (pos 0) a b)))

to_register_good : (text : List ℕ) → Good IsFormed (to_register_form text)
unfolding to_register_form
to_register_good text =
    bind IsFormed (register_good text) (λ rs. Some (statement.Plain Jalr 0 rs 0 (pos 0))) (λ rs b. some IsFormed (statement.Plain Jalr 0 rs 0 (pos 0)) (jump_to 0 rs (pos 0) (lit< tt) b))

literal_good : (text : List ℕ) → Good IsFormed (literal_form text)
unfolding literal_form
literal_good text = bind IsFormed (number_good text) (λ x. Some (statement.Literal x.0 x.1)) (λ x a. some IsFormed (statement.Literal x.0 x.1) a)

numbered_good : (make : ℤ → Statement) (text : List ℕ) → ((n : ℤ) → IsFormed (make n)) → Good IsFormed (option_map make (number_of text))
numbered_good make text h = mapped IsFormed (any (number_of text)) make (λ n u. h n)

named_good : (make : List ℕ → Statement) (text : List ℕ) → ((n : List ℕ) → IsFormed (make n)) → Good IsFormed (option_map make (name_of text))
named_good make text h = mapped IsFormed (any (name_of text)) make (λ n u. h n)

plain_good : (s : Plain) (text : List ℕ) → plain_fits s ≡ true → Good IsFormed (plain_of s text)
unfolding plain_of
plain_good (plain.Register op) text e = register_form_good op text e
plain_good (plain.Immediate op) text e = immediate_form_good op text e
plain_good (plain.Memory op) text e = memory_form_good op text e
plain_good (plain.Store op) text e = store_form_good op text e
plain_good (plain.Upper op) text e = upper_form_good op text e
plain_good (plain.Atomic op) text e = atomic_form_good op text e
plain_good (plain.Reserve op) text e = reserve_form_good op text e
plain_good (plain.Bare op) text e = alone_good (statement.Plain op 0 0 0 (pos 0)) text (bare (row_of op).form e)
plain_good plain.Nop text e = alone_good (statement.Plain Addi 0 0 0 (pos 0)) text (add_number 0 0 (pos 0) (lit< tt) (lit< tt))
plain_good plain.Move text e = move_good text
plain_good plain.Return text e = alone_good (statement.Plain Jalr 0 1 0 (pos 0)) text (jump_to 0 1 (pos 0) (lit< tt) (lit< tt))
plain_good plain.ToRegister text e = to_register_good text
plain_good plain.Literal text e = literal_good text
plain_good plain.EndFunction text e = alone_good statement.EndFunction text tt
plain_good plain.Raw text e = numbered_good statement.Raw text (λ n. tt)
plain_good plain.Nops text e = numbered_good statement.Nops text (λ n. tt)
plain_good plain.Zero text e = numbered_good statement.Zero text (λ n. tt)
plain_good plain.Align text e = numbered_good statement.Align text (λ n. tt)

-- ---- statements with names

branch_good : (op : Op) (text : List ℕ) → number_is 2 op ≡ true → Good IsFormed (branch_form op text)
unfolding branch_form
branch_good op text e =
    bind IsFormed (first_good text) (λ rs1. register_and_name rs1.1 >>= (λ x. Some (statement.Branch op rs1.0 x.0 x.1))) (λ rs1 a.
    bind IsFormed (name_good rs1.1) (λ x. Some (statement.Branch op rs1.0 x.0 x.1)) (λ x b. some IsFormed (statement.Branch op rs1.0 x.0 x.1) (a, b, is_branch (row_of op).form e)))

branch_zero_good : (op : Op) (text : List ℕ) → number_is 2 op ≡ true → Good IsFormed (branch_zero_form op text)
unfolding branch_zero_form
branch_zero_good op text e =
    bind IsFormed (name_good text) (λ x. Some (statement.Branch op x.0 0 x.1)) (λ x a. some IsFormed (statement.Branch op x.0 0 x.1) (a, lit< tt, is_branch (row_of op).form e))

jump_good : (text : List ℕ) → Good IsFormed (jump_form text)
unfolding jump_form
jump_good text = bind IsFormed (name_good text) (λ x. Some (statement.Jump x.0 x.1)) (λ x a. some IsFormed (statement.Jump x.0 x.1) a)

address_good : (text : List ℕ) → Good IsFormed (address_form text)
unfolding address_form
address_good text = bind IsFormed (name_good text) (λ x. Some (statement.Address x.0 x.1)) (λ x a. some IsFormed (statement.Address x.0 x.1) a)

naming_good : (s : Naming) (text : List ℕ) → naming_fits s ≡ true → Good IsFormed (naming_of s text)
unfolding naming_of
naming_good (naming.Branch op) text e = branch_good op text e
naming_good (naming.BranchZero op) text e = branch_zero_good op text e
naming_good naming.Entry text e = named_good statement.Entry text (λ n. tt)
naming_good naming.Function text e = named_good statement.Function text (λ n. tt)
naming_good naming.Jump text e = jump_good text
naming_good naming.ToLabel text e = named_good (statement.Jump 0) text (λ n. lit< tt)
naming_good naming.Address text e = address_good text
naming_good naming.Call text e = named_good statement.Call text (λ n. tt)
naming_good naming.Tail text e = named_good statement.Tail text (λ n. tt)

-- ---- values

each_good : {A : Type 0} (P : A → Type 0) (read : List ℕ → Option A) → ((text : List ℕ) → Good P (read text)) → (texts : List (List ℕ)) → Good (All P) (each read texts)
unfolding each
each_good P read h [] = some (All P) [] (All-nil P)
each_good P read h (text ∷ texts) =
    bind (All P) (h text) (λ x. each read texts >>= (λ xs. Some (x ∷ xs))) (λ x a.
    bind (All P) (each_good P read h texts) (λ xs. Some (x ∷ xs)) (λ xs b. some (All P) (x ∷ xs) (All-cons P x xs a b)))

name_width : (width : ℕ) → width_fits width true ≡ true → Contains (4 ∷ 8 ∷ []) width
name_width width e = ⊎_elim (λ a. (0, lit< tt, sym (eqb-true width 4 a))) (λ b. (1, lit< tt, sym (eqb-true width 8 b))) (or_cases (width == 4) (width == 8) e)

number_width : (width : ℕ) (names : Bool) → width_fits width names ≡ true → Contains (1 ∷ 4 ∷ 8 ∷ []) width
number_width width true e = Contains-append_right (1 ∷ []) (4 ∷ 8 ∷ []) width (name_width width e)
number_width width false e = (0, lit< tt, sym (eqb-true width 1 e))

named_value : (width : ℕ) (names : Bool) (text : List ℕ) → width_fits width names ≡ true → Good IsFormed (if names then option_map (statement.Reference width) (name_of text) else None)
named_value width true text e = named_good (statement.Reference width) text (λ n. name_width width e)
named_value width false text e = none IsFormed

number_or : (width : ℕ) (number : Option ℤ) (other : Option Statement) → Contains (1 ∷ 4 ∷ 8 ∷ []) width → Good IsFormed other → Good IsFormed (elim number [ Some n ↦ Some (statement.Value width n) | None ↦ other ])
number_or width None other w h = h
number_or width (Some n) other w h = some IsFormed (statement.Value width n) w

value_good : (width : ℕ) (names : Bool) (text : List ℕ) → width_fits width names ≡ true → Good IsFormed (value_of width names text)
unfolding value_of
value_good width names text e =
    number_or width (number_of text) (if names then option_map (statement.Reference width) (name_of text) else None) (number_width width names e) (named_value width names text e)

values_good : (width : ℕ) (names : Bool) (text : List ℕ) → width_fits width names ≡ true → Good (All IsFormed) (values_of width names text)
unfolding values_of
values_good width names text e = each_good IsFormed (value_of width names) (λ t. value_good width names t e) (parts (λ c. c == 44) text)

-- ---- whole statements, lines and sources

alone_in_good : (s : Option Statement) → Good IsFormed s → Good (All IsFormed) (alone_in s)
alone_in_good s g = mapped (All IsFormed) g (λ x. x ∷ []) (λ x h. All-cons IsFormed x [] h (All-nil IsFormed))

body_good : (s : Shape) (text : List ℕ) → shape_fits s ≡ true → Good (All IsFormed) (body_of s text)
unfolding body_of
body_good (shape.Plain s) text e = alone_in_good (plain_of s text) (plain_good s text e)
body_good (shape.Naming s) text e = alone_in_good (naming_of s text) (naming_good s text e)
body_good (shape.Values width names) text e = values_good width names text e
body_good shape.Ascii text e = alone_in_good (option_map statement.Ascii (string_of text)) (mapped IsFormed (any (string_of text)) statement.Ascii (λ n u. tt))

nothing_or : (t : Bool) (other : Option (List Statement)) → Good (All IsFormed) other → Good (All IsFormed) (if t then Some [] else other)
nothing_or true other g = some (All IsFormed) [] (All-nil IsFormed)
nothing_or false other g = g

unlabelled_good : (text : List ℕ) → Good (All IsFormed) (unlabelled text)
unfolding unlabelled
unlabelled_good text =
    let body : Good (All IsFormed) (option_and_then (λ s. body_of s (from is_blank text)) (shape_of (before is_blank text))) =
    bind (All IsFormed) (shape_good (before is_blank text)) (λ s. body_of s (from is_blank text)) (λ s e. body_good s (from is_blank text) e) in
    nothing_or (length text == 0) (option_and_then (λ s. body_of s (from is_blank text)) (shape_of (before is_blank text))) body

labelled_or : (label : Option (List ℕ × List ℕ)) (text : List ℕ)
    → Good (All IsFormed) (elim label [ None ↦ unlabelled text | Some x ↦ option_and_then (λ others. Some (statement.Label x.0 ∷ others)) (unlabelled (trimmed x.1)) ])
labelled_or None text = unlabelled_good text
labelled_or (Some x) text =
    bind (All IsFormed) (unlabelled_good (trimmed x.1)) (λ others. Some (statement.Label x.0 ∷ others)) (λ others h.
    some (All IsFormed) (statement.Label x.0 ∷ others) (All-cons IsFormed (statement.Label x.0) others tt h))

statement_good : (text : List ℕ) → Good (All IsFormed) (statement_of text)
unfolding statement_of
statement_good text = labelled_or (label_of (trimmed text)) (trimmed text)

statements_good : (texts : List (List ℕ)) → Good (All IsFormed) (statements_in texts)
unfolding statements_in
statements_good [] = some (All IsFormed) [] (All-nil IsFormed)
statements_good (text ∷ texts) =
    bind (All IsFormed) (statement_good text) (λ first. statements_in texts >>= (λ rest. Some (first ++ rest))) (λ first a.
    bind (All IsFormed) (statements_good texts) (λ rest. Some (first ++ rest)) (λ rest b. some (All IsFormed) (first ++ rest) (All-append IsFormed first rest a b)))

line_good : (line : List ℕ) → Good (All IsFormed) (line_of line)
unfolding line_of
line_good line = statements_good (pieces Outside line)

abbrev formed : Item → Type 0
formed i = IsFormed i.statement

extended_good : (items : List Item) (line : ℕ) (statements : Option (List Statement)) → AreFormed items → Good (All IsFormed) statements → Good AreFormed (extended items line statements)
unfolding extended
extended_good items line statements a g =
    mapped AreFormed g (λ ss. items ++ map (item line) ss) (λ ss h. All-append formed items (map (item line) ss) a (All-map formed (item line) ss h))

behind_good : (more : Option (List Item)) (items : List Item) (line : ℕ) (go : List Item → Read) → AreFormed items → Good AreFormed more → ((is : List Item) → AreFormed is → AreFormed (go is).items)
    → AreFormed (behind_line more items line go).items
behind_good None items line go a g h = a
behind_good (Some more) items line go a g h = h more (g.fits more refl)

text_or : (t : Bool) (stopped read : Read) → AreFormed stopped.items → AreFormed read.items → AreFormed (if t then stopped else read).items
text_or true stopped read a b = a
text_or false stopped read a b = b

lines_good : (items : List Item) (line : ℕ) (texts : List (List ℕ)) → AreFormed items → AreFormed (read_lines items line texts).items
unfolding read_lines
lines_good items line [] a = a
lines_good items line (text ∷ others) a =
    text_or (list_any is_foreign text) (read items (Some (fault line Text))) (behind_line (extended items line (line_of text)) items line (λ more. read_lines more (line + 1) others)) a
    (behind_good (extended items line (line_of text)) items line (λ more. read_lines more (line + 1) others) a (extended_good items line (line_of text) a (line_good text))
    (λ more b. lines_good more (line + 1) others b))

pub source_good : (text : List ℕ) → AreFormed (source_of text).items
unfolding source_of
source_good text = lines_good [] 1 (parts (λ c. c == 10) text) (All-nil formed)
