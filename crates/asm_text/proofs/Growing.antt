-- SPDX-License-Identifier: Apache-2.0
-- Items that grow by the statements of a line.
use Rattle.std.proofs.Common.{◌≡◌, ℕ, ◌<◌, Bool, true, false, List, [], ◌∷◌, ◌++◌, length, refl, sym, ap, subst, ◌∙◌, append_assoc, arith}
use Rattle.std.specs.Prelude.{Option, Some, None, Result, Ok, Err, map, option_map, if◌then◌else◌}
use Rattle.std.proofs.lemmas.List.{append-nil}
use Rattle.asm_text.specs.declared.statements.Statement.{Statement}
use Rattle.asm_text.specs.declared.statements.Item.{Item}
use Rattle.asm_words.specs.declared.faults.Unread.{Unread}
use Rattle.asm_words.specs.declared.faults.Unread.TheVariants.{NoMemory, Form}
use Rattle.asm_text.specs.declared.statements.Statement.TheVariants as statement
use Rattle.asm_words.specs.Characters.{cut, led, trimmed}
use Rattle.asm_words.specs.Numbers.{◌>>=◌}
use Rattle.asm_text.specs.Statements.{parts, in_front, each, alone_in, label_of, unlabelled, statement_of}
use Rattle.asm_words.specs.Results.{Fails}
use Rattle.asm_text.specs.Reading.{Grows, item, extended}

pub one_more : (old : List Item) (line : ℕ) (s : Statement) → extended old line (Some (s ∷ [])) ≡ Some (old ++ item line s ∷ [])
unfolding extended
one_more old line s = refl

pub nothing_more : (old : List Item) (line : ℕ) → extended old line (Some []) ≡ Some old
unfolding extended
nothing_more old line = ap Some (append-nil old)

-- one statement, and then others
pub behind_one : (old : List Item) (line : ℕ) (s : Statement) (others : Option (List Statement))
    → extended (old ++ item line s ∷ []) line others ≡ extended old line (others >>= λ ss. Some (s ∷ ss))
unfolding extended
behind_one old line s None = refl
behind_one old line s (Some ss) = ap Some (append_assoc old (item line s ∷ []) (map (item line) ss))

extended_none : (old : List Item) (line : ℕ) → extended old line None ≡ None
unfolding extended
extended_none old line = refl

-- nothing comes of nothing alone
pub none_of : (old : List Item) (line : ℕ) (statements : Option (List Statement)) → extended old line statements ≡ None → statements ≡ None
unfolding extended
none_of old line None e = refl
none_of old line (Some ss) e = cc

pub one_then : {V : Type 0} (old mid new : List Item) (line : ℕ) (s : Statement) (r : Result V Unread) (others : Option (List Statement))
    → extended old line (Some (s ∷ [])) ≡ Some mid → Grows mid new line r others → Grows old new line r (others >>= λ ss. Some (s ∷ ss))
unfolding extended
one_then old mid new line s (Ok _) others e g =
    let m : mid ≡ old ++ item line s ∷ [] = cc in
    sym (behind_one old line s others) ∙ sym (ap (λ (w : List Item). extended w line others) m) ∙ g
one_then old mid new line s (Err NoMemory) others e g = tt
one_then old mid new line s (Err Form) others e g = rw g refl

-- ---- parts

inject : {A : Type 0} (x y : A) → Some x ≡ Some y → x ≡ y
inject x y e = cc

behind_is : (a b c d : List ℕ) → ◌≡◌ {A = Option (List ℕ × List ℕ)} (Some (a, b)) (Some (c, d)) → b ≡ d
behind_is a b c d e = ap (λ (p : List ℕ × List ℕ). p.1) (inject (a, b) (c, d) e)

front_is : (a b c d : List ℕ) → ◌≡◌ {A = Option (List ℕ × List ℕ)} (Some (a, b)) (Some (c, d)) → a ≡ c
front_is a b c d e = ap (λ (p : List ℕ × List ℕ). p.0) (inject (a, b) (c, d) e)

shorter_if : (b : Bool) (c : ℕ) (cs : List ℕ) (found : Option (List ℕ × List ℕ)) (front rest : List ℕ) → ((p : List ℕ × List ℕ) → found ≡ Some p → length p.1 < length cs)
    → (if b then Some ([], cs) else option_map (led c) found) ≡ Some (front, rest) → length rest < length (c ∷ cs)
shorter_if true c cs found front rest h e = let same : cs ≡ rest = behind_is [] cs front rest e in omega (arith, ap length same)
shorter_if false c cs None front rest h e = cc
shorter_if false c cs (Some p) front rest h e =
    let same : p.1 ≡ rest = behind_is (c ∷ p.0) p.1 front rest e in
    let lt : length p.1 < length cs = h p refl in
    omega (arith, ap length same)

pub cut_shorter : (test : ℕ → Bool) (text : List ℕ) (front rest : List ℕ) → cut test text ≡ Some (front, rest) → length rest < length text
unfolding cut
cut_shorter test [] front rest e = cc
cut_shorter test (c ∷ cs) front rest e = shorter_if (test c) c cs (cut test cs) front rest (λ p h. cut_shorter test cs p.0 p.1 h) e

parts_if : (b : Bool) (test : ℕ → Bool) (c : ℕ) (cs : List ℕ) (found : Option (List ℕ × List ℕ)) (front rest : List ℕ) → ((p : List ℕ × List ℕ) → found ≡ Some p → parts test cs ≡ p.0 ∷ parts test p.1)
    → (if b then Some ([], cs) else option_map (led c) found) ≡ Some (front, rest) → (if b then [] ∷ parts test cs else in_front c (parts test cs)) ≡ front ∷ parts test rest
parts_if true test c cs found front rest h e =
    let f : [] ≡ front = front_is [] cs front rest e in
    let r : cs ≡ rest = behind_is [] cs front rest e in
    ap (λ (w : List ℕ). w ∷ parts test cs) f ∙ ap (λ (w : List ℕ). front ∷ parts test w) r
parts_if false test c cs None front rest h e = cc
parts_if false test c cs (Some p) front rest h e =
    let f : c ∷ p.0 ≡ front = front_is (c ∷ p.0) p.1 front rest e in
    let r : p.1 ≡ rest = behind_is (c ∷ p.0) p.1 front rest e in
    ap (in_front c) (h p refl) ∙ (ap (λ (w : List ℕ). w ∷ parts test p.1) f ∙ ap (λ (w : List ℕ). front ∷ parts test w) r)

-- what is cut off is the first part
pub parts_cut : (test : ℕ → Bool) (text : List ℕ) (front rest : List ℕ) → cut test text ≡ Some (front, rest) → parts test text ≡ front ∷ parts test rest
unfolding cut parts
parts_cut test [] front rest e = cc
parts_cut test (c ∷ cs) front rest e = parts_if (test c) test c cs (cut test cs) front rest (λ p h. parts_cut test cs p.0 p.1 h) e

whole_if : (b : Bool) (test : ℕ → Bool) (c : ℕ) (cs : List ℕ) (found : Option (List ℕ × List ℕ)) → (found ≡ None → parts test cs ≡ cs ∷ [])
    → (if b then Some ([], cs) else option_map (led c) found) ≡ None → (if b then [] ∷ parts test cs else in_front c (parts test cs)) ≡ (c ∷ cs) ∷ []
whole_if true test c cs found h e = cc
whole_if false test c cs None h e = ap (in_front c) (h refl)
whole_if false test c cs (Some p) h e = cc

-- what is not cut is one part
pub parts_whole : (test : ℕ → Bool) (text : List ℕ) → cut test text ≡ None → parts test text ≡ text ∷ []
unfolding cut parts
parts_whole test [] e = refl
parts_whole test (c ∷ cs) e = whole_if (test c) test c cs (cut test cs) (λ h. parts_whole test cs h) e

-- what is behind a cut is shorter
pub shorter_cut : (test : ℕ → Bool) (text : List ℕ) (front rest : List ℕ) → ◌≡◌ {A = Option (List ℕ × List ℕ)} (Some (front, rest)) (cut test text) → length rest < length text
shorter_cut test text front rest e = cut_shorter test text front rest (sym e)

-- ---- values

each_first : {A : Type 0} (read : List ℕ → Option A) (text : List ℕ) (texts : List (List ℕ)) → each read (text ∷ texts) ≡ (read text >>= λ x. each read texts >>= λ xs. Some (x ∷ xs))
unfolding each
each_first read text texts = refl

bind_map : (o : Option Statement) → (o >>= λ x. Some (x ∷ [])) ≡ alone_in o
bind_map None = refl
bind_map (Some x) = refl

each_last : (read : List ℕ → Option Statement) (text : List ℕ) → each read (text ∷ []) ≡ alone_in (read text)
unfolding each
each_last read text = bind_map (read text)

then_each : (old mid : List Item) (line : ℕ) (first : Option Statement) (others : Option (List Statement)) → extended old line (alone_in first) ≡ Some mid
    → extended mid line others ≡ extended old line (first >>= λ x. others >>= λ xs. Some (x ∷ xs))
unfolding extended
then_each old mid line None others e = cc
then_each old mid line (Some s) others e =
    let m : mid ≡ old ++ item line s ∷ [] = cc in
    ap (λ (w : List Item). extended w line others) m ∙ behind_one old line s others

-- a value is read, and others follow
pub value_then : (read : List ℕ → Option Statement) (old mid : List Item) (line : ℕ) (test : ℕ → Bool) (text front rest : List ℕ) (total : Option (List Item))
    → ◌≡◌ {A = Option (List ℕ × List ℕ)} (Some (front, rest)) (cut test text) → extended old line (alone_in (read front)) ≡ Some mid
    → extended old line (each read (parts test text)) ≡ total → extended mid line (each read (parts test rest)) ≡ total
value_then read old mid line test text front rest total e m so_far =
    let one : each read (parts test text) ≡ (read front >>= λ x. each read (parts test rest) >>= λ xs. Some (x ∷ xs)) = ap (each read) (parts_cut test text front rest (sym e)) ∙ each_first read front (parts test rest) in
    then_each old mid line (read front) (each read (parts test rest)) m ∙ sym (ap (extended old line) one) ∙ so_far

lone_none : (o : Option Statement) → alone_in o ≡ None → o ≡ None
lone_none None e = refl
lone_none (Some x) e = cc

none_first : {A : Type 0} (read : List ℕ → Option A) (text : List ℕ) (texts : List (List ℕ)) → read text ≡ None → each read (text ∷ texts) ≡ None
unfolding each
none_first read text texts e = rw e refl

-- no value is read
pub value_fails : (read : List ℕ → Option Statement) (e : Unread) (old fresh : List Item) (line : ℕ) (test : ℕ → Bool) (text front rest : List ℕ) (whole : Option (List Statement))
    → ◌≡◌ {A = Option (List ℕ × List ℕ)} (Some (front, rest)) (cut test text) → Fails e (alone_in (read front))
    → extended old line (each read (parts test text)) ≡ extended fresh line whole → Fails e whole
value_fails read NoMemory old fresh line test text front rest whole e f so_far = tt
value_fails read Form old fresh line test text front rest whole e f so_far =
    let one : each read (parts test text) ≡ None = ap (each read) (parts_cut test text front rest (sym e)) ∙ none_first read front (parts test rest) (lone_none (read front) f) in
    none_of fresh line whole (sym so_far ∙ (ap (extended old line) one ∙ extended_none old line))

-- the last value
pub value_last : {V : Type 0} (read : List ℕ → Option Statement) (old new fresh : List Item) (line : ℕ) (test : ℕ → Bool) (text : List ℕ) (whole : Option (List Statement)) (r : Result V Unread)
    → None ≡ cut test text → Grows old new line r (alone_in (read text))
    → extended old line (each read (parts test text)) ≡ extended fresh line whole → Grows fresh new line r whole
value_last read old new fresh line test text whole (Ok _) e g so_far =
    let one : each read (parts test text) ≡ alone_in (read text) = ap (each read) (parts_whole test text (sym e)) ∙ each_last read text in
    sym so_far ∙ ap (extended old line) one ∙ g
value_last read old new fresh line test text whole (Err NoMemory) e g so_far = tt
value_last read old new fresh line test text whole (Err Form) e g so_far =
    let one : each read (parts test text) ≡ None = ap (each read) (parts_whole test text (sym e)) ∙ (each_last read text ∙ g) in
    none_of fresh line whole (sym so_far ∙ (ap (extended old line) one ∙ extended_none old line))

-- ---- a label, and what stands behind it

pub labelled : {V : Type 0} (text t front rest tail name : List ℕ) (old mid new : List Item) (line : ℕ) (r : Result V Unread) → t ≡ trimmed text → Some (front, rest) ≡ label_of t → name ≡ front
    → extended old line (Some (statement.Label name ∷ [])) ≡ Some mid → tail ≡ trimmed rest → Grows mid new line r (unlabelled tail) → Grows old new line r (statement_of text)
unfolding statement_of
labelled text t front rest tail name old mid new line r same e n m l g =
    let found : label_of (trimmed text) ≡ Some (front, rest) = sym (ap label_of same) ∙ sym e in
    let base : Grows old new line r (unlabelled tail >>= λ ss. Some (statement.Label name ∷ ss)) = one_then old mid new line (statement.Label name) r (unlabelled tail) m g in
    let behind : Grows old new line r (unlabelled (trimmed rest) >>= λ ss. Some (statement.Label name ∷ ss)) = subst (λ (w : List ℕ). Grows old new line r (unlabelled w >>= λ ss. Some (statement.Label name ∷ ss))) l base in
    let whole : Grows old new line r (unlabelled (trimmed rest) >>= λ ss. Some (statement.Label front ∷ ss)) = subst (λ (w : List ℕ). Grows old new line r (unlabelled (trimmed rest) >>= λ ss. Some (statement.Label w ∷ ss))) n behind in
    subst (λ (o : Option (List ℕ × List ℕ)). Grows old new line r (elim o [
      | None ↦ unlabelled (trimmed text)
      | Some x ↦ (unlabelled (trimmed x.1) >>= λ others. Some (statement.Label x.0 ∷ others))
    ])) (sym found) whole
