-- SPDX-License-Identifier: Apache-2.0
-- Where the loops stand that go over the pieces of a line, and over the lines of a source.
use Rattle.std.proofs.Common.{◌≡◌, ℕ, ◌+◌, true, false, List, [], ◌∷◌, ◌++◌, drop, refl, sym, ap, ◌∙◌, append_assoc}
use Rattle.std.specs.Prelude.{Option, Some, None, map}
use Rattle.std.specs.List.{list_any}
use Rattle.std.proofs.lemmas.List.{append-nil}
use Rattle.asm_text.specs.declared.statements.Statement.{Statement}
use Rattle.asm_text.specs.declared.statements.Item.{Item}
use Rattle.asm_words.specs.declared.faults.Unread.{Unread}
use Rattle.asm_words.specs.declared.faults.Unread.TheVariants.{NoMemory, Form}
use Rattle.asm_text.specs.declared.faults.AsmRule.TheVariants as rule
use Rattle.asm_text.specs.declared.lines.Quote.TheVariants.{Outside}
use Rattle.asm_words.specs.Characters.{is_foreign}
use Rattle.asm_words.specs.Numbers.{◌>>=◌}
use Rattle.asm_text.specs.Statements.{statement_of}
use Rattle.asm_words.specs.Results.{Fails}
use Rattle.asm_text.specs.Reading.{item, extended}
use Rattle.asm_text.specs.Source.{pieces, statements_in, line_of, read_lines, Read, read, fault}
use Rattle.asm_text.proofs.Growing.{none_of}

pub headed : (all : List (List ℕ)) (first : List ℕ) (others : List (List ℕ)) → all ≡ first ∷ others → all ≡ first ∷ drop 1 all
headed all first others e = rw e refl

-- ---- the pieces of a line

two_by_two : (old : List Item) (line : ℕ) (a b : List Statement) → (old ++ map (item line) a) ++ map (item line) b ≡ old ++ map (item line) (a ++ b)
two_by_two old line [] b = ap (λ (w : List Item). w ++ map (item line) b) (append-nil old)
two_by_two old line (s ∷ a) b =
    append_assoc old (map (item line) (s ∷ a)) (map (item line) b) ∙ ap (λ (w : List Item). old ++ item line s ∷ w) (two_by_two [] line a b)

then_others : (old mid : List Item) (line : ℕ) (first others : Option (List Statement)) → extended old line first ≡ Some mid
    → extended mid line others ≡ extended old line (first >>= λ a. others >>= λ b. Some (a ++ b))
unfolding extended
then_others old mid line None others e = cc
then_others old mid line (Some a) None e = refl
then_others old mid line (Some a) (Some b) e =
    let m : mid ≡ old ++ map (item line) a = cc in
    ap Some (ap (λ (w : List Item). w ++ map (item line) b) m ∙ two_by_two old line a b)

two_pieces : (piece : List ℕ) (others : List (List ℕ)) → statements_in (piece ∷ others) ≡ (statement_of piece >>= λ a. statements_in others >>= λ b. Some (a ++ b))
unfolding statements_in
two_pieces piece others = refl

no_pieces : statements_in [] ≡ Some []
unfolding statements_in
no_pieces = refl

extended_some : (old : List Item) (line : ℕ) → extended old line (Some []) ≡ Some old
unfolding extended
extended_some old line = ap Some (append-nil old)

pub piece_then : (old mid : List Item) (line : ℕ) (text piece next : List ℕ) (total : Option (List Item)) → pieces Outside text ≡ piece ∷ pieces Outside next
    → extended old line (statement_of piece) ≡ Some mid → extended old line (statements_in (pieces Outside text)) ≡ total → extended mid line (statements_in (pieces Outside next)) ≡ total
piece_then old mid line text piece next total p e so_far =
    then_others old mid line (statement_of piece) (statements_in (pieces Outside next)) e
    ∙ sym (ap (extended old line) (ap statements_in p ∙ two_pieces piece (pieces Outside next))) ∙ so_far

pub piece_last : (old new : List Item) (line : ℕ) (text piece : List ℕ) (total : Option (List Item)) → pieces Outside text ≡ piece ∷ []
    → extended old line (statement_of piece) ≡ Some new → extended old line (statements_in (pieces Outside text)) ≡ total → total ≡ Some new
piece_last old new line text piece total p e so_far =
    sym so_far ∙ ap (extended old line) (ap statements_in p ∙ two_pieces piece [])
    ∙ sym (then_others old new line (statement_of piece) (statements_in []) e) ∙ ap (extended new line) no_pieces ∙ extended_some new line

failed : (piece : List ℕ) (others : List (List ℕ)) → statement_of piece ≡ None → statements_in (piece ∷ others) ≡ None
unfolding statements_in
failed piece others e = rw e refl

extended_none : (old : List Item) (line : ℕ) → extended old line None ≡ None
unfolding extended
extended_none old line = refl

pub piece_fails : (e : Unread) (old fresh : List Item) (line : ℕ) (text piece : List ℕ) (others : List (List ℕ)) (whole : Option (List Statement)) → pieces Outside text ≡ piece ∷ others
    → Fails e (statement_of piece) → extended old line (statements_in (pieces Outside text)) ≡ extended fresh line whole → Fails e whole
piece_fails NoMemory old fresh line text piece others whole p f so_far = tt
piece_fails Form old fresh line text piece others whole p f so_far =
    none_of fresh line whole (sym so_far ∙ (ap (extended old line) (ap statements_in p ∙ failed piece others f) ∙ extended_none old line))

-- ---- the lines of a source

pub lines_text : (items : List Item) (line : ℕ) (all : List (List ℕ)) (first : List ℕ) (others : List (List ℕ)) (total : Read) → all ≡ first ∷ others
    → list_any is_foreign first ≡ true → read_lines items line all ≡ total → read items (Some (fault line rule.Text)) ≡ total
unfolding read_lines
lines_text items line all first others total e h so_far =
    let one : read_lines items line all ≡ read items (Some (fault line rule.Text)) = ap (read_lines items line) e ∙ rw h refl in
    sym one ∙ so_far

pub lines_form : (items : List Item) (line : ℕ) (all : List (List ℕ)) (first : List ℕ) (others : List (List ℕ)) (total : Read) → all ≡ first ∷ others
    → list_any is_foreign first ≡ false → line_of first ≡ None → read_lines items line all ≡ total → read items (Some (fault line rule.Form)) ≡ total
unfolding read_lines extended
lines_form items line all first others total e h f so_far =
    let one : read_lines items line all ≡ read items (Some (fault line rule.Form)) = ap (read_lines items line) e ∙ rw (h, f) refl in
    sym one ∙ so_far

-- what a line adds, whatever stands before it
added : (items more : List Item) (line : ℕ) (statements : Option (List Statement)) → extended [] line statements ≡ Some more → extended items line statements ≡ Some (items ++ more)
unfolding extended
added items more line None e = cc
added items more line (Some ss) e = let m : map (item line) ss ≡ more = cc in ap (λ (w : List Item). Some (items ++ w)) m

one_line : (items more : List Item) (line : ℕ) (first : List ℕ) (others : List (List ℕ)) → list_any is_foreign first ≡ false → extended items line (line_of first) ≡ Some more
    → read_lines items line (first ∷ others) ≡ read_lines more (line + 1) others
unfolding read_lines
one_line items more line first others h e = rw (h, e) refl

no_line : (items : List Item) (line : ℕ) → read_lines items line [] ≡ read items None
unfolding read_lines
no_line items line = refl

pub lines_more : (items more : List Item) (line : ℕ) (all : List (List ℕ)) (first : List ℕ) (others : List (List ℕ)) (total : Read) → all ≡ first ∷ others
    → list_any is_foreign first ≡ false → extended [] line (line_of first) ≡ Some more → read_lines items line all ≡ total → read_lines (items ++ more) (line + 1) others ≡ total
lines_more items more line all first others total e h f so_far =
    sym (ap (read_lines items line) e ∙ one_line items (items ++ more) line first others h (added items more line (line_of first) f)) ∙ so_far

pub lines_last : (items more : List Item) (line : ℕ) (all : List (List ℕ)) (first : List ℕ) (total : Read) → all ≡ first ∷ []
    → list_any is_foreign first ≡ false → extended [] line (line_of first) ≡ Some more → read_lines items line all ≡ total → read (items ++ more) None ≡ total
lines_last items more line all first total e h f so_far =
    sym (ap (read_lines items line) e ∙ one_line items (items ++ more) line first [] h (added items more line (line_of first) f) ∙ no_line (items ++ more) (line + 1)) ∙ so_far
