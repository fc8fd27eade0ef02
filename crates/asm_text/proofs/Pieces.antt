-- SPDX-License-Identifier: Apache-2.0
-- Where a loop stands that goes over a line to the end of its first statement.
use Rattle.std.proofs.Common.{◌≡◌, ℕ, ◌+◌, ◌-◌, ◌<◌, ◌≤◌, Bool, true, false, List, [], ◌∷◌, ◌++◌, length, get_or, take, drop, refl, sym, ap, ◌∙◌, append_assoc}
use Rattle.std.proofs.lemmas.List.{at_drop_more, at_drop_all, take_more, take_all, take_rest, append-nil}
use Rattle.asm_text.specs.declared.lines.Quote.{Quote}
use Rattle.asm_text.specs.declared.lines.Quote.TheVariants.{Outside}
use Rattle.std.specs.Prelude.{if◌then◌else◌}
use Rattle.asm_text.specs.Statements.{in_front}
use Rattle.asm_text.specs.Source.{pieces, next, is_end, is_comment}

-- the first piece behind this front
abbrev pub fronted : List ℕ → List (List ℕ) → List (List ℕ)
fronted front [] = front ∷ []
fronted front (piece ∷ others) = (front ++ piece) ∷ others

regroup : (front : List ℕ) (c : ℕ) (all : List (List ℕ)) → fronted front (in_front c all) ≡ fronted (front ++ c ∷ []) all
regroup front c [] = refl
regroup front c (piece ∷ others) = ap (λ (w : List ℕ). w ∷ others) (sym (append_assoc front (c ∷ []) piece))

step : (quote : Quote) (c : ℕ) (cs : List ℕ) → is_comment quote c ≡ false → is_end quote c ≡ false → pieces quote (c ∷ cs) ≡ in_front c (pieces (next quote c) cs)
unfolding pieces
step quote c cs h k = rw (h, k) refl

stop : (quote : Quote) (c : ℕ) (cs : List ℕ) → is_comment quote c ≡ true → pieces quote (c ∷ cs) ≡ [] ∷ []
unfolding pieces
stop quote c cs h = rw h refl

split : (quote : Quote) (c : ℕ) (cs : List ℕ) → is_comment quote c ≡ false → is_end quote c ≡ true → pieces quote (c ∷ cs) ≡ [] ∷ pieces Outside cs
unfolding pieces
split quote c cs h k = rw (h, k) refl

pub goes_on : (line : List ℕ) (i : ℕ) (quote : Quote) (total : List (List ℕ)) → i < length line → is_comment quote (get_or line i 0) ≡ false → is_end quote (get_or line i 0) ≡ false
    → fronted (take i line) (pieces quote (drop i line)) ≡ total → fronted (take (i + 1) line) (pieces (next quote (get_or line i 0)) (drop (i + 1) line)) ≡ total
goes_on line i quote total lt h k so_far =
    let c = get_or line i 0 in
    let rest = pieces (next quote c) (drop (i + 1) line) in
    let e : pieces quote (drop i line) ≡ in_front c rest = at_drop_more (pieces quote) line i 0 lt ∙ step quote c (drop (i + 1) line) h k in
    let t : take (i + 1) line ≡ take i line ++ c ∷ [] = take_more line i 0 lt in
    ap (λ (front : List ℕ). fronted front rest) t ∙ sym (regroup (take i line) c rest) ∙ sym (ap (fronted (take i line)) e) ∙ so_far

pub comment : (line : List ℕ) (i : ℕ) (quote : Quote) (total : List (List ℕ)) → i < length line → is_comment quote (get_or line i 0) ≡ true
    → fronted (take i line) (pieces quote (drop i line)) ≡ total → total ≡ take i line ∷ []
comment line i quote total lt h so_far =
    let e : pieces quote (drop i line) ≡ [] ∷ [] = at_drop_more (pieces quote) line i 0 lt ∙ stop quote (get_or line i 0) (drop (i + 1) line) h in
    sym so_far ∙ ap (fronted (take i line)) e ∙ ap (λ (w : List ℕ). w ∷ []) (append-nil (take i line))

pub ends : (line : List ℕ) (i : ℕ) (quote : Quote) (total : List (List ℕ)) → i < length line → is_comment quote (get_or line i 0) ≡ false → is_end quote (get_or line i 0) ≡ true
    → fronted (take i line) (pieces quote (drop i line)) ≡ total → total ≡ take i line ∷ pieces Outside (take (length line - (i + 1)) (drop (i + 1) line))
ends line i quote total lt h k so_far =
    let others = pieces Outside (drop (i + 1) line) in
    let e : pieces quote (drop i line) ≡ [] ∷ others = at_drop_more (pieces quote) line i 0 lt ∙ split quote (get_or line i 0) (drop (i + 1) line) h k in
    sym so_far ∙ ap (fronted (take i line)) e ∙ ap (λ (w : List ℕ). w ∷ others) (append-nil (take i line))
    ∙ ap (λ (w : List ℕ). take i line ∷ pieces Outside w) (sym (take_rest line (i + 1)))

front_of_none : (b d : Bool) (c : ℕ) (others all : List (List ℕ)) → fronted [] (if b then [] ∷ [] else (if d then [] ∷ others else in_front c all)) ≡ (if b then [] ∷ [] else (if d then [] ∷ others else in_front c all))
front_of_none true d c others all = refl
front_of_none false true c others all = refl
front_of_none false false c others [] = refl
front_of_none false false c others (piece ∷ rest) = refl

pub begun : (quote : Quote) (line : List ℕ) → fronted [] (pieces quote line) ≡ pieces quote line
unfolding pieces
begun quote [] = refl
begun quote (c ∷ cs) = front_of_none (is_comment quote c) (is_end quote c) c (pieces Outside cs) (pieces (next quote c) cs)

nothing : (quote : Quote) → pieces quote [] ≡ [] ∷ []
unfolding pieces
nothing quote = refl

pub ran_out : (line : List ℕ) (i : ℕ) (quote : Quote) (total : List (List ℕ)) → length line ≤ i → fronted (take i line) (pieces quote (drop i line)) ≡ total → total ≡ line ∷ []
ran_out line i quote total le so_far =
    let e : pieces quote (drop i line) ≡ [] ∷ [] = at_drop_all (pieces quote) line i le ∙ nothing quote in
    let t : take i line ++ [] ≡ line = append-nil (take i line) ∙ take_all i line le in
    sym so_far ∙ ap (fronted (take i line)) e ∙ ap (λ (w : List ℕ). w ∷ []) t
