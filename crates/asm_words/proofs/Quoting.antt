-- SPDX-License-Identifier: Apache-2.0
-- Where the loop stands that goes over a string.
use Rattle.std.proofs.Common.{◌≡◌, ◌≢◌, ℕ, ◌+◌, ◌<◌, ◌≤◌, Bool, true, false, List, [], ◌∷◌, ◌++◌, length, get_or, drop, refl, sym, ap, ◌∙◌, append_assoc, arith, eq-eqb, length-drop}
use Rattle.std.specs.Prelude.{Option, Some, None, ◌==◌, option_map, if◌then◌else◌}
use Rattle.std.proofs.lemmas.List.{at_drop_more, at_drop_all, append-nil}
use Rattle.std.proofs.lemmas.Bool.{ne_eqb}
use Rattle.asm_words.specs.Numbers.{◌>>=◌}
use Rattle.asm_words.specs.Strings.{quoted, escape}

-- these bytes, and behind them the others
abbrev pub behind : List ℕ → Option (List ℕ) → Option (List ℕ)
behind front others = option_map (λ (r : List ℕ). front ++ r) others

with_escape : (e c : ℕ) (cs : List ℕ) → escape c ≡ Some e → quoted true (c ∷ cs) ≡ (quoted false cs >>= λ rest. Some (e ∷ rest))
unfolding quoted
with_escape e c cs h = rw h refl

no_escape : (c : ℕ) (cs : List ℕ) → escape c ≡ None → quoted true (c ∷ cs) ≡ None
unfolding quoted
no_escape c cs h = rw h refl

regroup : (front : List ℕ) (e : ℕ) (others : Option (List ℕ)) → behind front (others >>= λ rest. Some (e ∷ rest)) ≡ behind (front ++ e ∷ []) others
regroup front e None = refl
regroup front e (Some rest) = ap Some (sym (append_assoc front (e ∷ []) rest))

regroup_map : (front : List ℕ) (e : ℕ) (others : Option (List ℕ)) → behind front (option_map (λ rest. e ∷ rest) others) ≡ behind (front ++ e ∷ []) others
regroup_map front e None = refl
regroup_map front e (Some rest) = ap Some (sym (append_assoc front (e ∷ []) rest))

pub escape_more : (text front : List ℕ) (i e : ℕ) (total : Option (List ℕ)) → i < length text → escape (get_or text i 0) ≡ Some e
    → behind front (quoted true (drop i text)) ≡ total → behind (front ++ e ∷ []) (quoted false (drop (i + 1) text)) ≡ total
escape_more text front i e total lt h so_far =
    let one : quoted true (drop i text) ≡ (quoted false (drop (i + 1) text) >>= λ rest. Some (e ∷ rest)) = at_drop_more (quoted true) text i 0 lt ∙ with_escape e (get_or text i 0) (drop (i + 1) text) h in
    sym (regroup front e (quoted false (drop (i + 1) text))) ∙ sym (ap (behind front) one) ∙ so_far

pub escape_none : (text front : List ℕ) (i : ℕ) (total : Option (List ℕ)) → i < length text → escape (get_or text i 0) ≡ None
    → behind front (quoted true (drop i text)) ≡ total → total ≡ None
escape_none text front i total lt h so_far =
    let one : quoted true (drop i text) ≡ None = at_drop_more (quoted true) text i 0 lt ∙ no_escape (get_or text i 0) (drop (i + 1) text) h in
    sym so_far ∙ ap (behind front) one

closes : (c : ℕ) (cs : List ℕ) → (c == 34) ≡ true → quoted false (c ∷ cs) ≡ (if length cs == 0 then Some [] else None)
unfolding quoted
closes c cs h = rw h refl

opens : (c : ℕ) (cs : List ℕ) → (c == 34) ≡ false → (c == 92) ≡ true → quoted false (c ∷ cs) ≡ quoted true cs
unfolding quoted
opens c cs h k = rw (h, k) refl

passes : (c : ℕ) (cs : List ℕ) → (c == 34) ≡ false → (c == 92) ≡ false → quoted false (c ∷ cs) ≡ option_map (λ rest. c ∷ rest) (quoted false cs)
unfolding quoted
passes c cs h k = rw (h, k) refl

pub quote_last : (text front : List ℕ) (i : ℕ) (total : Option (List ℕ)) → i < length text → get_or text i 0 ≡ 34 → i + 1 ≡ length text
    → behind front (quoted false (drop i text)) ≡ total → total ≡ Some front
quote_last text front i total lt h last so_far =
    let rest = drop (i + 1) text in
    let none : rest ≡ [] = at_drop_all (λ (w : List ℕ). w) text (i + 1) (omega arith) in
    let one : quoted false (drop i text) ≡ Some [] = at_drop_more (quoted false) text i 0 lt ∙ closes (get_or text i 0) rest (eq-eqb (get_or text i 0) 34 h) ∙ ap (λ (w : List ℕ). if length w == 0 then Some [] else None) none in
    sym so_far ∙ ap (behind front) one ∙ ap Some (append-nil front)

pub quote_early : (text front : List ℕ) (i : ℕ) (total : Option (List ℕ)) → i < length text → get_or text i 0 ≡ 34 → i + 1 ≢ length text
    → behind front (quoted false (drop i text)) ≡ total → total ≡ None
quote_early text front i total lt h early so_far =
    let rest = drop (i + 1) text in
    let some : length rest ≢ 0 = omega (arith, length-drop (i + 1) text) in
    let one : quoted false (drop i text) ≡ None = at_drop_more (quoted false) text i 0 lt ∙ closes (get_or text i 0) rest (eq-eqb (get_or text i 0) 34 h) ∙ rw (ne_eqb (length rest) 0 some) refl in
    sym so_far ∙ ap (behind front) one

pub escape_begins : (text front : List ℕ) (i : ℕ) (total : Option (List ℕ)) → i < length text → get_or text i 0 ≢ 34 → get_or text i 0 ≡ 92
    → behind front (quoted false (drop i text)) ≡ total → behind front (quoted true (drop (i + 1) text)) ≡ total
escape_begins text front i total lt h k so_far =
    let c = get_or text i 0 in
    let one : quoted false (drop i text) ≡ quoted true (drop (i + 1) text) = at_drop_more (quoted false) text i 0 lt ∙ opens c (drop (i + 1) text) (ne_eqb c 34 h) (eq-eqb c 92 k) in
    sym (ap (behind front) one) ∙ so_far

pub plain_more : (text front : List ℕ) (i : ℕ) (total : Option (List ℕ)) → i < length text → get_or text i 0 ≢ 34 → get_or text i 0 ≢ 92
    → behind front (quoted false (drop i text)) ≡ total → behind (front ++ get_or text i 0 ∷ []) (quoted false (drop (i + 1) text)) ≡ total
plain_more text front i total lt h k so_far =
    let c = get_or text i 0 in
    let one : quoted false (drop i text) ≡ option_map (λ rest. c ∷ rest) (quoted false (drop (i + 1) text)) = at_drop_more (quoted false) text i 0 lt ∙ passes c (drop (i + 1) text) (ne_eqb c 34 h) (ne_eqb c 92 k) in
    sym (regroup_map front c (quoted false (drop (i + 1) text))) ∙ sym (ap (behind front) one) ∙ so_far

pub unclosed : (text front : List ℕ) (i : ℕ) (escaped : Bool) (total : Option (List ℕ)) → length text ≤ i
    → behind front (quoted escaped (drop i text)) ≡ total → total ≡ None
unfolding quoted
unclosed text front i escaped total le so_far = sym so_far ∙ at_drop_all (λ (w : List ℕ). behind front (quoted escaped w)) text i le
