-- SPDX-License-Identifier: Apache-2.0
-- Of regions that rise, those that can have bytes in the words of one of them.
use Rattle.std.proofs.Common.{◌≡◌, ℕ, zero, suc, ◌+◌, ◌-◌, ◌*◌, ◌<◌, ◌≤◌, Bool, true, false, List, [], ◌∷◌, Some, length, take, drop, drop-drop, take-append-drop, refl, sym, ap, ◌∙◌, subst, inl, inr, arith}
use Rattle.std.specs.Prelude.{◌&&◌, nat_le, nat_lt, if◌then◌else◌, slice_get, slice_index_or}
use Rattle.std.specs.List.{list_any}
use Rattle.std.proofs.lemmas.Bool.{and_parts, and_from, or_from, cases_lt, leb-true, le-leb, ltb-true, lt-ltb}
use Rattle.std.proofs.lemmas.Bool.Decides.{nat_tests}
use Rattle.std.proofs.lemmas.List.{drop_all}
use Rattle.std.proofs.lemmas.Option.{slice_get_read}
use Rattle.sh_types.specs.declared.code.Region.{Region}
use Rattle.guest_mem.specs.declared.cells.Cell.{Cell}
use Rattle.guest_mem.specs.First.{first_cell, meets_word, rise_from, stands_from}
use Rattle.guest_mem.specs.Paged.{empty_cell}
use Rattle.guest_mem.proofs.Alone.{cut, skipped}
use Rattle.guest_mem.proofs.Opening.{opened_next}

-- ---- where regions that rise lie

record Rises (a : ℕ) (r : Region) (rs : List Region) : Type 0 where
  pub from : a ≤ r.start
  pub some : r.start < r.end
  pub rest : rise_from r.end rs ≡ true

rises : (a : ℕ) (r : Region) (rs : List Region) → rise_from a (r ∷ rs) ≡ true → Rises a r rs
rises a r rs e =
    let p : (stands_from a r ≡ true) × (rise_from r.end rs ≡ true) = and_parts (stands_from a r) (rise_from r.end rs) e in
    let q : (nat_le a r.start ≡ true) × (nat_lt r.start r.end ≡ true) = and_parts (nat_le a r.start) (nat_lt r.start r.end) p.0 in
    record { from = leb-true a r.start q.0; some = ltb-true r.start r.end q.1; rest = p.1 }

lower : (rs : List Region) (a b : ℕ) → b ≤ a → rise_from a rs ≡ true → rise_from b rs ≡ true
lower [] a b l e = refl
lower (r ∷ rs) a b l e =
    let p : Rises a r rs = rises a r rs e in
    let f : b ≤ r.start = omega (arith, l, p.from) in
    and_from (stands_from b r) (rise_from r.end rs) (and_from (nat_le b r.start) (nat_lt r.start r.end) (le-leb b r.start f) (lt-ltb r.start r.end p.some)) p.rest

-- each region has a byte
later : (rs : List Region) (a n : ℕ) → rise_from a rs ≡ true → rise_from (a + n) (drop n rs) ≡ true
later rs a zero e = let q : a + 0 ≡ a = omega arith in ap (λ x. rise_from x rs) q ∙ e
later [] a (suc n) e = refl
later (r ∷ rs) a (suc n) e =
    let p : Rises a r rs = rises a r rs e in
    let f : a + 1 ≤ r.end = omega (arith, p.from, p.some) in
    let q : a + suc n ≡ a + 1 + n = omega arith in
    ap (λ x. rise_from x (drop n rs)) q ∙ later rs (a + 1) n (lower rs r.end (a + 1) f p.rest)

behind : (rs : List Region) (a i : ℕ) (r : Region) → rise_from a rs ≡ true → slice_get rs i ≡ Some r → rise_from r.end (drop (suc i) rs) ≡ true
behind [] a i r e g = absurd (cc)
behind (q ∷ rs) a zero r e g =
    let p : q ≡ r = cc in
    subst (λ (x : Region). rise_from x.end rs ≡ true) p (rises a q rs e).rest
behind (q ∷ rs) a (suc i) r e g = behind rs q.end i r (rises a q rs e).rest g

starts_at : (rs : List Region) (a i : ℕ) (r : Region) → rise_from a rs ≡ true → slice_get rs i ≡ Some r → a + i ≤ r.start
starts_at [] a i r e g = absurd (cc)
starts_at (q ∷ rs) a zero r e g =
    let p : q ≡ r = cc in
    let f : a ≤ r.start = subst (λ (x : Region). a ≤ x.start) p (rises a q rs e).from in
    omega (arith, f)
starts_at (q ∷ rs) a (suc i) r e g =
    let p : Rises a q rs = rises a q rs e in
    let f : q.end + i ≤ r.start = starts_at rs q.end i r p.rest g in
    omega (arith, p.from, p.some, f)

-- ---- a word that a region meets

met_start : (r : Region) (w : ℕ) → meets_word w r ≡ true → r.start < 8 * w + 8
met_start r w h = both r.start r.end w h
  where
    both : (s e w : ℕ) → (nat_lt s e && (nat_lt s (8 * (w + 1)) && nat_lt (8 * w) e)) ≡ true → s < 8 * w + 8
    both s e w h = grind (arith, nat_tests, h)

met_end : (r : Region) (w : ℕ) → meets_word w r ≡ true → 8 * w < r.end
met_end r w h = both r.start r.end w h
  where
    both : (s e w : ℕ) → (nat_lt s e && (nat_lt s (8 * (w + 1)) && nat_lt (8 * w) e)) ≡ true → 8 * w < e
    both s e w h = grind (arith, nat_tests, h)

starts_past : (r : Region) (w : ℕ) → 8 * w + 8 ≤ r.start → meets_word w r ≡ false
starts_past r w h = both r.start r.end w h
  where
    both : (s e w : ℕ) → 8 * w + 8 ≤ s → (nat_lt s e && (nat_lt s (8 * (w + 1)) && nat_lt (8 * w) e)) ≡ false
    both s e w h = grind (arith, nat_tests, h)

ends_before : (r : Region) (w : ℕ) → r.end ≤ 8 * w → meets_word w r ≡ false
ends_before r w h = both r.start r.end w h
  where
    both : (s e w : ℕ) → e ≤ 8 * w → (nat_lt s e && (nat_lt s (8 * (w + 1)) && nat_lt (8 * w) e)) ≡ false
    both s e w h = grind (arith, nat_tests, h)

all_past : (rs : List Region) (a w : ℕ) → rise_from a rs ≡ true → 8 * w + 8 ≤ a → list_any (meets_word w) rs ≡ false
all_past [] a w e l = refl
all_past (r ∷ rs) a w e l =
    let p : Rises a r rs = rises a r rs e in
    let f : 8 * w + 8 ≤ r.start = omega (arith, l, p.from) in
    let g : 8 * w + 8 ≤ r.end = omega (arith, f, p.some) in
    or_from (meets_word w r) (list_any (meets_word w) rs) (starts_past r w f) (all_past rs r.end w p.rest g)

-- ---- the regions that are looked at

-- those from the eighth behind the region on do not meet the word
none_behind : (rs : List Region) (i n w : ℕ) (r : Region) → rise_from 0 rs ≡ true → slice_get rs i ≡ Some r → meets_word w r ≡ true → 7 ≤ n → list_any (meets_word w) (drop (suc i + n) rs) ≡ false
none_behind rs i n w r e g t l =
    let s : rise_from (r.end + n) (drop n (drop (suc i) rs)) ≡ true = later (drop (suc i) rs) r.end n (behind rs 0 i r e g) in
    let far : 8 * w + 8 ≤ r.end + n = omega (arith, l, met_end r w t) in
    ap (list_any (meets_word w)) (sym (drop-drop n (suc i) rs)) ∙ all_past (drop n (drop (suc i) rs)) (r.end + n) w s far

none_past : (rs : List Region) (i n w : ℕ) (r : Region) → rise_from 0 rs ≡ true → slice_get rs i ≡ Some r → meets_word w r ≡ true → (n < i + 8 → length rs ≤ n) → list_any (meets_word w) (drop n rs) ≡ false
none_past rs i n w r e g t back = elim (cases_lt n (i + 8)) [
  | inl l ↦ ap (list_any (meets_word w)) (drop_all n rs (back l))
  | inr l ↦
      let q : n ≡ suc i + (n - suc i) = omega (arith, l) in
      let m : 7 ≤ n - suc i = omega (arith, l) in
      ap (λ k. list_any (meets_word w) (drop k rs)) q ∙ none_behind rs i (n - suc i) w r e g t m
]

-- nor do those up to the eighth before it
none_before : (rs : List Region) (a m i w : ℕ) (r : Region) → rise_from a rs ≡ true → slice_get rs i ≡ Some r → meets_word w r ≡ true → m ≤ i - 7 → first_cell (drop m rs) w ≡ first_cell rs w
none_before rs a zero i w r e g t l = refl
none_before [] a (suc m) i w r e g t l = refl
none_before (q ∷ rs) a (suc m) zero w r e g t l = absurd (omega (arith, l))
none_before (q ∷ rs) a (suc m) (suc i) w r e g t l =
    let p : Rises a q rs = rises a q rs e in
    let f : q.end + i ≤ r.start = starts_at rs q.end i r p.rest g in
    let low : q.end ≤ 8 * w = omega (arith, f, l, met_start r w t) in
    let n : m ≤ i - 7 = omega (arith, l) in
    none_before rs q.end m i w r p.rest g t n ∙ sym (skipped q rs w (ends_before q w low))

pub near_same : (rs : List Region) (i m n w : ℕ) (r : Region) → rise_from 0 rs ≡ true → m ≤ i - 7 → m ≤ n → (n < i + 8 → length rs ≤ n) → slice_get rs i ≡ Some r → meets_word w r ≡ true → first_cell (take (n - m) (drop m rs)) w ≡ first_cell rs w
near_same rs i m n w r e front order back g t =
    let q : m + (n - m) ≡ n = omega (arith, order) in
    let d : drop (n - m) (drop m rs) ≡ drop n rs = drop-drop (n - m) m rs ∙ ap (λ k. drop k rs) q in
    let none : list_any (meets_word w) (drop (n - m) (drop m rs)) ≡ false = ap (list_any (meets_word w)) d ∙ none_past rs i n w r e g t back in
    sym (cut (take (n - m) (drop m rs)) (drop (n - m) (drop m rs)) w none)
    ∙ ap (λ xs. first_cell xs w) (take-append-drop (n - m) (drop m rs))
    ∙ none_before rs 0 m i w r e g t front

-- ---- one region more

same_if : {A : Type 0} (b : Bool) (x y z : A) → (b ≡ true → x ≡ y) → (if b then x else z) ≡ (if b then y else z)
same_if true x y z h = h refl
same_if false x y z h = refl

pub opened_near : (rs few : List Region) (i w : ℕ) (r : Region) (now was : Cell) → i < length rs → r ≡ slice_index_or rs i r → ((w : ℕ) (s : Region) → slice_get rs i ≡ Some s → meets_word w s ≡ true → first_cell few w ≡ first_cell rs w) → now ≡ (if meets_word w r then first_cell few w else was) → was ≡ (if list_any (meets_word w) (take i rs) then first_cell rs w else empty_cell) → now ≡ (if list_any (meets_word w) (take (i + 1) rs) then first_cell rs w else empty_cell)
opened_near rs few i w r now was h e same en ew =
    let at : slice_get rs i ≡ Some r = slice_get_read rs (length rs) i r refl h e in
    opened_next (meets_word w) rs i r now was (first_cell rs w) empty_cell h e
    (en ∙ same_if (meets_word w r) (first_cell few w) (first_cell rs w) was (λ m. same w r at m)) ew
