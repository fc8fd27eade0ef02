-- SPDX-License-Identifier: Apache-2.0
-- Reading fields gives what was written.
use Rattle.std.proofs.Common.{◌≡◌, ℕ, zero, suc, ◌+◌, ◌*◌, ◌/◌, ◌%◌, ◌^◌, ◌<◌, List, [], ◌∷◌, ◌++◌, length, get_or, take, refl, ap, sym, ◌∙◌, append_assoc, add-zero, arith}
use Rattle.std.proofs.Math.Nat.{pow-suc, div-lt_iff_lt-mul}
use Rattle.std.proofs.lemmas.List.{get_or-append-add, length-append}
use Rattle.elf_rules.specs.Elf.{number_at}
use Rattle.elf_write.specs.Fields.{little, fields}
use Rattle.elf_write.proofs.Widths.{widths, length_little}

-- ---- a number

-- what is in front is passed over
pub number_behind : (n : ℕ) (xs ys : List ℕ) (p : ℕ) → number_at n (xs ++ ys) (length xs + p) ≡ number_at n ys p
unfolding number_at
number_behind zero xs ys p = refl
number_behind (suc n) xs ys p =
    let first : get_or (xs ++ ys) (length xs + p) 0 ≡ get_or ys p 0 = get_or-append-add xs ys p 0 in
    let place : length xs + p + 1 ≡ length xs + (p + 1) = omega arith in
    let rest : number_at n (xs ++ ys) (length xs + (p + 1)) ≡ number_at n ys (p + 1) = number_behind n xs ys (p + 1) in
    rw (place, first, rest)

pub number_front : (n : ℕ) (xs ys : List ℕ) → number_at n (xs ++ ys) (length xs) ≡ number_at n ys 0
number_front n xs ys =
    ap (λ (p : ℕ). number_at n (xs ++ ys) p) (sym (add-zero (length xs))) ∙ number_behind n xs ys 0

pub number_little : (n value : ℕ) (rest : List ℕ) → value < 256 ^ n → number_at n (little n value ++ rest) 0 ≡ value
unfolding number_at little
number_little zero value rest small = omega arith
number_little (suc n) value rest small =
    let fits : value < 256 ^ n * 256 = rw pow-suc at small in
    let less : value / 256 < 256 ^ n = (div-lt_iff_lt-mul (omega arith)).1 fits in
    let behind : number_at n (value % 256 ∷ (little n (value / 256) ++ rest)) 1 ≡ number_at n (little n (value / 256) ++ rest) 0 =
    number_behind n (value % 256 ∷ []) (little n (value / 256) ++ rest) 0 in
    let high : number_at n (little n (value / 256) ++ rest) 0 ≡ value / 256 = number_little n (value / 256) rest less in
    rw (behind, high) (omega arith)

-- ---- a field

abbrev pub nth : List (ℕ × ℕ) → ℕ → ℕ × ℕ
nth all k = get_or all k (0, 0)

pub field_is : (before : List ℕ) (at : ℕ) (all : List (ℕ × ℕ)) (k : ℕ) (behind : List ℕ) → length before ≡ at → k < length all → (nth all k).1 < 256 ^ (nth all k).0 → number_at (nth all k).0 ((before ++ fields all) ++ behind) (at + widths (take k all)) ≡ (nth all k).1
unfolding fields
field_is before at [] k behind start inside small = absurd (omega arith)
field_is before at (field ∷ rest) zero behind start inside small =
    let parts : (before ++ (little field.0 field.1 ++ fields rest)) ++ behind ≡ before ++ (little field.0 field.1 ++ (fields rest ++ behind)) =
    simp append_assoc in
    let place : at + 0 ≡ length before = add-zero at ∙ sym start in
    rw (parts, place) (number_front field.0 before (little field.0 field.1 ++ (fields rest ++ behind)) ∙ number_little field.0 field.1 (fields rest ++ behind) small)
field_is before at (field ∷ rest) (suc k) behind start inside small =
    let parts : (before ++ (little field.0 field.1 ++ fields rest)) ++ behind ≡ ((before ++ little field.0 field.1) ++ fields rest) ++ behind =
    simp append_assoc in
    let place : at + (field.0 + widths (take k rest)) ≡ at + field.0 + widths (take k rest) = omega arith in
    let next : length (before ++ little field.0 field.1) ≡ at + field.0 = rw (length-append, length_little, start) in
    rw (parts, place) (field_is (before ++ little field.0 field.1) (at + field.0) rest k behind next (omega arith) small)

-- the first field, at the place where all begin
pub first_is : (before : List ℕ) (at : ℕ) (all : List (ℕ × ℕ)) (behind : List ℕ) → length before ≡ at → 0 < length all → (nth all 0).1 < 256 ^ (nth all 0).0 → number_at (nth all 0).0 ((before ++ fields all) ++ behind) at ≡ (nth all 0).1
first_is before at all behind start inside small =
    ap (λ (p : ℕ). number_at (nth all 0).0 ((before ++ fields all) ++ behind) p) (sym (add-zero at))
    ∙ field_is before at all 0 behind start inside small
