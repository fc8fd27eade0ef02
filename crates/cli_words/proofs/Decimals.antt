-- SPDX-License-Identifier: Apache-2.0
-- A word of decimal digits as a number, by what parsing it answers.
use Rattle.std.proofs.Common.{◌≡◌, ◌<◌, ◌^◌, ℕ, List, true, length, sym, ◌∙◌, ap, inl, inr, arith}
use Rattle.std.specs.Prelude.{◌==◌, ◌||◌, ◌&&◌, not, nat_le, nat_lt, slice_index, Option, Some, None, option_and_then, Result, Ok, Err, if◌then◌else◌}
use Rattle.std.specs.Result.{result_ok}
use Rattle.std.specs.Str.{all_ascii_digits}
use Rattle.std.specs.Str.Parse.{digits_value, ParsesUnsigned}
use Rattle.std.proofs.lemmas.Bool.{and_parts, and_right, cases_lt, ltb-true, lt-leb}
use Rattle.std.proofs.lemmas.Str.Parse.{IsNumeralModel, numerals_by_value, tells_all_ascii_digits, parse_digits}
use Rattle.cli_words.specs.Numbers.{is_decimal, decimal_value, number_in}

-- a number of the range
abbrev pub kept : (least most : ℕ) → ℕ → Option ℕ
kept least most n = if nat_le least n && nat_le n most then Some n else None

own : IsNumeralModel (λ ds. all_ascii_digits ds ≡ true) (digits_value 10)
own = numerals_by_value (λ ds. all_ascii_digits ds ≡ true) tells_all_ascii_digits

past : (least most n : ℕ) → most < n → kept least most n ≡ None
past least most n far = ap (λ t. if t then Some n else None) (and_right (nat_le least n) (nat_le n most) (lt-leb n most far))

module _ (least most : ℕ) (word : List ℕ) (decimal : is_decimal word ≡ true) where
  front : (nat_lt 0 (length word) && (not (slice_index word 0 == 48) || (length word == 1))) ≡ true
  front = (and_parts (nat_lt 0 (length word) && (not (slice_index word 0 == 48) || (length word == 1))) (all_ascii_digits word) decimal).0

  digits : all_ascii_digits word ≡ true
  digits = (and_parts (nat_lt 0 (length word) && (not (slice_index word 0 == 48) || (length word == 1))) (all_ascii_digits word) decimal).1

  some : 0 < length word
  some = ltb-true 0 (length word) (and_parts (nat_lt 0 (length word)) (not (slice_index word 0 == 48) || (length word == 1)) front).0

  as_kept : number_in least most word ≡ kept least most (decimal_value word)
  as_kept = ap (λ t. if t && nat_le least (decimal_value word) && nat_le (decimal_value word) most then Some (decimal_value word) else None) decimal

  -- the number that was parsed, where it is one of the range
  pub number_parsed : {E : Type 0} (r : Result ℕ E) → most < 2 ^ 64 → ParsesUnsigned 64 10 word r → number_in least most word ≡ option_and_then (kept least most) (result_ok r)
  number_parsed {E} (Ok n) low parses = as_kept ∙ ap (kept least most) (sym (parse_digits own {E = E} 64 word (Ok n) parses digits).1)
  number_parsed {E} (Err e) low parses = elim (cases_lt (decimal_value word) (2 ^ 64)) [
    | inl small ↦ absurd (parse_digits own {E = E} 64 word (Err e) parses digits (some, small))
    | inr large ↦ as_kept ∙ past least most (decimal_value word) (omega arith)
  ]
