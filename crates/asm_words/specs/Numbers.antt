-- SPDX-License-Identifier: Apache-2.0
-- Numbers of the source language.
use Rattle.std.specs.Prelude.{ℕ, ℤ, pos, ◌-ℤ◌, ◌+◌, ◌-◌, ◌*◌, ◌^◌, ◌==◌, ◌&&◌, nat_le, nat_lt, min, Option, Some, None, List, [], ◌∷◌, length, slice_index, drop, option_map, option_and_then, if◌then◌else◌}
use Rattle.asm_words.specs.Characters.{is_digit, trimmed}

infixl 10 ◌>>=◌
abbrev pub ◌>>=◌ : {A B : Type 0} → Option A → (A → Option B) → Option B
o >>= f = option_and_then f o

-- what a character is as a digit: 0 to 9, and letters of either case from 10 on
abbrev pub digit_value : ℕ → Option ℕ
digit_value c =
    if is_digit c then Some (c - 48)
    else (if nat_le 97 c && nat_le c 102 then Some (c - 87)
    else (if nat_le 65 c && nat_le c 70 then Some (c - 55) else None))

-- a digit below the base
unfoldable pub digit_of : ℕ → ℕ → Option ℕ
digit_of base c = do
  d ← digit_value c
  if nat_lt d base then Some d else None

-- The number of the digits behind the number so far. One of 2 ^ 64 and more is out of each range, and counts as 2 ^ 64.
unfoldable pub digits : ℕ → ℕ → List ℕ → Option ℕ
digits base so_far [] = Some so_far
digits base so_far (c ∷ cs) = do
  d ← digit_of base c
  digits base (min (so_far * base + d) (2 ^ 64)) cs

-- a number without a sign: hexadecimal digits of either case behind `0x`, or decimal digits, of which the first is a 0
-- only where it is alone
unfoldable pub magnitude : List ℕ → Option ℕ
magnitude text =
    if length text == 0 then None
    else (if slice_index text 0 == 48
    then (if length text == 1 then Some 0
    else (if (slice_index text 1 == 120) && nat_lt 2 (length text) then digits 16 0 (drop 2 text) else None))
    else digits 10 0 text)

-- a number, with a `-` in front or without
unfoldable pub signed : List ℕ → Option ℤ
signed text =
    if slice_index text 0 == 45 then option_map (λ n. pos 0 -ℤ pos n) (magnitude (drop 1 text))
    else option_map pos (magnitude text)

-- an operand that is a number
unfoldable pub number_of : List ℕ → Option ℤ
number_of text = signed (trimmed text)
