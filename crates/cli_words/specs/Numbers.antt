-- SPDX-License-Identifier: Apache-2.0
-- Words that are numbers, and words that are seeds.
use Rattle.std.specs.Prelude.{ℕ, ◌==◌, ◌&&◌, ◌||◌, Bool, not, nat_le, nat_lt, List, length, slice_index, Option, Some, None, if◌then◌else◌}
use Rattle.std.specs.Str.{all_ascii_digits}
use Rattle.std.specs.Str.Parse.{digits_value}
use Rattle.std.specs.Result.{result_ok}
use Rattle.hex.specs.Hex.{decode_sized}
use Rattle.cli_words.specs.Limits.{seed_size}

-- decimal digits, of which the first is a 0 only where it is alone
abbrev pub is_decimal : List ℕ → Bool
is_decimal word = nat_lt 0 (length word) && (not (slice_index word 0 == 48) || (length word == 1)) && all_ascii_digits word

-- the number that these digits write
abbrev pub decimal_value : List ℕ → ℕ
decimal_value word = digits_value 10 word

-- the number that the word is, where it is one of the range
abbrev pub number_in : (least most : ℕ) → List ℕ → Option ℕ
number_in least most word =
    if is_decimal word && nat_le least (decimal_value word) && nat_le (decimal_value word) most then Some (decimal_value word) else None

-- hexadecimal digits of either case, two for each byte of a seed, in the order in which they stand
abbrev pub seed_of : List ℕ → Option (List ℕ)
seed_of word = result_ok (decode_sized word seed_size)
