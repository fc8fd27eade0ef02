-- SPDX-License-Identifier: Apache-2.0
-- Characters of the source language: blanks, names, and where a text is cut.
use Rattle.std.specs.Prelude.{ℕ, ◌==◌, ◌&&◌, ◌||◌, not, nat_le, Bool, Option, Some, None, List, [], ◌∷◌, length, slice_index, option_map, if◌then◌else◌}
use Rattle.std.specs.List.{list_all}

-- a space or a tab
abbrev pub is_blank : ℕ → Bool
is_blank c = (c == 32) || (c == 9)

-- the text without the blanks at its front
unfoldable pub trimmed_start : List ℕ → List ℕ
trimmed_start [] = []
trimmed_start (c ∷ cs) = if is_blank c then trimmed_start cs else c ∷ cs

-- a character in front of a text that has no blanks at its end
abbrev pub joined : ℕ → List ℕ → List ℕ
joined c [] = if is_blank c then [] else c ∷ []
joined c (d ∷ ds) = c ∷ d ∷ ds

-- the text without the blanks at its end
unfoldable pub trimmed_end : List ℕ → List ℕ
trimmed_end [] = []
trimmed_end (c ∷ cs) = joined c (trimmed_end cs)

-- the text without the blanks at its ends
abbrev pub trimmed : List ℕ → List ℕ
trimmed text = trimmed_end (trimmed_start text)

-- a character in front of the first of two parts
abbrev pub led : ℕ → List ℕ × List ℕ → List ℕ × List ℕ
led c parts = (c ∷ parts.0, parts.1)

-- what stands before the first of these characters, and what stands behind it; none where the text has no such
unfoldable pub cut : (ℕ → Bool) → List ℕ → Option (List ℕ × List ℕ)
cut test [] = None
cut test (c ∷ cs) = if test c then Some ([], cs) else option_map (led c) (cut test cs)

-- the text up to the first such character, or all
unfoldable pub before : (ℕ → Bool) → List ℕ → List ℕ
before test [] = []
before test (c ∷ cs) = if test c then [] else c ∷ before test cs

-- the text from the first such character on
unfoldable pub from : (ℕ → Bool) → List ℕ → List ℕ
from test [] = []
from test (c ∷ cs) = if test c then c ∷ cs else from test cs

abbrev pub is_digit : ℕ → Bool
is_digit c = nat_le 48 c && nat_le c 57

-- a letter of either case
abbrev pub is_letter : ℕ → Bool
is_letter c = (nat_le 65 c && nat_le c 90) || (nat_le 97 c && nat_le c 122)

-- a letter, a digit, `_` or `.`
abbrev pub in_name : ℕ → Bool
in_name c = is_letter c || is_digit c || (c == 95) || (c == 46)

-- a name: at least one such character, the first of them no digit
unfoldable pub is_name : List ℕ → Bool
is_name text = not (length text == 0) && (not (is_digit (slice_index text 0)) && list_all in_name text)

-- a byte that a line of the text may not hold: outside 0x20 to 0x7e, and no tab
abbrev pub is_foreign : ℕ → Bool
is_foreign c = not (c == 9) && not (nat_le 32 c && nat_le c 126)
