-- SPDX-License-Identifier: Apache-2.0
-- Strings of the source language.
use Rattle.std.specs.Prelude.{ℕ, ◌==◌, ◌||◌, Bool, true, false, Option, Some, None, List, [], ◌∷◌, length, slice_index, drop, option_map, if◌then◌else◌}
use Rattle.asm_words.specs.Characters.{trimmed}
use Rattle.asm_words.specs.Numbers.{◌>>=◌}

-- what a character behind a backslash stands for: `\n`, `\\` and `\"`
abbrev pub escape : ℕ → Option ℕ
escape c = if c == 110 then Some 10 else (if (c == 92) || (c == 34) then Some c else None)

-- the bytes of a string behind its first quote, of which the second is the last character; a backslash went before
-- where escaped
unfoldable pub quoted : Bool → List ℕ → Option (List ℕ)
quoted escaped [] = None
quoted true (c ∷ cs) = do
  e ← escape c
  rest ← quoted false cs
  Some (e ∷ rest)
quoted false (c ∷ cs) =
    if c == 34 then (if length cs == 0 then Some [] else None)
    else (if c == 92 then quoted true cs else option_map (λ rest. c ∷ rest) (quoted false cs))

-- an operand that is a string: its bytes
unfoldable pub string_of : List ℕ → Option (List ℕ)
string_of text = if slice_index (trimmed text) 0 == 34 then quoted false (drop 1 (trimmed text)) else None
