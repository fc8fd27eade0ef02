-- SPDX-License-Identifier: Apache-2.0
-- Operands of the source language: registers, numbers and names, one behind the other.
use Rattle.std.specs.Prelude.{ℕ, ℤ, ◌==◌, Bool, Option, Some, None, List, length, if◌then◌else◌}
use Rattle.asm_words.specs.Characters.{cut, trimmed, is_name}
use Rattle.asm_words.specs.Numbers.{◌>>=◌, number_of}
use Rattle.asm_words.specs.Registers.{register_of}

-- the operand before the first comma, and what stands behind it
abbrev pub at_comma : List ℕ → Option (List ℕ × List ℕ)
at_comma text = cut (λ c. c == 44) text

-- nothing but blanks
abbrev pub is_nothing : List ℕ → Bool
is_nothing text = length (trimmed text) == 0

-- what stands before and in a pair of round brackets, behind which nothing stands
unfoldable pub bracketed : List ℕ → Option (List ℕ × List ℕ)
bracketed text = do
  x ← cut (λ c. c == 40) text
  y ← cut (λ c. c == 41) x.1
  if is_nothing y.1 then Some (x.0, y.0) else None

-- `number(register)`
unfoldable pub indexed : List ℕ → Option (ℤ × ℕ)
indexed text = do
  x ← bracketed text
  n ← number_of x.0
  r ← register_of x.1
  Some (n, r)

-- `(register)`
unfoldable pub based : List ℕ → Option ℕ
based text = do
  x ← bracketed text
  if is_nothing x.0 then register_of x.1 else None

-- an operand that is a name
unfoldable pub name_of : List ℕ → Option (List ℕ)
name_of text = if is_name (trimmed text) then Some (trimmed text) else None

-- `register, ..`
unfoldable pub register_first : List ℕ → Option (ℕ × List ℕ)
register_first text = do
  x ← at_comma text
  r ← register_of x.0
  Some (r, x.1)

-- `register, name`
unfoldable pub register_and_name : List ℕ → Option (ℕ × List ℕ)
register_and_name text = do
  x ← register_first text
  n ← name_of x.1
  Some (x.0, n)

-- `register, number`
unfoldable pub register_and_number : List ℕ → Option (ℕ × ℤ)
register_and_number text = do
  x ← register_first text
  n ← number_of x.1
  Some (x.0, n)
