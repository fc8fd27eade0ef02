-- SPDX-License-Identifier: Apache-2.0
-- Functions that rise and share no byte. This project's own.
use Rattle.std.specs.Prelude.{ℕ, ◌+◌, ◌<◌, ◌≤◌, ◌^◌, List, length, map, slice_index}
use Rattle.sh_types.specs.declared.code.Function.{Function}
use Rattle.sh_types.specs.Image.{starts_of}

-- the home of the function with a number, and its size
abbrev pub home_in : List Function → ℕ → ℕ
home_in functions k = slice_index (starts_of functions) k

abbrev pub size_in : List Function → ℕ → ℕ
size_in functions k = slice_index (map (λ (f : Function). f.size) functions) k

-- each starts behind the one before and not before its end; their numbers have 32 bits
pub record AreApart (functions : List Function) : Type 0 where
  pub few : length functions < 2 ^ 32
  pub rise : (j k : ℕ) → j < k → k < length functions → home_in functions j < home_in functions k
  pub apart : (j k : ℕ) → j < k → k < length functions → home_in functions j + size_in functions j ≤ home_in functions k
