-- SPDX-License-Identifier: Apache-2.0
-- The order of the functions, by the shuffle of R. A. Fisher and F. Yates in R. Durstenfeld's form
-- (Communications of the ACM 7, 1964, Algorithm 235).
use Rattle.std.specs.Prelude.{ℕ, zero, suc, ◌-◌, ◌%◌, List, swap}
use Rattle.std.specs.List.{range_with_len}

-- 0 to n - 1 after the first m swaps: of the places n - 1, n - 2 and so on, each with one that is not above it
unfoldable pub swapped : (ℕ → ℕ) → ℕ → ℕ → List ℕ
swapped d n zero = range_with_len 0 n
swapped d n (suc m) = swap (swapped d n m) (n - suc m) (d m % (n - m))

-- the order of n functions
abbrev pub order_by : (ℕ → ℕ) → ℕ → List ℕ
order_by d n = swapped d n (n - 1)
