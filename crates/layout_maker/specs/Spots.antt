-- SPDX-License-Identifier: Apache-2.0
-- Where the functions lie: one behind the other, each after a gap, with a guard of 4 bytes behind it. This
-- project's own rule.
use Rattle.std.specs.Prelude.{ℕ, zero, suc, ◌+◌, ◌-◌, ◌*◌, ◌/◌, ◌%◌, List, length, replicate, slice_index, slice_set}
use Rattle.sh_types.specs.Limits.{cell_size}

-- the room that a cell leaves to each of n functions that take so many bytes, each with its guard
abbrev pub share_of : ℕ → ℕ → ℕ
share_of taken n = (cell_size - taken) / n

-- the gap before the function at place p of the order: a multiple of 4 that is no more than its share
abbrev pub gap_by : (ℕ → ℕ) → ℕ → ℕ → ℕ
gap_by d share p = 4 * (d p % (share / 4 + 1))

-- where the first p functions of the order end, each with its gap and its guard
unfoldable pub end_by : (ℕ → ℕ) → ℕ → List ℕ → List ℕ → ℕ → ℕ → ℕ
end_by d share order sizes start zero = start
end_by d share order sizes start (suc p) = end_by d share order sizes start p + gap_by d share p + slice_index sizes (slice_index order p) + 4

-- the places of the first p functions of the order, and 0 for the others
unfoldable pub places_by : (ℕ → ℕ) → ℕ → List ℕ → List ℕ → ℕ → ℕ → List ℕ
places_by d share order sizes start zero = replicate (length sizes) 0
places_by d share order sizes start (suc p) = slice_set (places_by d share order sizes start p) (slice_index order p) (end_by d share order sizes start p + gap_by d share p)
