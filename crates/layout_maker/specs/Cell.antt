-- SPDX-License-Identifier: Apache-2.0
-- The cells of the layouts: one of those that none of the last layouts had. This project's own rule.
use Rattle.std.specs.Prelude.{ℕ, zero, suc, ◌+◌, ◌-◌, ◌%◌, ◌==◌, Bool, List, [], ◌∷◌, ◌++◌, length, not, slice_index}
use Rattle.std.specs.List.{filter, list_any, range_with_len}
use Rattle.sh_types.specs.Limits.{cell_count}
use Rattle.sh_types.specs.Recent.{last_64}
use Rattle.layout_maker.specs.Draws.{draws_of, generator_of}

-- the cell is none of these
abbrev pub is_free : List ℕ → ℕ → Bool
is_free recent c = not (list_any (λ r. r == c) recent)

-- the cells from c on, n in number, that are none of these, in rising order
unfoldable pub free_from : List ℕ → ℕ → ℕ → List ℕ
free_from recent c n = filter (is_free recent) (range_with_len c n)

-- the cell that a draw gives
unfoldable pub cell_by : ℕ → List ℕ → ℕ
cell_by w recent = slice_index (free_from recent 0 cell_count) (w % (cell_count - length recent))

-- the cells of the layouts 1 to k
unfoldable pub cells_of : List ℕ → ℕ → List ℕ
cells_of seed zero = []
cells_of seed (suc k) = cells_of seed k ++ cell_by (draws_of (generator_of seed (k + 1)) 0) (last_64 (cells_of seed k)) ∷ []

-- the cells that the layout numbered k may not have
unfoldable pub recent_of : List ℕ → ℕ → List ℕ
recent_of seed k = last_64 (cells_of seed (k - 1))

-- the cell of the layout numbered k
unfoldable pub cell_of : List ℕ → ℕ → ℕ
cell_of seed k = cell_by (draws_of (generator_of seed k) 0) (recent_of seed k)
