-- SPDX-License-Identifier: Apache-2.0
-- The layout rule, this project's own: which cell, where in it each function lies, and the keys of the harts, by
-- the draws of a stream.
use Rattle.std.specs.Prelude.{ℕ, ◌-◌, ◌*◌, List, length, map}
use Rattle.std.specs.List.{range_with_len}
use Rattle.sh_types.specs.declared.layouts.Layout.{Layout}
use Rattle.sh_types.specs.Limits.{most_harts}
use Rattle.sh_types.specs.Place.{cell_start}
use Rattle.layout_maker.specs.Draws.{draws_of, generator_of, from_draw}
use Rattle.layout_maker.specs.Cell.{cell_of}
use Rattle.layout_maker.specs.Order.{order_by}
use Rattle.layout_maker.specs.Spots.{share_of, places_by}
use Rattle.sh_types.specs.Sized.{total}

-- the keys of the harts
unfoldable pub keys_by : (ℕ → ℕ) → List ℕ
keys_by d = map d (range_with_len 0 most_harts)

-- the places of functions of these sizes in a cell: a draw for each swap, then one for each gap
unfoldable pub placed_by : (ℕ → ℕ) → List ℕ → ℕ → List ℕ
placed_by d sizes start =
    let n = length sizes in
    places_by (from_draw (n - 1) d) (share_of (total sizes) n) (order_by d n) sizes start n

-- the layout numbered k: a draw for the cell, then those for the places, then the keys
unfoldable pub layout_of : List ℕ → List ℕ → ℕ → Layout
layout_of sizes seed k =
    let d = draws_of (generator_of seed k) in
    record {
      number = k;
      cell = cell_of seed k;
      places = placed_by (from_draw 1 d) sizes (cell_start (cell_of seed k));
      sizes = sizes;
      keys = keys_by (from_draw (2 * length sizes) d);
    }
