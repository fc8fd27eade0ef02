-- SPDX-License-Identifier: Apache-2.0
-- The cells that are kept are those that the next layout may not have. This project's own.
use Rattle.std.specs.Prelude.{ℕ, ◌+◌, ◌≤◌, ◌≡◌, List, length}
use Rattle.sh_types.specs.Limits.{recent_cells}
use Rattle.layout_maker.specs.Cell.{recent_of}
use Rattle.period_report.specs.declared.cells.Cells.{Cells}

pub record IsKept (seed : List ℕ) (c : Cells) : Type 0 where
  pub few : length c.recent.items ≤ recent_cells
  pub recent : c.recent.items ≡ recent_of seed (c.newest + 1)
