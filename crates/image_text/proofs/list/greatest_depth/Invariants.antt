-- SPDX-License-Identifier: Apache-2.0
use Rattle.std.proofs.Common.{◌≡◌, drop}
use Rattle.std.specs.Prelude.{max}
use Rattle.image_text.specs.Listing.{greatest_depth}
use Rattle.image_text.proofs.list.greatest_depth.Given as goal

abbrev pub invariant-loop-row : goal.invariant-loop-row
invariant-loop-row l = max l.depth (greatest_depth (drop l.row-index l.rows)) ≡ greatest_depth l.rows
