-- SPDX-License-Identifier: Apache-2.0
use Rattle.std.proofs.Common.{◌≡◌, false, drop}
use Rattle.asm_places.specs.Places.{misplaced_line}
use Rattle.asm_places.proofs.places.misplaced_line.Given as goal

abbrev pub invariant-loop-item : goal.invariant-loop-item
invariant-loop-item l = misplaced_line l.inside (drop l.item-index l.items) ≡ misplaced_line false l.items
