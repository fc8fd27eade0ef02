-- SPDX-License-Identifier: Apache-2.0
use Rattle.std.proofs.Common.{◌≡◌, false, drop}
use Rattle.asm_places.specs.Places.{is_open}
use Rattle.asm_places.proofs.places.is_open.Given as goal

abbrev pub invariant-loop-item : goal.invariant-loop-item
invariant-loop-item l = is_open l.inside (drop l.item-index l.items) ≡ is_open false l.items
