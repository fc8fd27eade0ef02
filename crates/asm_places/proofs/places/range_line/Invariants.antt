-- SPDX-License-Identifier: Apache-2.0
use Rattle.std.proofs.Common.{◌≡◌, ◌≤◌, false, drop}
use Rattle.asm_places.specs.Places.{first_place}
use Rattle.asm_places.specs.Ranges.{is_past, range_line}
use Rattle.asm_places.proofs.places.range_line.Given as goal

abbrev pub invariant-loop-item : goal.invariant-loop-item
invariant-loop-item l = record { line : range_line l.place (drop l.item-index l.items) ≡ range_line first_place l.items; short : is_past l.place ≡ false; few : l.place.functions ≤ l.item-index }
