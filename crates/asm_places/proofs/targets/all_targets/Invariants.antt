-- SPDX-License-Identifier: Apache-2.0
use Rattle.std.proofs.Common.{◌≡◌, ◌≤◌, false, drop}
use Rattle.std.specs.Prelude.{None}
use Rattle.asm_places.specs.Places.{first_place}
use Rattle.asm_places.specs.Ranges.{is_past, range_line}
use Rattle.asm_places.specs.Targets.{targets_in}
use Rattle.asm_places.proofs.Targeting.{Standing}
use Rattle.asm_places.proofs.targets.all_targets.Given as goal

abbrev pub invariant-loop-item : goal.invariant-loop-item
invariant-loop-item l = record { range : range_line l.place (drop l.item-index l.items) ≡ None; left : Standing l.targets (targets_in l.place (drop l.item-index l.items)) (targets_in first_place l.items); short : is_past l.place ≡ false; few : l.place.functions ≤ l.item-index }
