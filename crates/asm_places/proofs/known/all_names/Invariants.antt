-- SPDX-License-Identifier: Apache-2.0
use Rattle.std.proofs.Common.{◌≤◌, false, drop}
use Rattle.asm_places.specs.Names.{keys_in}
use Rattle.asm_places.proofs.Knowing.{Left}
use Rattle.asm_places.proofs.known.all_names.Given as goal

abbrev pub invariant-loop-item : goal.invariant-loop-item
invariant-loop-item l = record { left : Left l.names (keys_in l.inside l.functions (drop l.item-index l.items)) (keys_in false 0 l.items); few : l.functions ≤ l.item-index }
