-- SPDX-License-Identifier: Apache-2.0
use Rattle.std.proofs.Common.{◌≤◌, [], false, drop}
use Rattle.asm_places.specs.Names.{name_twice_line}
use Rattle.asm_places.proofs.Naming.{Held}
use Rattle.asm_places.proofs.names.name_twice_line.Given as goal

abbrev pub invariant-loop-item : goal.invariant-loop-item
invariant-loop-item l = record { held : Held l.names l.inside l.functions (drop l.item-index l.items) (name_twice_line false 0 [] l.items); few : l.functions ≤ l.item-index }
