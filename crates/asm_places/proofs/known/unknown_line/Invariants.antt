-- SPDX-License-Identifier: Apache-2.0
use Rattle.std.proofs.Common.{◌≡◌, ◌≤◌, drop}
use Rattle.asm_places.specs.Names.{unknown_line}
use Rattle.asm_places.specs.Sets.{has}
use Rattle.asm_places.proofs.known.unknown_line.Given as goal

abbrev pub invariant-loop-item : goal.invariant-loop-item
invariant-loop-item l = record { line : unknown_line (has l.names) (has l.functions) l.number (drop l.item-index l.items) ≡ unknown_line (has l.names) (has l.functions) 0 l.items; few : l.number ≤ l.item-index }
