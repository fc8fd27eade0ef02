-- SPDX-License-Identifier: Apache-2.0
use Rattle.std.proofs.Common.{◌≡◌, false, drop}
use Rattle.asm_places.specs.Names.{entry_twice_line}
use Rattle.asm_places.proofs.names.entry_twice_line.Given as goal

abbrev pub invariant-loop-item : goal.invariant-loop-item
invariant-loop-item l = entry_twice_line l.seen (drop l.item-index l.items) ≡ entry_twice_line false l.items
