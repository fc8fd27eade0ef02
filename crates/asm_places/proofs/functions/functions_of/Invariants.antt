-- SPDX-License-Identifier: Apache-2.0
use Rattle.std.proofs.Common.{◌≡◌, ◌≤◌, ◌++◌, false, drop}
use Rattle.std.specs.Prelude.{None, IfSome}
use Rattle.asm_places.specs.Places.{first_place}
use Rattle.asm_places.specs.Ranges.{is_past, range_line}
use Rattle.asm_places.specs.Functions.{functions_from}
use Rattle.asm_places.proofs.functions.functions_of.Given as goal

abbrev pub invariant-loop-item : goal.invariant-loop-item
invariant-loop-item l = record { range : range_line l.place (drop l.item-index l.items) ≡ None; made : l.functions.items ++ functions_from l.begun l.place (drop l.item-index l.items) ≡ functions_from None first_place l.items; short : is_past l.place ≡ false; few : l.place.functions ≤ l.item-index; low : IfSome l.begun (λ b. b.1 ≤ 67108864) }
