-- SPDX-License-Identifier: Apache-2.0
use Rattle.std.proofs.Common.{◌≡◌, ◌≤◌, ◌++◌, false, drop}
use Rattle.std.specs.Prelude.{None}
use Rattle.asm_places.specs.Places.{first_place}
use Rattle.asm_places.specs.Ranges.{is_past, range_line}
use Rattle.asm_places.specs.Maps.{has_at}
use Rattle.asm_places.specs.Laying.{laid}
use Rattle.rv_asm.specs.Data.{data_bytes}
use Rattle.rv_asm.proofs.data.data_with.Given as goal

abbrev pub invariant-loop-item : goal.invariant-loop-item
invariant-loop-item l = record { range : range_line l.place (drop l.item-index l.items) ≡ None; laid : l.bytes.items ++ laid (data_bytes (has_at l.targets) l.size) l.place (drop l.item-index l.items) ≡ laid (data_bytes (has_at l.targets) l.size) first_place l.items; short : is_past l.place ≡ false; few : l.place.functions ≤ l.item-index }
