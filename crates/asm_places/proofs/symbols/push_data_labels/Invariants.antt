-- SPDX-License-Identifier: Apache-2.0
use Rattle.std.proofs.Common.{◌≡◌, ◌≤◌, ◌++◌, false, drop}
use Rattle.std.specs.Prelude.{None}
use Rattle.asm_places.specs.Places.{first_place}
use Rattle.asm_places.specs.Ranges.{is_past, range_line}
use Rattle.asm_places.specs.Laying.{laid}
use Rattle.asm_places.specs.Symbols.{data_label}
use Rattle.asm_places.proofs.symbols.push_data_labels.Given as goal

abbrev pub invariant-loop-item : goal.invariant-loop-item
invariant-loop-item l = record { range : range_line l.place (drop l.item-index l.items) ≡ None; made : l.symbols.items ++ laid (data_label l.size) l.place (drop l.item-index l.items) ≡ l.fn.symbols.items ++ laid (data_label l.size) first_place l.items; short : is_past l.place ≡ false; few : l.place.functions ≤ l.item-index }
