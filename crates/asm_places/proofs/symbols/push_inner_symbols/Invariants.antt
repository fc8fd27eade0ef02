-- SPDX-License-Identifier: Apache-2.0
use Rattle.std.proofs.Common.{◌≡◌, ◌≤◌, ◌++◌, false, drop}
use Rattle.std.specs.Prelude.{None}
use Rattle.asm_places.specs.Places.{first_place}
use Rattle.asm_places.specs.Ranges.{is_past, range_line}
use Rattle.asm_places.specs.Symbols.{counted, inner_symbol, las_in}
use Rattle.asm_places.proofs.symbols.push_inner_symbols.Given as goal

abbrev pub invariant-loop-item : goal.invariant-loop-item
invariant-loop-item l = record { range : range_line l.place (drop l.item-index l.items) ≡ None; made : l.symbols.items ++ counted inner_symbol las_in l.las l.place (drop l.item-index l.items) ≡ l.fn.symbols.items ++ counted inner_symbol las_in 0 first_place l.items; short : is_past l.place ≡ false; few : l.place.functions ≤ l.item-index; low : l.las ≤ l.item-index }
