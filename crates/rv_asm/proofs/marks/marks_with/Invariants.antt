-- SPDX-License-Identifier: Apache-2.0
use Rattle.std.proofs.Common.{◌≡◌, ◌≤◌, ◌++◌, false, drop}
use Rattle.std.specs.Prelude.{None}
use Rattle.asm_places.specs.Places.{first_place}
use Rattle.asm_places.specs.Ranges.{is_past, range_line}
use Rattle.asm_places.specs.Numbers.{number_of}
use Rattle.asm_places.specs.Symbols.{counted}
use Rattle.rv_asm.specs.Marks.{marks_at, inner_in}
use Rattle.rv_asm.proofs.marks.marks_with.Given as goal

abbrev pub invariant-loop-item : goal.invariant-loop-item
invariant-loop-item l = record { range : range_line l.place (drop l.item-index l.items) ≡ None; made : l.marks.items ++ counted (marks_at (number_of l.numbers) l.first) inner_in l.inner l.place (drop l.item-index l.items) ≡ counted (marks_at (number_of l.numbers) l.first) inner_in 0 first_place l.items; short : is_past l.place ≡ false; few : l.place.functions ≤ l.item-index; low : l.inner ≤ l.item-index }
