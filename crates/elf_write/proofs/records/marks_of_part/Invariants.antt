-- SPDX-License-Identifier: Apache-2.0
use Rattle.std.proofs.Common.{◌≡◌, ◌++◌, drop}
use Rattle.std.specs.Prelude.{filter}
use Rattle.elf_write.specs.Parts.{is_in}
use Rattle.elf_write.proofs.records.marks_of_part.Given as goal

abbrev pub invariant-loop-mark : goal.invariant-loop-mark
invariant-loop-mark l = l.found.items ++ filter (is_in l.in_text) (drop l.mark-index l.marks) ≡ filter (is_in l.in_text) l.marks
