-- SPDX-License-Identifier: Apache-2.0
use Rattle.std.proofs.Common.{◌≡◌, ◌++◌, drop}
use Rattle.elf_write.specs.Tables.{records}
use Rattle.elf_write.proofs.records.put_records.Given as goal

abbrev pub invariant-loop-mark : goal.invariant-loop-mark
invariant-loop-mark l = l.file.items ++ records l.home (drop l.mark-index l.marks) ≡ l.fn.file.items ++ records l.home l.marks
