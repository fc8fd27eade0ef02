-- SPDX-License-Identifier: Apache-2.0
use Rattle.std.proofs.Common.{◌≡◌, ◌++◌, drop}
use Rattle.ptr_table.specs.Taken.{rows_by}
use Rattle.ptr_table.proofs.tables.rows_in.Given as goal

abbrev pub invariant-loop-function : goal.invariant-loop-function
invariant-loop-function l = record { read : l.found.items ++ rows_by l.number (drop l.function-index l.functions) l.taken ≡ rows_by 0 l.functions l.taken; number : l.number ≡ l.function-index }
