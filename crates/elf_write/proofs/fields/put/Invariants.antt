-- SPDX-License-Identifier: Apache-2.0
use Rattle.std.proofs.Common.{◌≡◌, ◌++◌, drop}
use Rattle.std.specs.Prelude.{map}
use Rattle.elf_write.specs.Fields.{fields as bytes_of, sized}
use Rattle.elf_write.proofs.fields.put.Given as goal

abbrev pub invariant-loop-field : goal.invariant-loop-field
invariant-loop-field l = l.file.items ++ bytes_of (map sized (drop l.field-index l.fields)) ≡ l.fn.file.items ++ bytes_of (map sized l.fields)
