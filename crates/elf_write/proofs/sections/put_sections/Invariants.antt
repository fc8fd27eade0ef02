-- SPDX-License-Identifier: Apache-2.0
use Rattle.std.proofs.Common.{◌≡◌, ◌++◌, drop}
use Rattle.elf_write.specs.Written.{section_headers}
use Rattle.elf_write.proofs.sections.put_sections.Given as goal

abbrev pub invariant-loop-align : goal.invariant-loop-align
invariant-loop-align l = l.file.items ++ section_headers (drop l.align-index l.sections) ≡ l.fn.file.items ++ section_headers l.sections
