-- SPDX-License-Identifier: Apache-2.0
-- A source as the code holds it.
use Rattle.asm_text.specs.declared.lines.Source.{Source}
use Rattle.asm_text.specs.Source.{Read, read}

abbrev pub seen : Source → Read
seen s = read s.items s.fault
