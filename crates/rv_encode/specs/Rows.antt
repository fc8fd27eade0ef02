-- SPDX-License-Identifier: Apache-2.0
-- The width of what stands above the fields of a row (RISC-V Unprivileged ISA, "Base Instruction Formats").
use Rattle.std.specs.Prelude.{ℕ}
use Rattle.rv_table.specs.declared.rows.Form.{Form}
use Rattle.rv_table.specs.declared.rows.Form.TheVariants.{Register, Shift6, Shift5, Atomic, Reserving, Whole}

-- how many bits stand above the fields
abbrev pub above_width : Form → ℕ
above_width Register = 7
above_width Shift6 = 6
above_width Shift5 = 7
above_width Atomic = 5
above_width Reserving = 5
above_width Whole = 12
above_width _ = 0
