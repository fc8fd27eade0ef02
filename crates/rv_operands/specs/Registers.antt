-- SPDX-License-Identifier: Apache-2.0
-- What the code asks of an instruction's fields (RISC-V Unprivileged ISA, "Programmers' Model for Base Integer ISA").
use Rattle.std.specs.Prelude.{◌<◌}
use Rattle.rv_table.specs.declared.instructions.Instr.{Instr}

-- the fields that name registers do
pub record NamesRegisters (i : Instr) : Type 0 where
  pub rd : i.rd < 32
  pub rs1 : i.rs1 < 32
  pub rs2 : i.rs2 < 32
