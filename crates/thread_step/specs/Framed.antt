-- SPDX-License-Identifier: Apache-2.0
-- Saves and restores in two parts: what the instruction says, and what the frame's state says. (RISC-V psABI, "Integer
-- Calling Convention": ra is x1 and sp is x2.)
use Rattle.std.specs.Prelude.{ℤ, ◌==◌, ◌&&◌, Bool, false, Option, Some, None}
use Rattle.rv_table.specs.declared.instructions.Instr.{Instr}
use Rattle.sh_machines.specs.Copy.{is_ld, is_reg, is_sd, is_slot_at}
use Rattle.sh_types.specs.declared.code.FrameState.{FrameState}

-- `sd ra,k(sp)`
abbrev pub stores_ra : Instr → Bool
stores_ra i = is_sd i.op && (i.rs1 == 2) && (i.rs2 == 1)

-- `ld ra,k(sp)`
abbrev pub loads_ra : Instr → Bool
loads_ra i = is_ld i.op && (i.rs1 == 2) && (i.rd == 1)

-- the return address is in ra
abbrev pub is_in_ra : Option FrameState → Bool
is_in_ra None = false
is_in_ra (Some s) = is_reg s.ra

-- the return address was saved k above sp
abbrev pub is_saved_at : ℤ → Option FrameState → Bool
is_saved_at k None = false
is_saved_at k (Some s) = is_slot_at k s.depth s.ra
