-- SPDX-License-Identifier: Apache-2.0
-- The one number that a word's verdict goes by: that of the register which an `add` adds to sp. This project's own.
use Rattle.std.specs.Prelude.{ℕ, Bool, ◌==◌, Option, Some, None, Result, List, if◌then◌else◌}
use Rattle.sh_types.specs.declared.code.FrameState.{FrameState}
use Rattle.sh_types.specs.declared.code.Rule.{Rule}
use Rattle.sh_types.specs.declared.code.Site.{Site}
use Rattle.rv_table.specs.declared.instructions.Instr.{Instr}
use Rattle.sh_machines.specs.Constants.{known_in}
use Rattle.sh_machines.specs.Grammar.{verdict_of}

-- the number in the operand that is not sp, where it is known
abbrev pub operand_of : Option Instr → (ℕ → Option ℕ) → Option ℕ
operand_of None known = None
operand_of (Some i) known = if i.rs1 == 2 then known i.rs2 else known i.rs1

-- that of a word, of the registers before it
abbrev pub operand_in : Option Instr → List (Option ℕ) → Option ℕ
operand_in i known = operand_of i (known_in known)

-- the verdict, where each register is taken to have that number
abbrev pub verdict_by : (entry labelled : Bool) → Option ℕ → FrameState → Site → Option Instr → Result FrameState Rule
verdict_by entry labelled operand s x i = verdict_of entry labelled (λ r. operand) s x i
