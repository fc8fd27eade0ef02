-- SPDX-License-Identifier: Apache-2.0
-- How an access that memory refused comes out. (That misaligned accesses and those of return words are refused is this
-- project's own.)
use Rattle.std.specs.Prelude.{ℕ}
use Rattle.sh_types.specs.declared.runs.Trap.{Trap}
use Rattle.sh_types.specs.declared.runs.Trap.TheVariants as trap
use Rattle.sh_machines.specs.Need.{Outcome, Traps, Leaks}
use Rattle.sh_machines.specs.Unmoved as unmoved
use Rattle.sh_machines.specs.Unmoved.{Content}
use Rattle.plain_memory.specs.declared.contents.AccessFault.{AccessFault}
use Rattle.plain_memory.specs.declared.contents.AccessFault.TheVariants.{Misaligned, Fault, Leak}

-- a byte that is not mapped is a trap of this kind; a return word is a leak
abbrev pub refused_as : AccessFault → Trap → (address : ℕ) → Outcome unmoved.Thread Content
refused_as Misaligned kind address = Traps trap.Misaligned address
refused_as Fault kind address = Traps kind address
refused_as Leak kind address = Leaks
