-- SPDX-License-Identifier: Apache-2.0
-- Instructions by what their class looks at.
use Rattle.std.specs.Prelude.{ℕ, ◌==◌, if◌then◌else◌}
use Rattle.rv_table.specs.declared.instructions.Op.{Op}
use Rattle.rv_table.specs.declared.instructions.Op.TheVariants.{Auipc, Jal, Jalr, Beq, Bne, Blt, Bge, Bltu, Bgeu, Ecall, Ebreak}
use Rattle.rv_table.specs.declared.instructions.Instr.{Instr}
use Rattle.sh_types.specs.declared.code.Rule.TheVariants.{LinkRegister}
use Rattle.sh_types.specs.declared.code.Site.{Site}
use Rattle.sh_types.specs.declared.code.Site.TheVariants.{Plain, Literal, Environment, Stop, Bad}
use Rattle.sh_types.specs.Image.{starts_of, number_of}
use Rattle.sh_machines.specs.Class.{Source, target_of, jump_class, call_class, branch_class, is_link, register_class, pair_before}
use Rattle.fn_sites.specs.declared.sorts.Sort.{Sort}
use Rattle.fn_sites.specs.declared.sorts.Sort.TheVariants as sort

-- the sort of a mnemonic
abbrev pub sort_of : Op → Sort
sort_of Auipc = sort.Auipc
sort_of Jal = sort.Jal
sort_of Jalr = sort.Jalr
sort_of Beq = sort.Branch
sort_of Bne = sort.Branch
sort_of Blt = sort.Branch
sort_of Bge = sort.Branch
sort_of Bltu = sort.Branch
sort_of Bgeu = sort.Branch
sort_of Ecall = sort.Ecall
sort_of Ebreak = sort.Ebreak
sort_of _ = sort.Other

-- the class of a JAL
abbrev pub jal_of : Source → ℕ → Instr → Site
jal_of b k i =
    if i.rd == 0 then jump_class b (target_of b k i)
    else if i.rd == 1 then call_class (number_of (starts_of b.functions) (target_of b k i))
    else Bad LinkRegister

-- of a JALR
abbrev pub jalr_of : Source → ℕ → Instr → Site
jalr_of b k i = if is_link i.rd then register_class b k i (pair_before b k) else Bad LinkRegister

-- of an instruction by its sort
abbrev pub sorted_class : Sort → Source → ℕ → Instr → Site
sorted_class sort.Auipc b k i = Literal
sorted_class sort.Jal b k i = jal_of b k i
sorted_class sort.Jalr b k i = jalr_of b k i
sorted_class sort.Branch b k i = branch_class b (target_of b k i)
sorted_class sort.Ecall b k i = Environment
sorted_class sort.Ebreak b k i = Stop
sorted_class sort.Other b k i = Plain
