-- SPDX-License-Identifier: Apache-2.0
-- The sort of a mnemonic says which class its words have.
use Rattle.std.proofs.Common.{◌≡◌, ℕ, Bool, true, false, refl, ◌∙◌}
use Rattle.std.specs.Prelude.{◌==◌, ◌&&◌, ◌||◌, Some, if◌then◌else◌}
use Rattle.rv_table.specs.declared.instructions.Instr.{Instr}
use Rattle.rv_table.specs.declared.instructions.Op.{Op}
use Rattle.rv_table.specs.declared.instructions.Op.TheVariants.{Jal}
use Rattle.rv_table.specs.Instruction.{row_of}
use Rattle.sh_types.specs.declared.code.Site.{Site}
use Rattle.sh_types.specs.declared.code.Site.TheVariants.{Plain, Literal, Environment, Stop}
use Rattle.sh_machines.specs.Class.{Source, instr_class, branch_class, target_of}
use Rattle.sh_machines.specs.Kind.{opcode_of}
use Rattle.fn_sites.specs.declared.sorts.Sort.{Sort}
use Rattle.fn_sites.specs.declared.sorts.Sort.TheVariants as sort
use Rattle.fn_sites.specs.Sorts.{sort_of, jal_of, jalr_of, sorted_class}

abbrev pub is_auipc_sort : Sort → Bool
is_auipc_sort sort.Auipc = true
is_auipc_sort _ = false

pub is_auipc_by : (op : Op) → (opcode_of op == 0x17) ≡ is_auipc_sort (sort_of op)
unfolding row_of
is_auipc_by Jal = refl
is_auipc_by _ = refl

-- the opcodes in the order of the definition, with the classes that are not the same for all words of a sort
abbrev by_opcode : Op → (jal branch jalr : Site) → Site
by_opcode op jal branch jalr =
    if (opcode_of op == 0x73) && ((row_of op).above == 1) then Stop
    else if (opcode_of op == 0x73) && ((row_of op).above == 0) then Environment
    else if opcode_of op == 0x17 then Literal
    else if opcode_of op == 0x6f then jal
    else if opcode_of op == 0x63 then branch
    else if opcode_of op == 0x67 then jalr
    else Plain

abbrev by_sort : Sort → (jal branch jalr : Site) → Site
by_sort sort.Auipc jal branch jalr = Literal
by_sort sort.Jal jal branch jalr = jal
by_sort sort.Jalr jal branch jalr = jalr
by_sort sort.Branch jal branch jalr = branch
by_sort sort.Ecall jal branch jalr = Environment
by_sort sort.Ebreak jal branch jalr = Stop
by_sort sort.Other jal branch jalr = Plain

same_sort : (op : Op) (jal branch jalr : Site) → by_opcode op jal branch jalr ≡ by_sort (sort_of op) jal branch jalr
unfolding row_of
same_sort Jal jal branch jalr = refl
same_sort _ jal branch jalr = refl

same_class : (s : Sort) (b : Source) (k : ℕ) (i : Instr) → by_sort s (jal_of b k i) (branch_class b (target_of b k i)) (jalr_of b k i) ≡ sorted_class s b k i
same_class sort.Auipc b k i = refl
same_class sort.Jal b k i = refl
same_class sort.Jalr b k i = refl
same_class sort.Branch b k i = refl
same_class sort.Ecall b k i = refl
same_class sort.Ebreak b k i = refl
same_class sort.Other b k i = refl

pub class_sorted : (b : Source) (k : ℕ) (i : Instr) → instr_class b k (Some i) ≡ sorted_class (sort_of i.op) b k i
class_sorted b k i = same_sort i.op (jal_of b k i) (branch_class b (target_of b k i)) (jalr_of b k i) ∙ same_class (sort_of i.op) b k i

-- ---- jumps

-- whether an instruction of the sort jumps or branches; `link` says that its rd is x0
abbrev pub goes : Sort → (link : Bool) → Bool
goes sort.Jal link = link
goes sort.Branch link = true
goes _ link = false

pub goes_by : (op : Op) (link : Bool) → goes (sort_of op) link ≡ (((opcode_of op == 0x6f) && link) || (opcode_of op == 0x63))
unfolding row_of
goes_by Jal true = refl
goes_by Jal false = refl
goes_by _ link = refl
