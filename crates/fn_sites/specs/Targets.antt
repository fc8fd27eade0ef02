-- SPDX-License-Identifier: Apache-2.0
-- Where the jumps and the branches of a function lead to.
use Rattle.std.specs.Prelude.{◌==◌, ◌+◌, ◌++◌, ℕ, Option, Some, None, List, [], ◌∷◌, if◌then◌else◌}
use Rattle.std.specs.Option.{option_to_list}
use Rattle.rv_table.specs.declared.instructions.Instr.{Instr}
use Rattle.rv_table.specs.Decoding.{decoded}
use Rattle.rv_table.specs.Operands.{plus_imm}
use Rattle.fn_sites.specs.declared.sorts.Sort.{Sort}
use Rattle.fn_sites.specs.declared.sorts.Sort.TheVariants as sort
use Rattle.fn_sites.specs.Sorts.{sort_of}

-- where a JAL with rd 0 or a branch at an address leads to
abbrev pub sorted_target : Sort → ℕ → Instr → Option ℕ
sorted_target sort.Jal a i = if i.rd == 0 then Some (plus_imm a i.imm) else None
sorted_target sort.Branch a i = Some (plus_imm a i.imm)
sorted_target _ a i = None

-- the same of a word
abbrev pub target_of : ℕ → Option Instr → Option ℕ
target_of a None = None
target_of a (Some i) = sorted_target (sort_of i.op) a i

-- where the words from an address on lead to
abbrev pub targets_from : ℕ → List ℕ → List ℕ
targets_from a [] = []
targets_from a (w ∷ ws) = option_to_list (target_of a (decoded w)) ++ targets_from (a + 4) ws
