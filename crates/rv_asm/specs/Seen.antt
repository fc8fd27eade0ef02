-- SPDX-License-Identifier: Apache-2.0
-- The instructions of a statement as the code holds them.
use Rattle.std.specs.Prelude.{List, [], ◌∷◌}
use Rattle.rv_table.specs.declared.instructions.Instr.{Instr}
use Rattle.rv_asm.specs.declared.words.Sequence.{Sequence}
use Rattle.rv_asm.specs.declared.words.Sequence.TheVariants as instrs

abbrev pub instrs_seen : Sequence → List Instr
instrs_seen instrs.None = []
instrs_seen (instrs.One first) = first ∷ []
instrs_seen (instrs.Two first second) = first ∷ second ∷ []
