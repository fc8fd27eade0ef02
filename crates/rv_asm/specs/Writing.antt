-- SPDX-License-Identifier: Apache-2.0
-- What writing the words of statements does.
use Rattle.std.specs.Prelude.{◌≡◌, ℕ, ℤ, Result, Ok, Err, List, ◌++◌, map}
use Rattle.rv_table.specs.declared.instructions.Instr.{Instr}
use Rattle.rv_table.specs.Instruction.{word_of}
use Rattle.asm_text.specs.declared.statements.Statement.{Statement}
use Rattle.rv_asm.specs.declared.writing.Unwritten.{Unwritten}
use Rattle.rv_asm.specs.declared.writing.Unwritten.TheVariants.{NoMemory, Range}
use Rattle.rv_asm.specs.Words.{AreInstrs, instrs_of, words_of}

-- The words of these instructions were added, which are all in their ranges. Or memory was refused, or one is out of
-- its range.
abbrev pub Writes : {U : Type 0} → List ℕ → List ℕ → Result U Unwritten → List Instr → Type 0
Writes old new (Ok _) instrs = (new ≡ old ++ map word_of instrs) × AreInstrs instrs
Writes old new (Err NoMemory) instrs = Unit {0}
Writes old new (Err Range) instrs = AreInstrs instrs → ⊥

-- the same for the words of a statement
abbrev pub WritesWords : {U : Type 0} → List ℕ → List ℕ → Result U Unwritten → ℤ → Statement → Type 0
WritesWords old new (Ok _) distance s = (new ≡ old ++ words_of distance s) × AreInstrs (instrs_of distance s)
WritesWords old new (Err NoMemory) distance s = Unit {0}
WritesWords old new (Err Range) distance s = AreInstrs (instrs_of distance s) → ⊥
