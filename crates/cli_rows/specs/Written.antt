-- SPDX-License-Identifier: Apache-2.0
-- What the assembly of a source to the bytes of its file answers.
use Rattle.std.specs.Prelude.{◌≡◌, ℕ, List, Option, Some, None, Result, Ok, Err}
use Rattle.asm_text.specs.declared.faults.AsmFault.{AsmFault}
use Rattle.asm_text.specs.declared.faults.AsmFault.TheVariants as refusal
use Rattle.asm_text.specs.declared.faults.LineFault.{LineFault}

-- a fault is answered where there is one, else the bytes; memory may be refused
abbrev pub Writes : Result (List ℕ) AsmFault → Option LineFault → List ℕ → Type 0
Writes (Ok bytes) None whole = bytes ≡ whole
Writes (Ok bytes) (Some f) whole = ⊥
Writes (Err refusal.NoMemory) found whole = Unit {0}
Writes (Err (refusal.Line line rule)) found whole = found ≡ Some (record { line = line; rule = rule })
