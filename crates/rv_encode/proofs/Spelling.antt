-- SPDX-License-Identifier: Apache-2.0
-- What the row of a mnemonic says of its instructions.
use Rattle.std.proofs.Common.{◌≡◌, ℕ, Option, Some, None}
use Rattle.std.specs.Prelude.{IfSome}
use Rattle.rv_table.specs.Instruction.{row_of, Encodes, IsInstr, FieldsFit, fields, word_of}
use Rattle.rv_table.specs.declared.rows.Form.{Form}
use Rattle.rv_table.specs.declared.rows.Row.{Row}
use Rattle.rv_table.specs.MachineForm.{EncodesX, x_word_of}
use Rattle.rv_table.specs.declared.instructions.XInstr.{XInstr}
use Rattle.rv_table.specs.declared.instructions.Instr.{Instr}

module _ (i : Instr) (r : Row) (f : Form) (e : r ≡ row_of i.op) (is : r.form ≡ f) where
  pub encodes_by : (w : ℕ) → FieldsFit i.rd i.rs1 i.rs2 i.imm f → w ≡ fields r i.rd i.rs1 i.rs2 i.imm f → Encodes i w
  encodes_by w fit word = record { fits = rw (← e, is) fit; spelled = rw (← e, is) word }

  pub fits_by : IsInstr i → FieldsFit i.rd i.rs1 i.rs2 i.imm f
  fits_by h = rw (← is, e) h

pub spelled_is : (o : Option ℕ) (i : Instr) → IfSome o (λ w. Encodes i w) → IfSome o (λ w. w ≡ word_of i)
spelled_is None i e = tt
spelled_is (Some w) i e = e.spelled

pub spelled_x_is : (o : Option ℕ) (x : XInstr) → IfSome o (λ w. EncodesX x w) → IfSome o (λ w. w ≡ x_word_of x)
spelled_x_is None x e = tt
spelled_x_is (Some w) x e = e.spelled
