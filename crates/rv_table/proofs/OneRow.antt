-- SPDX-License-Identifier: Apache-2.0
-- The table as a map both ways: each mnemonic is at its row, and what is at a row has that row.
use Rattle.std.proofs.Common.{◌≡◌, ℕ, Bool, true, cond, List, [], ◌∷◌, Some, eqb, refl, sym, ap, ◌∙◌, subst, inl, inr}
use Rattle.std.specs.Prelude.{find}
use Rattle.std.proofs.lemmas.Bool.{cases_Bool, and_parts, eqb-true}
use Rattle.rv_table.specs.Instruction.{row_of, op_at, all_ops, same_row, form_number}
use Rattle.rv_table.specs.declared.rows.Form.{Form}
use Rattle.rv_table.specs.declared.rows.Form.TheVariants.{Upper, Jump, Branch, Immediate, Storing, Register, Shift6, Shift5, Atomic, Reserving, Fencing, Whole}
use Rattle.rv_table.specs.declared.rows.Row.{Row}
use Rattle.rv_table.specs.declared.instructions.Op.{Op}
use Rattle.rv_table.specs.declared.instructions.Op.TheVariants.{Lui}

pub find_passes : {X : Type 0} (p : X → Bool) (xs : List X) (x : X) → find p xs ≡ Some x → p x ≡ true
find_passes p [] x e = (cc)
find_passes p (y ∷ ys) x e = elim (cases_Bool (p y)) [
  | inl t ↦ let found : Some y ≡ Some x = rw t at e in let same : y ≡ x = cc in subst (λ z. p z ≡ true) same t
  | inr f ↦ find_passes p ys x (rw f at e)
]

-- the form of a number
form_of_number : ℕ → Form
form_of_number n = cond (eqb n 0) Upper (cond (eqb n 1) Jump (cond (eqb n 2) Branch (cond (eqb n 3) Immediate (cond (eqb n 4) Storing
    (cond (eqb n 5) Register (cond (eqb n 6) Shift6 (cond (eqb n 7) Shift5 (cond (eqb n 8) Atomic (cond (eqb n 9) Reserving (cond (eqb n 10) Fencing Whole))))))))))

form_again : (f : Form) → form_of_number (form_number f) ≡ f
unfolding form_of_number
form_again Upper = refl
form_again _ = refl

same_form : (f g : Form) → form_number f ≡ form_number g → f ≡ g
same_form f g e = sym (form_again f) ∙ (ap form_of_number e ∙ form_again g)

rows_agree : (a b : Row) → same_row a b ≡ true → a ≡ b
rows_agree a b t =
    let opcodes = and_parts _ _ t in
    let forms = and_parts _ _ opcodes.1 in
    let rest = and_parts _ _ forms.1 in
    let o : a.opcode ≡ b.opcode = eqb-true _ _ opcodes.0 in
    let f : a.form ≡ b.form = same_form _ _ (eqb-true _ _ forms.0) in
    let k : a.funct3 ≡ b.funct3 = eqb-true _ _ rest.0 in
    let u : a.above ≡ b.above = eqb-true _ _ rest.1 in
    rw (o, f, k, u) refl

pub row_of-op_at : (r : Row) (op : Op) → op_at r ≡ Some op → row_of op ≡ r
unfolding op_at
row_of-op_at r op e = rows_agree (row_of op) r (find_passes (λ o. same_row (row_of o) r) all_ops op e)

-- computed over the whole table
pub op_at-row_of : (op : Op) → op_at (row_of op) ≡ Some op
unfolding op_at row_of
op_at-row_of Lui = refl
op_at-row_of _ = refl

pub ruleset op_law = (row_of-op_at)
