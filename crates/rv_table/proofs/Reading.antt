-- SPDX-License-Identifier: Apache-2.0
-- What the table reads in a word is the instruction that has the word, and no other has it.
use Rattle.std.proofs.Common.{◌≡◌, ℕ, ◌+◌, ◌*◌, ◌/◌, ◌%◌, ◌^◌, ◌<◌, Bool, true, List, [], ◌∷◌, Option, Some, None, refl, sym, ap, subst, inl, inr, arith}
use Rattle.std.specs.Prelude.{find, IfSome, IfNone, ◌⊎◌}
use Rattle.std.proofs.lemmas.Bool.{and_parts, and_from, eqb-true, eq-eqb, cases_Bool, cases_lt, lt-ltb, le-ltb}
use Rattle.rv_table.specs.Instruction.{row_of, op_at, all_ops, same_row, fields, FieldsFit, Encodes, low_bits, IsSigned}
use Rattle.rv_table.specs.declared.rows.Form.{Form}
use Rattle.rv_table.specs.declared.rows.Form.TheVariants.{Upper, Jump, Branch, Immediate, Storing, Register, Shift6, Shift5, Atomic, Reserving, Fencing, Whole}
use Rattle.rv_table.specs.declared.rows.Row.{Row}
use Rattle.rv_table.specs.Decoding.{decoded, op_in, read, has_row, signed_bits}
use Rattle.rv_table.specs.declared.instructions.Op.{Op}
use Rattle.rv_table.specs.declared.instructions.Instr.{Instr}
use Rattle.rv_table.proofs.OneRow.{op_at-row_of, find_passes}
use Rattle.rv_table.proofs.OneInstr.{Keys, keys_of, one_instr, pow_two, row_fits}

pub cases_option : {A : Type 0} (o : Option A) → (o ≡ None) ⊎ ((x : A) × (o ≡ Some x))
cases_option None = inl refl
cases_option (Some x) = inr (x, refl)

has_keys : (form : Form) (r : Row) (w : ℕ) → r.opcode < 2 ^ 7 → has_row form r w ≡ true → Keys form r w
has_keys Upper r w o t = record { opcode = eqb-true _ _ t; funct3 = refl; top7 = refl; top6 = refl; top5 = refl; rs2 = refl; word = refl }
has_keys Jump r w o t = record { opcode = eqb-true _ _ t; funct3 = refl; top7 = refl; top6 = refl; top5 = refl; rs2 = refl; word = refl }
has_keys Branch r w o t = let p = and_parts _ _ t in
    record { opcode = eqb-true _ _ p.0; funct3 = eqb-true _ _ p.1; top7 = refl; top6 = refl; top5 = refl; rs2 = refl; word = refl }
has_keys Immediate r w o t = let p = and_parts _ _ t in
    record { opcode = eqb-true _ _ p.0; funct3 = eqb-true _ _ p.1; top7 = refl; top6 = refl; top5 = refl; rs2 = refl; word = refl }
has_keys Storing r w o t = let p = and_parts _ _ t in
    record { opcode = eqb-true _ _ p.0; funct3 = eqb-true _ _ p.1; top7 = refl; top6 = refl; top5 = refl; rs2 = refl; word = refl }
has_keys Fencing r w o t = let p = and_parts _ _ t in
    record { opcode = eqb-true _ _ p.0; funct3 = eqb-true _ _ p.1; top7 = refl; top6 = refl; top5 = refl; rs2 = refl; word = refl }
has_keys Register r w o t = let p = and_parts _ _ t in let q = and_parts _ _ p.1 in
    record { opcode = eqb-true _ _ p.0; funct3 = eqb-true _ _ q.0; top7 = eqb-true _ _ q.1; top6 = refl; top5 = refl; rs2 = refl; word = refl }
has_keys Shift6 r w o t = let p = and_parts _ _ t in let q = and_parts _ _ p.1 in
    record { opcode = eqb-true _ _ p.0; funct3 = eqb-true _ _ q.0; top7 = refl; top6 = eqb-true _ _ q.1; top5 = refl; rs2 = refl; word = refl }
has_keys Shift5 r w o t = let p = and_parts _ _ t in let q = and_parts _ _ p.1 in
    record { opcode = eqb-true _ _ p.0; funct3 = eqb-true _ _ q.0; top7 = eqb-true _ _ q.1; top6 = refl; top5 = refl; rs2 = refl; word = refl }
has_keys Atomic r w o t = let p = and_parts _ _ t in let q = and_parts _ _ p.1 in
    record { opcode = eqb-true _ _ p.0; funct3 = eqb-true _ _ q.0; top7 = refl; top6 = refl; top5 = eqb-true _ _ q.1; rs2 = refl; word = refl }
has_keys Reserving r w o t = let p = and_parts _ _ t in let q = and_parts _ _ p.1 in let s = and_parts _ _ q.1 in
    record { opcode = eqb-true _ _ p.0; funct3 = eqb-true _ _ q.0; top7 = refl; top6 = refl; top5 = eqb-true _ _ s.0; rs2 = eqb-true _ _ s.1; word = refl }
has_keys Whole r w o t = let e : w ≡ r.opcode + 2 ^ 20 * r.above = eqb-true _ _ t in
    record { opcode = omega arith; funct3 = refl; top7 = refl; top6 = refl; top5 = refl; rs2 = refl; word = e }

keys_has : (form : Form) (r : Row) (w : ℕ) → Keys form r w → has_row form r w ≡ true
keys_has Upper r w k = eq-eqb _ _ k.opcode
keys_has Jump r w k = eq-eqb _ _ k.opcode
keys_has Branch r w k = and_from _ _ (eq-eqb _ _ k.opcode) (eq-eqb _ _ k.funct3)
keys_has Immediate r w k = and_from _ _ (eq-eqb _ _ k.opcode) (eq-eqb _ _ k.funct3)
keys_has Storing r w k = and_from _ _ (eq-eqb _ _ k.opcode) (eq-eqb _ _ k.funct3)
keys_has Fencing r w k = and_from _ _ (eq-eqb _ _ k.opcode) (eq-eqb _ _ k.funct3)
keys_has Register r w k = and_from _ _ (eq-eqb _ _ k.opcode) (and_from _ _ (eq-eqb _ _ k.funct3) (eq-eqb _ _ k.top7))
keys_has Shift6 r w k = and_from _ _ (eq-eqb _ _ k.opcode) (and_from _ _ (eq-eqb _ _ k.funct3) (eq-eqb _ _ k.top6))
keys_has Shift5 r w k = and_from _ _ (eq-eqb _ _ k.opcode) (and_from _ _ (eq-eqb _ _ k.funct3) (eq-eqb _ _ k.top7))
keys_has Atomic r w k = and_from _ _ (eq-eqb _ _ k.opcode) (and_from _ _ (eq-eqb _ _ k.funct3) (eq-eqb _ _ k.top5))
keys_has Reserving r w k = and_from _ _ (eq-eqb _ _ k.opcode) (and_from _ _ (eq-eqb _ _ k.funct3) (and_from _ _ (eq-eqb _ _ k.top5) (eq-eqb _ _ k.rs2)))
keys_has Whole r w k = eq-eqb _ _ k.word

pub low_again : (k n : ℕ) → n < 2 ^ (k + 1) → low_bits (k + 1) (signed_bits k n) ≡ n
low_again k n h = elim (cases_lt n (2 ^ k)) [
  | inl low ↦ rw (lt-ltb n (2 ^ k) low) refl
  | inr high ↦ rw (le-ltb n (2 ^ k) high) (let p = pow_two k in omega arith)
]

pub signed_fit : (k n : ℕ) → n < 2 ^ (k + 1) → IsSigned k (signed_bits k n)
signed_fit k n h = elim (cases_lt n (2 ^ k)) [
  | inl low ↦ rw (lt-ltb n (2 ^ k) low) low
  | inr high ↦ rw (le-ltb n (2 ^ k) high) (let p = pow_two k in omega arith)
]

record Spells (form : Form) (r : Row) (i : Instr) (w : ℕ) : Type 0 where
  fit : FieldsFit i.rd i.rs1 i.rs2 i.imm form
  same : w ≡ fields r i.rd i.rs1 i.rs2 i.imm form

read_spells : (form : Form) (r : Row) (op : Op) (w : ℕ) → w < 2 ^ 32 → Keys form r w → Spells form r (read op form w) w
read_spells Upper r op w h k =
    let small : w / 2 ^ 12 * 2 ^ 12 < 2 ^ 32 = omega arith in
    let low : low_bits 32 (signed_bits 31 (w / 2 ^ 12 * 2 ^ 12)) ≡ w / 2 ^ 12 * 2 ^ 12 = low_again 31 (w / 2 ^ 12 * 2 ^ 12) small in
    record { fit = (omega arith, refl, refl, signed_fit 31 (w / 2 ^ 12 * 2 ^ 12) small, rw low (omega arith)); same = rw low (omega arith) }
read_spells Jump r op w h k =
    let small : 2 * (w / 2 ^ 21 % 2 ^ 10) + 2 ^ 11 * (w / 2 ^ 20 % 2) + 2 ^ 12 * (w / 2 ^ 12 % 2 ^ 8) + 2 ^ 20 * (w / 2 ^ 31) < 2 ^ 21 = omega arith in
    let low : low_bits 21 (signed_bits 20 (2 * (w / 2 ^ 21 % 2 ^ 10) + 2 ^ 11 * (w / 2 ^ 20 % 2) + 2 ^ 12 * (w / 2 ^ 12 % 2 ^ 8) + 2 ^ 20 * (w / 2 ^ 31))) ≡ 2 * (w / 2 ^ 21 % 2 ^ 10) + 2 ^ 11 * (w / 2 ^ 20 % 2) + 2 ^ 12 * (w / 2 ^ 12 % 2 ^ 8) + 2 ^ 20 * (w / 2 ^ 31) = low_again 20 (2 * (w / 2 ^ 21 % 2 ^ 10) + 2 ^ 11 * (w / 2 ^ 20 % 2) + 2 ^ 12 * (w / 2 ^ 12 % 2 ^ 8) + 2 ^ 20 * (w / 2 ^ 31)) small in
    record { fit = (omega arith, refl, refl, signed_fit 20 (2 * (w / 2 ^ 21 % 2 ^ 10) + 2 ^ 11 * (w / 2 ^ 20 % 2) + 2 ^ 12 * (w / 2 ^ 12 % 2 ^ 8) + 2 ^ 20 * (w / 2 ^ 31)) small, rw low (omega arith)); same = rw low (omega arith) }
read_spells Branch r op w h k =
    let small : 2 * (w / 2 ^ 8 % 2 ^ 4) + 2 ^ 5 * (w / 2 ^ 25 % 2 ^ 6) + 2 ^ 11 * (w / 2 ^ 7 % 2) + 2 ^ 12 * (w / 2 ^ 31) < 2 ^ 13 = omega arith in
    let low : low_bits 13 (signed_bits 12 (2 * (w / 2 ^ 8 % 2 ^ 4) + 2 ^ 5 * (w / 2 ^ 25 % 2 ^ 6) + 2 ^ 11 * (w / 2 ^ 7 % 2) + 2 ^ 12 * (w / 2 ^ 31))) ≡ 2 * (w / 2 ^ 8 % 2 ^ 4) + 2 ^ 5 * (w / 2 ^ 25 % 2 ^ 6) + 2 ^ 11 * (w / 2 ^ 7 % 2) + 2 ^ 12 * (w / 2 ^ 31) = low_again 12 (2 * (w / 2 ^ 8 % 2 ^ 4) + 2 ^ 5 * (w / 2 ^ 25 % 2 ^ 6) + 2 ^ 11 * (w / 2 ^ 7 % 2) + 2 ^ 12 * (w / 2 ^ 31)) small in
    record { fit = (refl, omega arith, omega arith, signed_fit 12 (2 * (w / 2 ^ 8 % 2 ^ 4) + 2 ^ 5 * (w / 2 ^ 25 % 2 ^ 6) + 2 ^ 11 * (w / 2 ^ 7 % 2) + 2 ^ 12 * (w / 2 ^ 31)) small, rw low (omega arith)); same = rw low (omega arith) }
read_spells Immediate r op w h k =
    let small : w / 2 ^ 20 < 2 ^ 12 = omega arith in
    let low : low_bits 12 (signed_bits 11 (w / 2 ^ 20)) ≡ w / 2 ^ 20 = low_again 11 (w / 2 ^ 20) small in
    record { fit = (omega arith, omega arith, refl, signed_fit 11 (w / 2 ^ 20) small); same = rw low (omega arith) }
read_spells Storing r op w h k =
    let small : w / 2 ^ 7 % 2 ^ 5 + 2 ^ 5 * (w / 2 ^ 25) < 2 ^ 12 = omega arith in
    let low : low_bits 12 (signed_bits 11 (w / 2 ^ 7 % 2 ^ 5 + 2 ^ 5 * (w / 2 ^ 25))) ≡ w / 2 ^ 7 % 2 ^ 5 + 2 ^ 5 * (w / 2 ^ 25) = low_again 11 (w / 2 ^ 7 % 2 ^ 5 + 2 ^ 5 * (w / 2 ^ 25)) small in
    record { fit = (refl, omega arith, omega arith, signed_fit 11 (w / 2 ^ 7 % 2 ^ 5 + 2 ^ 5 * (w / 2 ^ 25)) small); same = rw low (omega arith) }
read_spells Register r op w h k = record { fit = (omega arith, omega arith, omega arith, refl); same = omega arith }
read_spells Shift6 r op w h k = record { fit = (omega arith, omega arith, refl, omega arith); same = omega arith }
read_spells Shift5 r op w h k = record { fit = (omega arith, omega arith, refl, omega arith); same = omega arith }
read_spells Atomic r op w h k = record { fit = (omega arith, omega arith, omega arith, omega arith); same = omega arith }
read_spells Reserving r op w h k = record { fit = (omega arith, omega arith, refl, omega arith); same = omega arith }
read_spells Fencing r op w h k = record { fit = (omega arith, omega arith, refl, omega arith); same = omega arith }
read_spells Whole r op w h k = record { fit = (refl, refl, refl, refl); same = k.word }

read_op : (op : Op) (form : Form) (w : ℕ) → (read op form w).op ≡ op
read_op op Upper w = refl
read_op op _ w = refl

read_encodes : (op : Op) (w : ℕ) → w < 2 ^ 32 → Keys (row_of op).form (row_of op) w → Encodes (read op (row_of op).form w) w
read_encodes op w h k =
    let s = read_spells (row_of op).form (row_of op) op w h k in
    record { fits = rw (read_op op (row_of op).form w) s.fit; spelled = rw (read_op op (row_of op).form w) s.same }

-- where one test finds x, another that passes at x finds something
found_too : {X : Type 0} (p q : X → Bool) (xs : List X) (x : X) → find q xs ≡ Some x → p x ≡ true → (y : X) × (find p xs ≡ Some y)
found_too p q [] x e t = absurd (cc)
found_too p q (z ∷ zs) x e t = elim (cases_Bool (p z)) [
  | inl here ↦ (z, rw here refl)
  | inr away ↦ elim (cases_Bool (q z)) [
    | inl now ↦ let found : Some z ≡ Some x = rw now at e in let same : z ≡ x = cc in absurd (cc)
    | inr later ↦ let rest = found_too p q zs x (rw later at e) t in (rest.0, rw away rest.1)
  ]
]

op_in_found : (w : ℕ) (op : Op) → op_in w ≡ Some op → Keys (row_of op).form (row_of op) w
unfolding op_in
op_in_found w op e = has_keys (row_of op).form (row_of op) w (row_fits op) (find_passes (λ o. has_row (row_of o).form (row_of o) w) all_ops op e)

op_in_some : (w : ℕ) (i : Instr) → Encodes i w → (op : Op) × (op_in w ≡ Some op)
unfolding op_in op_at
op_in_some w i e = found_too (λ o. has_row (row_of o).form (row_of o) w) (λ o. same_row (row_of o) (row_of i.op)) all_ops i.op
    (op_at-row_of i.op) (keys_has (row_of i.op).form (row_of i.op) w (keys_of i w e))

-- the table reads the one instruction that has the word
pub decoded_encodes : (w : ℕ) (i : Instr) → w < 2 ^ 32 → Encodes i w → decoded w ≡ Some i
unfolding decoded
decoded_encodes w i h e =
    let (op, found) = op_in_some w i e in
    let reads : Encodes (read op (row_of op).form w) w = read_encodes op w h (op_in_found w op found) in
    rw found (ap Some (one_instr (read op (row_of op).form w) i w reads e))

pub encodes_decoded : (w : ℕ) (i : Instr) → w < 2 ^ 32 → decoded w ≡ Some i → Encodes i w
unfolding decoded
encodes_decoded w i h e = elim (cases_option (op_in w)) [
  | inl none ↦ let clash : None ≡ Some i = rw none at e in absurd (cc)
  | inr (op, found) ↦
      let reads : Encodes (read op (row_of op).form w) w = read_encodes op w h (op_in_found w op found) in
      let some : Some (read op (row_of op).form w) ≡ Some i = rw found at e in
      let same : read op (row_of op).form w ≡ i = cc in
      subst (λ j. Encodes j w) same reads
]

pub decoded_is : (w : ℕ) (o : Option Instr) → w < 2 ^ 32 → IfSome o (λ i. Encodes i w) → IfNone o ((i : Instr) → Encodes i w → ⊥) → o ≡ decoded w
decoded_is w None h found none = elim (cases_option (decoded w)) [
  | inl e ↦ sym e
  | inr (i, e) ↦ absurd (none i (encodes_decoded w i h e))
]
decoded_is w (Some i) h found none = sym (decoded_encodes w i h found)

pub spelled_read : (o : Option ℕ) (i : Instr) → IfSome o (λ w. w < 2 ^ 32) → IfSome o (λ w. Encodes i w) → IfSome o (λ w. decoded w ≡ Some i)
spelled_read None i h e = tt
spelled_read (Some w) i h e = decoded_encodes w i h e
