-- SPDX-License-Identifier: Apache-2.0
-- A word has at most one instruction: which row it has, and what its fields are, by its bits.
use Rattle.std.proofs.Common.{◌≡◌, ℕ, ℤ, pos, negsuc, ◌+◌, ◌-◌, ◌*◌, ◌/◌, ◌%◌, ◌^◌, ◌<◌, ◌≤◌, cond, eqb, ltb, Option, Some, None, refl, sym, ap, ◌∙◌, arith, lit<, add-one}
use Rattle.std.proofs.Math.Nat.{pow-suc}
use Rattle.std.specs.Prelude.{◌||◌, IfNone, IfSome}
use Rattle.std.proofs.lemmas.Bool.{le-ltb, lt-ltb}
use Rattle.rv_table.specs.Instruction.{row, row_of, op_at, fields, FieldsFit, Encodes, low_bits, IsSigned, IsUnsigned}
use Rattle.rv_table.specs.declared.rows.Form.{Form}
use Rattle.rv_table.specs.declared.rows.Form.TheVariants.{Upper, Jump, Branch, Immediate, Storing, Register, Shift6, Shift5, Atomic, Reserving, Fencing, Whole}
use Rattle.rv_table.specs.declared.rows.Row.{Row}
use Rattle.rv_table.specs.declared.instructions.Op.{Op}
use Rattle.rv_table.specs.declared.instructions.Op.TheVariants.{Lui}
use Rattle.rv_table.specs.declared.instructions.Instr.{Instr}
use Rattle.rv_table.proofs.OneRow.{op_at-row_of}

-- the row that a word has if it has one, by its opcode, funct3, top 7, 6 and 5 bits, the bits of rs2, and the word
unfoldable pub row_by : (o f t7 t6 t5 s w : ℕ) → Option Row
row_by o f t7 t6 t5 s w =
    cond (eqb o 0x37) (Some (row Upper 0x37 0 0))
    (cond (eqb o 0x17) (Some (row Upper 0x17 0 0))
    (cond (eqb o 0x6f) (Some (row Jump 0x6f 0 0))
    (cond (eqb o 0x67) (Some (row Immediate 0x67 f 0))
    (cond (eqb o 0x63) (Some (row Branch 0x63 f 0))
    (cond (eqb o 0x03) (Some (row Immediate 0x03 f 0))
    (cond (eqb o 0x23) (Some (row Storing 0x23 f 0))
    (cond (eqb o 0x13) (cond (eqb f 1 || eqb f 5) (Some (row Shift6 0x13 f t6)) (Some (row Immediate 0x13 f 0)))
    (cond (eqb o 0x33) (Some (row Register 0x33 f t7))
    (cond (eqb o 0x1b) (cond (eqb f 0) (Some (row Immediate 0x1b 0 0)) (Some (row Shift5 0x1b f t7)))
    (cond (eqb o 0x3b) (Some (row Register 0x3b f t7))
    (cond (eqb o 0x0f) (Some (row Fencing 0x0f f 0))
    (cond (eqb o 0x73) (cond (eqb w 0x73) (Some (row Whole 0x73 0 0)) (cond (eqb w 0x100073) (Some (row Whole 0x73 0 1)) None))
    (cond (eqb o 0x2f) (cond (eqb t5 2) (cond (eqb s 0) (Some (row Reserving 0x2f f 2)) None) (Some (row Atomic 0x2f f t5)))
    None)))))))))))))

unfoldable pub row_in : ℕ → Option Row
row_in w = row_by (w % 2 ^ 7) (w / 2 ^ 12 % 2 ^ 3) (w / 2 ^ 25) (w / 2 ^ 26) (w / 2 ^ 27) (w / 2 ^ 20 % 2 ^ 5) w

-- what a form fixes of those numbers: the row's number, or any other n
abbrev pub with_funct3 : Form → Row → ℕ → ℕ
with_funct3 Upper r n = n
with_funct3 Jump r n = n
with_funct3 Whole r n = n
with_funct3 _ r n = r.funct3

abbrev pub with_7 : Form → Row → ℕ → ℕ
with_7 Register r n = r.above
with_7 Shift5 r n = r.above
with_7 _ r n = n

abbrev pub with_6 : Form → Row → ℕ → ℕ
with_6 Shift6 r n = r.above
with_6 _ r n = n

abbrev pub with_5 : Form → Row → ℕ → ℕ
with_5 Atomic r n = r.above
with_5 Reserving r n = r.above
with_5 _ r n = n

abbrev pub with_rs2 : Form → ℕ → ℕ
with_rs2 Reserving n = 0
with_rs2 _ n = n

abbrev pub with_word : Form → Row → ℕ → ℕ
with_word Whole r n = r.opcode + 2 ^ 20 * r.above
with_word _ r n = n

-- computed over the whole table
at_row : (op : Op) (f t7 t6 t5 s w : ℕ) → let r = row_of op in
    row_by r.opcode (with_funct3 r.form r f) (with_7 r.form r t7) (with_6 r.form r t6) (with_5 r.form r t5) (with_rs2 r.form s) (with_word r.form r w) ≡ Some r
unfolding row_by row_of
at_row Lui f t7 t6 t5 s w = refl
at_row _ f t7 t6 t5 s w = refl

pub row_fits : (op : Op) → (row_of op).opcode < 2 ^ 7
unfolding row_of
row_fits Lui = lit< tt
row_fits _ = lit< tt

funct3_fits : (op : Op) → (row_of op).funct3 < 2 ^ 3
unfolding row_of
funct3_fits Lui = lit< tt
funct3_fits _ = lit< tt

-- a number that fits k + 1 bits as a signed one, from its low bits
signed_of : ℕ → ℕ → ℤ
signed_of k n = cond (ltb n (2 ^ k)) (pos n) (negsuc (2 ^ k + 2 ^ k - (n + 1)))

pub pow_two : (k : ℕ) → 2 ^ (k + 1) ≡ 2 ^ k + 2 ^ k
pow_two k = rw (add-one, pow-suc) (omega arith)

signed_again : (k : ℕ) (z : ℤ) → IsSigned k z → signed_of k (low_bits (k + 1) z) ≡ z
unfolding signed_of
signed_again k (pos n) h = rw (lt-ltb n (2 ^ k) h) refl
signed_again k (negsuc n) h =
    let high : 2 ^ k ≤ 2 ^ (k + 1) - (n + 1) = rw pow_two (omega arith) in
    let back : 2 ^ k + 2 ^ k - (2 ^ (k + 1) - (n + 1) + 1) ≡ n = rw pow_two (omega arith) in
    rw (le-ltb (2 ^ (k + 1) - (n + 1)) (2 ^ k) high) (ap negsuc back)

pub low_bits_fit : (k : ℕ) (z : ℤ) → IsSigned k z → low_bits (k + 1) z < 2 ^ (k + 1)
low_bits_fit k (pos n) h = rw pow_two (omega arith)
low_bits_fit k (negsuc n) h = rw pow_two (omega arith)

unsigned_again : (k : ℕ) (z : ℤ) → IsUnsigned k z → pos (low_bits k z) ≡ z
unsigned_again k (pos n) h = refl
unsigned_again k (negsuc n) h = absurd h

unsigned_fit : (k : ℕ) (z : ℤ) → IsUnsigned k z → low_bits k z < 2 ^ k
unsigned_fit k (pos n) h = h
unsigned_fit k (negsuc n) h = absurd h

-- the numbers of a word that a form makes of a row
pub record Keys (form : Form) (r : Row) (w : ℕ) : Type 0 where
  pub opcode : w % 2 ^ 7 ≡ r.opcode
  pub funct3 : w / 2 ^ 12 % 2 ^ 3 ≡ with_funct3 form r (w / 2 ^ 12 % 2 ^ 3)
  pub top7 : w / 2 ^ 25 ≡ with_7 form r (w / 2 ^ 25)
  pub top6 : w / 2 ^ 26 ≡ with_6 form r (w / 2 ^ 26)
  pub top5 : w / 2 ^ 27 ≡ with_5 form r (w / 2 ^ 27)
  pub rs2 : w / 2 ^ 20 % 2 ^ 5 ≡ with_rs2 form (w / 2 ^ 20 % 2 ^ 5)
  pub word : w ≡ with_word form r w

module _ (r : Row) (o : r.opcode < 2 ^ 7) (k : r.funct3 < 2 ^ 3) (rd rs1 rs2 : ℕ) (imm : ℤ) (w : ℕ) where
  keys : (form : Form) → FieldsFit rd rs1 rs2 imm form → w ≡ fields r rd rs1 rs2 imm form → Keys form r w
  keys Upper fit e = record { opcode = omega arith; funct3 = refl; top7 = refl; top6 = refl; top5 = refl; rs2 = refl; word = refl }
  keys Jump fit e = record { opcode = omega arith; funct3 = refl; top7 = refl; top6 = refl; top5 = refl; rs2 = refl; word = refl }
  keys Branch fit e = record { opcode = omega arith; funct3 = omega arith; top7 = refl; top6 = refl; top5 = refl; rs2 = refl; word = refl }
  keys Immediate fit e = record { opcode = omega arith; funct3 = omega arith; top7 = refl; top6 = refl; top5 = refl; rs2 = refl; word = refl }
  keys Storing fit e = record { opcode = omega arith; funct3 = omega arith; top7 = refl; top6 = refl; top5 = refl; rs2 = refl; word = refl }
  keys Register fit e = record { opcode = omega arith; funct3 = omega arith; top7 = omega arith; top6 = refl; top5 = refl; rs2 = refl; word = refl }
  keys Shift6 fit e = let low = unsigned_fit 6 imm fit.3 in
      record { opcode = omega arith; funct3 = omega arith; top7 = refl; top6 = omega arith; top5 = refl; rs2 = refl; word = refl }
  keys Shift5 fit e = let low = unsigned_fit 5 imm fit.3 in
      record { opcode = omega arith; funct3 = omega arith; top7 = omega arith; top6 = refl; top5 = refl; rs2 = refl; word = refl }
  keys Atomic fit e = let low = unsigned_fit 2 imm fit.3 in
      record { opcode = omega arith; funct3 = omega arith; top7 = refl; top6 = refl; top5 = omega arith; rs2 = refl; word = refl }
  keys Reserving fit e = let low = unsigned_fit 2 imm fit.3 in
      record { opcode = omega arith; funct3 = omega arith; top7 = refl; top6 = refl; top5 = omega arith; rs2 = omega arith; word = refl }
  keys Fencing fit e = record { opcode = omega arith; funct3 = omega arith; top7 = refl; top6 = refl; top5 = refl; rs2 = refl; word = refl }
  keys Whole fit e = record { opcode = omega arith; funct3 = refl; top7 = refl; top6 = refl; top5 = refl; rs2 = refl; word = e }

pub keys_of : (i : Instr) (w : ℕ) → Encodes i w → Keys (row_of i.op).form (row_of i.op) w
keys_of i w h = keys (row_of i.op) (row_fits i.op) (funct3_fits i.op) i.rd i.rs1 i.rs2 i.imm w (row_of i.op).form h.fits h.spelled

-- a word that an instruction has is of that instruction's row
pub row_of_word : (i : Instr) (w : ℕ) → Encodes i w → row_in w ≡ Some (row_of i.op)
unfolding row_in
row_of_word i w h =
    let r = row_of i.op in
    let k : Keys (row_of i.op).form (row_of i.op) w = keys (row_of i.op) (row_fits i.op) (funct3_fits i.op) i.rd i.rs1 i.rs2 i.imm w (row_of i.op).form h.fits h.spelled in
    rw (k.opcode, k.funct3, k.top7, k.top6, k.top5, k.rs2, k.word) (at_row i.op _ _ _ _ _ _)

pub same_signed : (k : ℕ) (y z : ℤ) → IsSigned k y → IsSigned k z → low_bits (k + 1) y ≡ low_bits (k + 1) z → y ≡ z
same_signed k y z fy fz e = sym (signed_again k y fy) ∙ (ap (signed_of k) e ∙ signed_again k z fz)

same_unsigned : (k : ℕ) (y z : ℤ) → IsUnsigned k y → IsUnsigned k z → low_bits k y ≡ low_bits k z → y ≡ z
same_unsigned k y z fy fz e = sym (unsigned_again k y fy) ∙ (ap pos e ∙ unsigned_again k z fz)

record Same (rd rs1 rs2 : ℕ) (imm : ℤ) (d a b : ℕ) (z : ℤ) : Type 0 where
  rd_same : rd ≡ d
  rs1_same : rs1 ≡ a
  rs2_same : rs2 ≡ b
  imm_same : imm ≡ z

module _ (r : Row) (o : r.opcode < 2 ^ 7) (k : r.funct3 < 2 ^ 3) (rd rs1 rs2 : ℕ) (imm : ℤ) (d a b : ℕ) (z : ℤ) where
  same_fields : (form : Form) → FieldsFit rd rs1 rs2 imm form → FieldsFit d a b z form → fields r rd rs1 rs2 imm form ≡ fields r d a b z form → Same rd rs1 rs2 imm d a b z
  same_fields Upper f g e =
      let m = low_bits_fit 31 imm f.3 in let n = low_bits_fit 31 z g.3 in
      record { rd_same = omega arith; rs1_same = omega arith; rs2_same = omega arith; imm_same = same_signed 31 imm z f.3 g.3 (omega arith) }
  same_fields Jump f g e =
      let m = low_bits_fit 20 imm f.3 in let n = low_bits_fit 20 z g.3 in
      record { rd_same = omega arith; rs1_same = omega arith; rs2_same = omega arith; imm_same = same_signed 20 imm z f.3 g.3 (omega arith) }
  same_fields Branch f g e =
      let m = low_bits_fit 12 imm f.3 in let n = low_bits_fit 12 z g.3 in
      record { rd_same = omega arith; rs1_same = omega arith; rs2_same = omega arith; imm_same = same_signed 12 imm z f.3 g.3 (omega arith) }
  same_fields Immediate f g e =
      let m = low_bits_fit 11 imm f.3 in let n = low_bits_fit 11 z g.3 in
      record { rd_same = omega arith; rs1_same = omega arith; rs2_same = omega arith; imm_same = same_signed 11 imm z f.3 g.3 (omega arith) }
  same_fields Storing f g e =
      let m = low_bits_fit 11 imm f.3 in let n = low_bits_fit 11 z g.3 in
      record { rd_same = omega arith; rs1_same = omega arith; rs2_same = omega arith; imm_same = same_signed 11 imm z f.3 g.3 (omega arith) }
  same_fields Shift6 f g e =
      let m = unsigned_fit 6 imm f.3 in let n = unsigned_fit 6 z g.3 in
      record { rd_same = omega arith; rs1_same = omega arith; rs2_same = omega arith; imm_same = same_unsigned 6 imm z f.3 g.3 (omega arith) }
  same_fields Shift5 f g e =
      let m = unsigned_fit 5 imm f.3 in let n = unsigned_fit 5 z g.3 in
      record { rd_same = omega arith; rs1_same = omega arith; rs2_same = omega arith; imm_same = same_unsigned 5 imm z f.3 g.3 (omega arith) }
  same_fields Atomic f g e =
      let m = unsigned_fit 2 imm f.3 in let n = unsigned_fit 2 z g.3 in
      record { rd_same = omega arith; rs1_same = omega arith; rs2_same = omega arith; imm_same = same_unsigned 2 imm z f.3 g.3 (omega arith) }
  same_fields Reserving f g e =
      let m = unsigned_fit 2 imm f.3 in let n = unsigned_fit 2 z g.3 in
      record { rd_same = omega arith; rs1_same = omega arith; rs2_same = omega arith; imm_same = same_unsigned 2 imm z f.3 g.3 (omega arith) }
  same_fields Fencing f g e =
      let m = unsigned_fit 12 imm f.3 in let n = unsigned_fit 12 z g.3 in
      record { rd_same = omega arith; rs1_same = omega arith; rs2_same = omega arith; imm_same = same_unsigned 12 imm z f.3 g.3 (omega arith) }
  same_fields Register f g e = record { rd_same = omega arith; rs1_same = omega arith; rs2_same = omega arith; imm_same = f.3 ∙ sym g.3 }
  same_fields Whole f g e = record { rd_same = omega arith; rs1_same = omega arith; rs2_same = omega arith; imm_same = f.3 ∙ sym g.3 }

pub same_op : (a b : Op) → Some (row_of a) ≡ Some (row_of b) → a ≡ b
same_op a b e =
    let rows : row_of a ≡ row_of b = cc in
    let found : Some a ≡ Some b = sym (op_at-row_of a) ∙ (ap op_at rows ∙ op_at-row_of b) in
    cc

-- a word has at most one instruction
pub one_instr : (i j : Instr) (w : ℕ) → Encodes i w → Encodes j w → i ≡ j
one_instr i j w h g =
    let ops : i.op ≡ j.op = same_op i.op j.op (sym (row_of_word i w h) ∙ row_of_word j w g) in
    let rows : row_of i.op ≡ row_of j.op = ap row_of ops in
    let fits : FieldsFit j.rd j.rs1 j.rs2 j.imm (row_of i.op).form = rw rows g.fits in
    let words : fields (row_of i.op) i.rd i.rs1 i.rs2 i.imm (row_of i.op).form ≡ fields (row_of i.op) j.rd j.rs1 j.rs2 j.imm (row_of i.op).form =
    sym h.spelled ∙ (rw rows g.spelled) in
    let s = same_fields (row_of i.op) (row_fits i.op) (funct3_fits i.op) i.rd i.rs1 i.rs2 i.imm j.rd j.rs1 j.rs2 j.imm (row_of i.op).form h.fits fits words in
    rw (ops, s.rd_same, s.rs1_same, s.rs2_same, s.imm_same) refl

-- no instruction has a word of no row, or of a row that no mnemonic has
pub no_row : (w : ℕ) → row_in w ≡ None → (i : Instr) → Encodes i w → ⊥
no_row w e i h = let f = row_of_word i w h in (cc)

pub no_op : (w : ℕ) (r : Row) → row_in w ≡ Some r → op_at r ≡ None → (i : Instr) → Encodes i w → ⊥
no_op w r e n i h =
    let f = row_of_word i w h in
    let rows : row_of i.op ≡ r = cc in
    let found : op_at r ≡ Some i.op = rw (← rows) (op_at-row_of i.op) in
    (cc)

pub no_exit : (w : ℕ) (r : Row) (x : Option Op) (o : Option Instr) → row_in w ≡ Some r → x ≡ op_at r → x ≡ None → IfNone o ((i : Instr) → Encodes i w → ⊥)
no_exit w r x None e f n = no_op w r e (sym f ∙ n)
no_exit w r x (Some i) e f n = tt

pub only_one : (w : ℕ) (o : Option Instr) → IfSome o (λ i. Encodes i w) → IfNone o ((i : Instr) → Encodes i w → ⊥) → (i : Instr) → Encodes i w → o ≡ Some i
only_one w None found none i e = absurd (none i e)
only_one w (Some j) found none i e = ap Some (one_instr j i w found e)
