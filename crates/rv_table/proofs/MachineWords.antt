-- SPDX-License-Identifier: Apache-2.0
-- The machine forms: the fields that a word has make that word, and what a word of one has in its bits.
use Rattle.std.proofs.Common.{◌≡◌, ℕ, ℤ, ◌+◌, ◌*◌, ◌/◌, ◌%◌, ◌^◌, ◌<◌, Option, Some, None, true, false, eqb, arith, refl, sym, ◌∙◌, ap, subst, inl, inr}
use Rattle.std.specs.Prelude.{IfSome, IfNone}
use Rattle.std.proofs.lemmas.Bool.{and_parts, and_from, eqb-true, eq-eqb, cases_Bool}
use Rattle.rv_table.proofs.Reading.{low_again, signed_fit, cases_option}
use Rattle.rv_table.specs.Decoding.{signed_bits, rd_in, rs1_in}
use Rattle.rv_table.proofs.OneInstr.{low_bits_fit, same_signed, Keys, keys_of}
use Rattle.rv_table.specs.Instruction.{low_bits, IsSigned, row_of, Encodes}
use Rattle.rv_table.specs.declared.instructions.Op.{Op}
use Rattle.rv_table.specs.declared.instructions.Op.TheVariants.{Lui}
use Rattle.rv_table.specs.declared.instructions.Instr.{Instr}
use Rattle.rv_table.specs.MachineForm.{EncodesX, decoded_x, is_lit, is_sra, is_lra, is_tjalr}
use Rattle.rv_table.specs.declared.instructions.XInstr.{XInstr}
use Rattle.rv_table.specs.declared.instructions.XInstr.TheVariants.{Lit, Sra, Lra, Tjalr}

module _ (w : ℕ) (h : w < 2 ^ 32) where
  pub lit_encodes : (rd number : ℕ) → w % 2 ^ 7 ≡ 0x0b → rd ≡ w / 2 ^ 7 % 2 ^ 5 → number ≡ w / 2 ^ 12 → EncodesX (Lit rd number) w
  lit_encodes rd number o d n = record { fits = (omega arith, omega arith); spelled = omega arith }

  pub sra_encodes : (imm : ℤ) → w % 2 ^ 7 ≡ 0x2b → w / 2 ^ 12 % 2 ^ 3 ≡ 0 → w / 2 ^ 15 % 2 ^ 5 ≡ 2 → w / 2 ^ 20 % 2 ^ 5 ≡ 1
      → low_bits 12 imm ≡ w / 2 ^ 7 % 2 ^ 5 + 2 ^ 5 * (w / 2 ^ 25) → IsSigned 11 imm → EncodesX (Sra imm) w
  sra_encodes imm o f a b low fits = record { fits = (refl, omega arith, omega arith, fits); spelled = rw low (omega arith) }

  pub lra_encodes : (imm : ℤ) → w % 2 ^ 7 ≡ 0x2b → w / 2 ^ 12 % 2 ^ 3 ≡ 1 → w / 2 ^ 7 % 2 ^ 5 ≡ 1 → w / 2 ^ 15 % 2 ^ 5 ≡ 2
      → low_bits 12 imm ≡ w / 2 ^ 20 → IsSigned 11 imm → EncodesX (Lra imm) w
  lra_encodes imm o f d a low fits = record { fits = (omega arith, omega arith, refl, fits); spelled = rw low (omega arith) }

  pub tjalr_encodes : (rd rs1 : ℕ) (imm : ℤ) → w % 2 ^ 7 ≡ 0x2b → w / 2 ^ 12 % 2 ^ 3 ≡ 2 → rd ≡ w / 2 ^ 7 % 2 ^ 5 → rs1 ≡ w / 2 ^ 15 % 2 ^ 5
      → low_bits 12 imm ≡ w / 2 ^ 20 → IsSigned 11 imm → EncodesX (Tjalr rd rs1 imm) w
  tjalr_encodes rd rs1 imm o f d a low fits = record { fits = (omega arith, omega arith, refl, fits); spelled = rw low (omega arith) }

-- what the word of a machine form has in its bits
abbrev pub XBits : XInstr → ℕ → Type 0
XBits (Lit rd number) w = w % 2 ^ 7 ≡ 0x0b
XBits (Sra imm) w = (w % 2 ^ 7 ≡ 0x2b) × (w / 2 ^ 12 % 2 ^ 3 ≡ 0) × (w / 2 ^ 15 % 2 ^ 5 ≡ 2) × (w / 2 ^ 20 % 2 ^ 5 ≡ 1)
XBits (Lra imm) w = (w % 2 ^ 7 ≡ 0x2b) × (w / 2 ^ 12 % 2 ^ 3 ≡ 1) × (w / 2 ^ 7 % 2 ^ 5 ≡ 1) × (w / 2 ^ 15 % 2 ^ 5 ≡ 2)
XBits (Tjalr rd rs1 imm) w = (w % 2 ^ 7 ≡ 0x2b) × (w / 2 ^ 12 % 2 ^ 3 ≡ 2)

x_bits : (x : XInstr) (w : ℕ) → EncodesX x w → XBits x w
x_bits (Lit rd number) w e = let f = e.fits in let s = e.spelled in omega arith
x_bits (Sra imm) w e = let f = e.fits in let s = e.spelled in (omega arith, omega arith, omega arith, omega arith)
x_bits (Lra imm) w e = let f = e.fits in let s = e.spelled in (omega arith, omega arith, omega arith, omega arith)
x_bits (Tjalr rd rs1 imm) w e = let f = e.fits in let s = e.spelled in (omega arith, omega arith)

pub none_encodes : (w : ℕ) → ((x : XInstr) → XBits x w → ⊥) → (x : XInstr) → EncodesX x w → ⊥
none_encodes w apart x e = apart x (x_bits x w e)

-- a word is of at most one machine form
pub one_x : (x y : XInstr) (w : ℕ) → EncodesX x w → EncodesX y w → x ≡ y
one_x (Lit a b) (Lit c d) w e f =
    let ef = e.fits in let es = e.spelled in let ff = f.fits in let fs = f.spelled in
    let rds : a ≡ c = omega arith in let numbers : b ≡ d = omega arith in
    rw (rds, numbers) refl
one_x (Sra i) (Sra j) w e f =
    let m = low_bits_fit 11 i e.fits.3 in let n = low_bits_fit 11 j f.fits.3 in let es = e.spelled in let fs = f.spelled in
    ap Sra (same_signed 11 i j e.fits.3 f.fits.3 (omega arith))
one_x (Lra i) (Lra j) w e f =
    let m = low_bits_fit 11 i e.fits.3 in let n = low_bits_fit 11 j f.fits.3 in let es = e.spelled in let fs = f.spelled in
    ap Lra (same_signed 11 i j e.fits.3 f.fits.3 (omega arith))
one_x (Tjalr a b i) (Tjalr c d j) w e f =
    let ef = e.fits in let ff = f.fits in let m = low_bits_fit 11 i e.fits.3 in let n = low_bits_fit 11 j f.fits.3 in let es = e.spelled in let fs = f.spelled in
    let rds : a ≡ c = omega arith in let rs1s : b ≡ d = omega arith in
    rw (rds, rs1s, same_signed 11 i j e.fits.3 f.fits.3 (omega arith)) refl
one_x x y w e f = let p = x_bits x w e in let q = x_bits y w f in absurd (omega arith)

-- what is read in a word is the form that has the word
pub x_encodes : (w : ℕ) (x : XInstr) → w < 2 ^ 32 → decoded_x w ≡ Some x → EncodesX x w
unfolding decoded_x
x_encodes w x h e = elim (cases_Bool (is_lit w)) [
  | inl t ↦
      let s : Some (Lit (rd_in w) (w / 2 ^ 12)) ≡ Some x = rw t at e in
      let same : Lit (rd_in w) (w / 2 ^ 12) ≡ x = cc in
      subst (λ y. EncodesX y w) same (lit_encodes w h _ _ (eqb-true _ _ t) refl refl)
  | inr lit ↦ elim (cases_Bool (is_sra w)) [
    | inl t ↦
        let n = w / 2 ^ 7 % 2 ^ 5 + 2 ^ 5 * (w / 2 ^ 25) in
        let small : w / 2 ^ 7 % 2 ^ 5 + 2 ^ 5 * (w / 2 ^ 25) < 2 ^ 12 = omega arith in
        let s : Some (Sra (signed_bits 11 n)) ≡ Some x = rw (lit, t) at e in
        let same : Sra (signed_bits 11 n) ≡ x = cc in
        let p = and_parts _ _ t in let q = and_parts _ _ p.1 in let r = and_parts _ _ q.1 in
        subst (λ y. EncodesX y w) same
        (sra_encodes w h _ (eqb-true _ _ p.0) (eqb-true _ _ q.0) (eqb-true _ _ r.0) (eqb-true _ _ r.1) (low_again 11 n small) (signed_fit 11 n small))
    | inr sra ↦ elim (cases_Bool (is_lra w)) [
      | inl t ↦
          let n = w / 2 ^ 20 in
          let small : w / 2 ^ 20 < 2 ^ 12 = omega arith in
          let s : Some (Lra (signed_bits 11 n)) ≡ Some x = rw (lit, sra, t) at e in
          let same : Lra (signed_bits 11 n) ≡ x = cc in
          let p = and_parts _ _ t in let q = and_parts _ _ p.1 in let r = and_parts _ _ q.1 in
          subst (λ y. EncodesX y w) same
          (lra_encodes w h _ (eqb-true _ _ p.0) (eqb-true _ _ q.0) (eqb-true _ _ r.0) (eqb-true _ _ r.1) (low_again 11 n small) (signed_fit 11 n small))
      | inr lra ↦ elim (cases_Bool (is_tjalr w)) [
        | inl t ↦
            let n = w / 2 ^ 20 in
            let small : w / 2 ^ 20 < 2 ^ 12 = omega arith in
            let s : Some (Tjalr (rd_in w) (rs1_in w) (signed_bits 11 n)) ≡ Some x = rw (lit, sra, lra, t) at e in
            let same : Tjalr (rd_in w) (rs1_in w) (signed_bits 11 n) ≡ x = cc in
            let p = and_parts _ _ t in
            subst (λ y. EncodesX y w) same
            (tjalr_encodes w h _ _ _ (eqb-true _ _ p.0) (eqb-true _ _ p.1) refl refl (low_again 11 n small) (signed_fit 11 n small))
        | inr tjalr ↦ let clash : None ≡ Some x = rw (lit, sra, lra, tjalr) at e in absurd (cc)
      ]
    ]
  ]
]

-- where nothing is read, no test holds
record NoForm (w : ℕ) : Type 0 where
  lit : is_lit w ≡ false
  sra : is_sra w ≡ false
  lra : is_lra w ≡ false
  tjalr : is_tjalr w ≡ false

no_form : (w : ℕ) → decoded_x w ≡ None → NoForm w
unfolding decoded_x
no_form w e = elim (cases_Bool (is_lit w)) [
  | inl t ↦ let clash : Some (Lit (rd_in w) (w / 2 ^ 12)) ≡ None = rw t at e in absurd (cc)
  | inr lit ↦ elim (cases_Bool (is_sra w)) [
    | inl t ↦ let clash : Some (Sra (signed_bits 11 (w / 2 ^ 7 % 2 ^ 5 + 2 ^ 5 * (w / 2 ^ 25)))) ≡ None = rw (lit, t) at e in absurd (cc)
    | inr sra ↦ elim (cases_Bool (is_lra w)) [
      | inl t ↦ let clash : Some (Lra (signed_bits 11 (w / 2 ^ 20))) ≡ None = rw (lit, sra, t) at e in absurd (cc)
      | inr lra ↦ elim (cases_Bool (is_tjalr w)) [
        | inl t ↦ let clash : Some (Tjalr (rd_in w) (rs1_in w) (signed_bits 11 (w / 2 ^ 20))) ≡ None = rw (lit, sra, lra, t) at e in absurd (cc)
        | inr tjalr ↦ record { lit = lit; sra = sra; lra = lra; tjalr = tjalr }
      ]
    ]
  ]
]

no_bits : (w : ℕ) (x : XInstr) → NoForm w → XBits x w → ⊥
no_bits w (Lit rd number) n b = let f = n.lit in let t : is_lit w ≡ true = eq-eqb _ _ b in (cc)
no_bits w (Sra imm) n b = let f = n.sra in
    let t : is_sra w ≡ true = and_from _ _ (eq-eqb _ _ b.0) (and_from _ _ (eq-eqb _ _ b.1) (and_from _ _ (eq-eqb _ _ b.2) (eq-eqb _ _ b.3))) in (cc)
no_bits w (Lra imm) n b = let f = n.lra in
    let t : is_lra w ≡ true = and_from _ _ (eq-eqb _ _ b.0) (and_from _ _ (eq-eqb _ _ b.1) (and_from _ _ (eq-eqb _ _ b.2) (eq-eqb _ _ b.3))) in (cc)
no_bits w (Tjalr rd rs1 imm) n b = let f = n.tjalr in let t : is_tjalr w ≡ true = and_from _ _ (eq-eqb _ _ b.0) (eq-eqb _ _ b.1) in (cc)

-- the form that has the word is what is read in it
pub x_decoded : (w : ℕ) (x : XInstr) → w < 2 ^ 32 → EncodesX x w → decoded_x w ≡ Some x
x_decoded w x h e = elim (cases_option (decoded_x w)) [
  | inl none ↦ absurd (no_bits w x (no_form w none) (x_bits x w e))
  | inr (y, found) ↦ let same : y ≡ x = one_x y x w (x_encodes w y h found) e in rw (found, same) refl
]

pub decoded_x_is : (w : ℕ) (o : Option XInstr) → w < 2 ^ 32 → IfSome o (λ x. EncodesX x w) → IfNone o ((x : XInstr) → EncodesX x w → ⊥) → o ≡ decoded_x w
decoded_x_is w None h found none = elim (cases_option (decoded_x w)) [
  | inl e ↦ sym e
  | inr (x, e) ↦ absurd (none x (x_encodes w x h e))
]
decoded_x_is w (Some x) h found none = sym (x_decoded w x h found)

pub spelled_x_read : (o : Option ℕ) (x : XInstr) → IfSome o (λ w. w < 2 ^ 32) → IfSome o (λ w. EncodesX x w) → IfSome o (λ w. decoded_x w ≡ Some x)
spelled_x_read None x h e = tt
spelled_x_read (Some w) x h e = x_decoded w x h e

pub only_one_x : (w : ℕ) (o : Option XInstr) → IfSome o (λ x. EncodesX x w) → IfNone o ((x : XInstr) → EncodesX x w → ⊥) → (x : XInstr) → EncodesX x w → o ≡ Some x
only_one_x w None found none x e = absurd (none x e)
only_one_x w (Some y) found none x e = ap Some (one_x y x w found e)

-- no row of the table has the opcode of a machine form
not_custom_0 : (op : Op) → eqb (row_of op).opcode 0x0b ≡ false
unfolding row_of
not_custom_0 Lui = refl
not_custom_0 _ = refl

not_custom_1 : (op : Op) → eqb (row_of op).opcode 0x2b ≡ false
unfolding row_of
not_custom_1 Lui = refl
not_custom_1 _ = refl

apart_by : (a b : ℕ) → a ≡ b → eqb a b ≡ false → ⊥
apart_by a b e f = let t = eq-eqb a b e in (cc)

-- no word has both an instruction of the table and a machine form
pub x_apart : (i : Instr) (x : XInstr) (w : ℕ) → Encodes i w → EncodesX x w → ⊥
x_apart i x w e f = by x (x_bits x w f)
  where
    k : Keys (row_of i.op).form (row_of i.op) w
    k = keys_of i w e

    by : (y : XInstr) → XBits y w → ⊥
    by (Lit rd number) b = apart_by (row_of i.op).opcode 0x0b (sym k.opcode ∙ b) (not_custom_0 i.op)
    by (Sra imm) b = apart_by (row_of i.op).opcode 0x2b (sym k.opcode ∙ b.0) (not_custom_1 i.op)
    by (Lra imm) b = apart_by (row_of i.op).opcode 0x2b (sym k.opcode ∙ b.0) (not_custom_1 i.op)
    by (Tjalr rd rs1 imm) b = apart_by (row_of i.op).opcode 0x2b (sym k.opcode ∙ b.0) (not_custom_1 i.op)
