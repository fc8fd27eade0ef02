-- SPDX-License-Identifier: Apache-2.0
-- For each form: the fields that a word has make that word.
use Rattle.std.proofs.Common.{◌≡◌, ℕ, pos, ◌+◌, ◌*◌, ◌/◌, ◌%◌, ◌^◌, ◌<◌, arith}
use Rattle.rv_table.specs.Instruction.{Encodes, row, row_of, low_bits, IsSigned}
use Rattle.rv_table.specs.declared.rows.Form.TheVariants.{Upper, Jump, Branch, Immediate, Storing, Register, Shift6, Shift5, Atomic, Reserving, Fencing, Whole}
use Rattle.rv_table.specs.declared.instructions.Instr.{Instr}

module _ (i : Instr) (w : ℕ) (h : w < 2 ^ 32) where
  upper_word : w ≡ w % 2 ^ 7 + 2 ^ 7 * (w / 2 ^ 7 % 2 ^ 5) + w / 2 ^ 12 * 2 ^ 12
  upper_word = omega arith

  pub upper_encodes : row_of i.op ≡ row Upper (w % 2 ^ 7) 0 0 → i.rd ≡ w / 2 ^ 7 % 2 ^ 5 → i.rs1 ≡ 0 → i.rs2 ≡ 0 → low_bits 32 i.imm ≡ w / 2 ^ 12 * 2 ^ 12 → IsSigned 31 i.imm → Encodes i w
  upper_encodes e rd rs1 rs2 imm signed = record {
    fits = rw e (omega arith, rs1, rs2, signed, rw imm (omega arith));
    spelled = rw (e, rd, imm) upper_word;
  }

  jump_word : w ≡ w % 2 ^ 7 + 2 ^ 7 * (w / 2 ^ 7 % 2 ^ 5) + 2 ^ 12 * ((2 * (w / 2 ^ 21 % 2 ^ 10) + 2 ^ 11 * (w / 2 ^ 20 % 2) + 2 ^ 12 * (w / 2 ^ 12 % 2 ^ 8) + 2 ^ 20 * (w / 2 ^ 31)) / 2 ^ 12 % 2 ^ 8) + 2 ^ 20 * ((2 * (w / 2 ^ 21 % 2 ^ 10) + 2 ^ 11 * (w / 2 ^ 20 % 2) + 2 ^ 12 * (w / 2 ^ 12 % 2 ^ 8) + 2 ^ 20 * (w / 2 ^ 31)) / 2 ^ 11 % 2) + 2 ^ 21 * ((2 * (w / 2 ^ 21 % 2 ^ 10) + 2 ^ 11 * (w / 2 ^ 20 % 2) + 2 ^ 12 * (w / 2 ^ 12 % 2 ^ 8) + 2 ^ 20 * (w / 2 ^ 31)) / 2 % 2 ^ 10) + 2 ^ 31 * ((2 * (w / 2 ^ 21 % 2 ^ 10) + 2 ^ 11 * (w / 2 ^ 20 % 2) + 2 ^ 12 * (w / 2 ^ 12 % 2 ^ 8) + 2 ^ 20 * (w / 2 ^ 31)) / 2 ^ 20)
  jump_word = omega arith

  pub jump_encodes : row_of i.op ≡ row Jump (w % 2 ^ 7) 0 0 → i.rd ≡ w / 2 ^ 7 % 2 ^ 5 → i.rs1 ≡ 0 → i.rs2 ≡ 0 → low_bits 21 i.imm ≡ 2 * (w / 2 ^ 21 % 2 ^ 10) + 2 ^ 11 * (w / 2 ^ 20 % 2) + 2 ^ 12 * (w / 2 ^ 12 % 2 ^ 8) + 2 ^ 20 * (w / 2 ^ 31) → IsSigned 20 i.imm → Encodes i w
  jump_encodes e rd rs1 rs2 imm signed = record {
    fits = rw e (omega arith, rs1, rs2, signed, rw imm (omega arith));
    spelled = rw (e, rd, imm) jump_word;
  }

  branch_word : w ≡ w % 2 ^ 7 + 2 ^ 7 * ((2 * (w / 2 ^ 8 % 2 ^ 4) + 2 ^ 5 * (w / 2 ^ 25 % 2 ^ 6) + 2 ^ 11 * (w / 2 ^ 7 % 2) + 2 ^ 12 * (w / 2 ^ 31)) / 2 ^ 11 % 2) + 2 ^ 8 * ((2 * (w / 2 ^ 8 % 2 ^ 4) + 2 ^ 5 * (w / 2 ^ 25 % 2 ^ 6) + 2 ^ 11 * (w / 2 ^ 7 % 2) + 2 ^ 12 * (w / 2 ^ 31)) / 2 % 2 ^ 4) + 2 ^ 12 * (w / 2 ^ 12 % 2 ^ 3) + 2 ^ 15 * (w / 2 ^ 15 % 2 ^ 5) + 2 ^ 20 * (w / 2 ^ 20 % 2 ^ 5) + 2 ^ 25 * ((2 * (w / 2 ^ 8 % 2 ^ 4) + 2 ^ 5 * (w / 2 ^ 25 % 2 ^ 6) + 2 ^ 11 * (w / 2 ^ 7 % 2) + 2 ^ 12 * (w / 2 ^ 31)) / 2 ^ 5 % 2 ^ 6) + 2 ^ 31 * ((2 * (w / 2 ^ 8 % 2 ^ 4) + 2 ^ 5 * (w / 2 ^ 25 % 2 ^ 6) + 2 ^ 11 * (w / 2 ^ 7 % 2) + 2 ^ 12 * (w / 2 ^ 31)) / 2 ^ 12)
  branch_word = omega arith

  pub branch_encodes : row_of i.op ≡ row Branch (w % 2 ^ 7) (w / 2 ^ 12 % 2 ^ 3) 0 → i.rd ≡ 0 → i.rs1 ≡ w / 2 ^ 15 % 2 ^ 5 → i.rs2 ≡ w / 2 ^ 20 % 2 ^ 5 → low_bits 13 i.imm ≡ 2 * (w / 2 ^ 8 % 2 ^ 4) + 2 ^ 5 * (w / 2 ^ 25 % 2 ^ 6) + 2 ^ 11 * (w / 2 ^ 7 % 2) + 2 ^ 12 * (w / 2 ^ 31) → IsSigned 12 i.imm → Encodes i w
  branch_encodes e rd rs1 rs2 imm signed = record {
    fits = rw e (rd, omega arith, omega arith, signed, rw imm (omega arith));
    spelled = rw (e, rs1, rs2, imm) branch_word;
  }

  immediate_word : w ≡ w % 2 ^ 7 + 2 ^ 7 * (w / 2 ^ 7 % 2 ^ 5) + 2 ^ 12 * (w / 2 ^ 12 % 2 ^ 3) + 2 ^ 15 * (w / 2 ^ 15 % 2 ^ 5) + 2 ^ 20 * (w / 2 ^ 20)
  immediate_word = omega arith

  pub immediate_encodes : row_of i.op ≡ row Immediate (w % 2 ^ 7) (w / 2 ^ 12 % 2 ^ 3) 0 → i.rd ≡ w / 2 ^ 7 % 2 ^ 5 → i.rs1 ≡ w / 2 ^ 15 % 2 ^ 5 → i.rs2 ≡ 0 → low_bits 12 i.imm ≡ w / 2 ^ 20 → IsSigned 11 i.imm → Encodes i w
  immediate_encodes e rd rs1 rs2 imm signed = record {
    fits = rw e (omega arith, omega arith, rs2, signed);
    spelled = rw (e, rd, rs1, imm) immediate_word;
  }

  storing_word : w ≡ w % 2 ^ 7 + 2 ^ 7 * ((w / 2 ^ 7 % 2 ^ 5 + 2 ^ 5 * (w / 2 ^ 25)) % 2 ^ 5) + 2 ^ 12 * (w / 2 ^ 12 % 2 ^ 3) + 2 ^ 15 * (w / 2 ^ 15 % 2 ^ 5) + 2 ^ 20 * (w / 2 ^ 20 % 2 ^ 5) + 2 ^ 25 * ((w / 2 ^ 7 % 2 ^ 5 + 2 ^ 5 * (w / 2 ^ 25)) / 2 ^ 5)
  storing_word = omega arith

  pub storing_encodes : row_of i.op ≡ row Storing (w % 2 ^ 7) (w / 2 ^ 12 % 2 ^ 3) 0 → i.rd ≡ 0 → i.rs1 ≡ w / 2 ^ 15 % 2 ^ 5 → i.rs2 ≡ w / 2 ^ 20 % 2 ^ 5 → low_bits 12 i.imm ≡ w / 2 ^ 7 % 2 ^ 5 + 2 ^ 5 * (w / 2 ^ 25) → IsSigned 11 i.imm → Encodes i w
  storing_encodes e rd rs1 rs2 imm signed = record {
    fits = rw e (rd, omega arith, omega arith, signed);
    spelled = rw (e, rs1, rs2, imm) storing_word;
  }

  register_word : w ≡ w % 2 ^ 7 + 2 ^ 7 * (w / 2 ^ 7 % 2 ^ 5) + 2 ^ 12 * (w / 2 ^ 12 % 2 ^ 3) + 2 ^ 15 * (w / 2 ^ 15 % 2 ^ 5) + 2 ^ 20 * (w / 2 ^ 20 % 2 ^ 5) + 2 ^ 25 * (w / 2 ^ 25)
  register_word = omega arith

  pub register_encodes : row_of i.op ≡ row Register (w % 2 ^ 7) (w / 2 ^ 12 % 2 ^ 3) (w / 2 ^ 25) → i.rd ≡ w / 2 ^ 7 % 2 ^ 5 → i.rs1 ≡ w / 2 ^ 15 % 2 ^ 5 → i.rs2 ≡ w / 2 ^ 20 % 2 ^ 5 → i.imm ≡ pos 0 → Encodes i w
  register_encodes e rd rs1 rs2 imm = record {
    fits = rw e (omega arith, omega arith, omega arith, imm);
    spelled = rw (e, rd, rs1, rs2) register_word;
  }

  shift6_word : w ≡ w % 2 ^ 7 + 2 ^ 7 * (w / 2 ^ 7 % 2 ^ 5) + 2 ^ 12 * (w / 2 ^ 12 % 2 ^ 3) + 2 ^ 15 * (w / 2 ^ 15 % 2 ^ 5) + 2 ^ 20 * (w / 2 ^ 20 % 2 ^ 6) + 2 ^ 26 * (w / 2 ^ 26)
  shift6_word = omega arith

  pub shift6_encodes : row_of i.op ≡ row Shift6 (w % 2 ^ 7) (w / 2 ^ 12 % 2 ^ 3) (w / 2 ^ 26) → i.rd ≡ w / 2 ^ 7 % 2 ^ 5 → i.rs1 ≡ w / 2 ^ 15 % 2 ^ 5 → i.rs2 ≡ 0 → i.imm ≡ pos (w / 2 ^ 20 % 2 ^ 6) → Encodes i w
  shift6_encodes e rd rs1 rs2 imm = record {
    fits = rw e (omega arith, omega arith, rs2, rw imm (omega arith));
    spelled = rw (e, rd, rs1, imm) shift6_word;
  }

  shift5_word : w ≡ w % 2 ^ 7 + 2 ^ 7 * (w / 2 ^ 7 % 2 ^ 5) + 2 ^ 12 * (w / 2 ^ 12 % 2 ^ 3) + 2 ^ 15 * (w / 2 ^ 15 % 2 ^ 5) + 2 ^ 20 * (w / 2 ^ 20 % 2 ^ 5) + 2 ^ 25 * (w / 2 ^ 25)
  shift5_word = omega arith

  pub shift5_encodes : row_of i.op ≡ row Shift5 (w % 2 ^ 7) (w / 2 ^ 12 % 2 ^ 3) (w / 2 ^ 25) → i.rd ≡ w / 2 ^ 7 % 2 ^ 5 → i.rs1 ≡ w / 2 ^ 15 % 2 ^ 5 → i.rs2 ≡ 0 → i.imm ≡ pos (w / 2 ^ 20 % 2 ^ 5) → Encodes i w
  shift5_encodes e rd rs1 rs2 imm = record {
    fits = rw e (omega arith, omega arith, rs2, rw imm (omega arith));
    spelled = rw (e, rd, rs1, imm) shift5_word;
  }

  atomic_word : w ≡ w % 2 ^ 7 + 2 ^ 7 * (w / 2 ^ 7 % 2 ^ 5) + 2 ^ 12 * (w / 2 ^ 12 % 2 ^ 3) + 2 ^ 15 * (w / 2 ^ 15 % 2 ^ 5) + 2 ^ 20 * (w / 2 ^ 20 % 2 ^ 5) + 2 ^ 25 * (w / 2 ^ 25 % 2 ^ 2) + 2 ^ 27 * (w / 2 ^ 27)
  atomic_word = omega arith

  pub atomic_encodes : row_of i.op ≡ row Atomic (w % 2 ^ 7) (w / 2 ^ 12 % 2 ^ 3) (w / 2 ^ 27) → i.rd ≡ w / 2 ^ 7 % 2 ^ 5 → i.rs1 ≡ w / 2 ^ 15 % 2 ^ 5 → i.rs2 ≡ w / 2 ^ 20 % 2 ^ 5 → i.imm ≡ pos (w / 2 ^ 25 % 2 ^ 2) → Encodes i w
  atomic_encodes e rd rs1 rs2 imm = record {
    fits = rw e (omega arith, omega arith, omega arith, rw imm (omega arith));
    spelled = rw (e, rd, rs1, rs2, imm) atomic_word;
  }

  reserving_word : w / 2 ^ 20 % 2 ^ 5 ≡ 0 → w ≡ w % 2 ^ 7 + 2 ^ 7 * (w / 2 ^ 7 % 2 ^ 5) + 2 ^ 12 * (w / 2 ^ 12 % 2 ^ 3) + 2 ^ 15 * (w / 2 ^ 15 % 2 ^ 5) + 2 ^ 25 * (w / 2 ^ 25 % 2 ^ 2) + 2 ^ 27 * (w / 2 ^ 27)
  reserving_word free = omega arith

  pub reserving_encodes : row_of i.op ≡ row Reserving (w % 2 ^ 7) (w / 2 ^ 12 % 2 ^ 3) (w / 2 ^ 27) → i.rd ≡ w / 2 ^ 7 % 2 ^ 5 → i.rs1 ≡ w / 2 ^ 15 % 2 ^ 5 → i.rs2 ≡ 0 → i.imm ≡ pos (w / 2 ^ 25 % 2 ^ 2) → w / 2 ^ 20 % 2 ^ 5 ≡ 0 → Encodes i w
  reserving_encodes e rd rs1 rs2 imm free = record {
    fits = rw e (omega arith, omega arith, rs2, rw imm (omega arith));
    spelled = rw (e, rd, rs1, imm) (reserving_word free);
  }

  fencing_word : w ≡ w % 2 ^ 7 + 2 ^ 7 * (w / 2 ^ 7 % 2 ^ 5) + 2 ^ 12 * (w / 2 ^ 12 % 2 ^ 3) + 2 ^ 15 * (w / 2 ^ 15 % 2 ^ 5) + 2 ^ 20 * (w / 2 ^ 20)
  fencing_word = omega arith

  pub fencing_encodes : row_of i.op ≡ row Fencing (w % 2 ^ 7) (w / 2 ^ 12 % 2 ^ 3) 0 → i.rd ≡ w / 2 ^ 7 % 2 ^ 5 → i.rs1 ≡ w / 2 ^ 15 % 2 ^ 5 → i.rs2 ≡ 0 → i.imm ≡ pos (w / 2 ^ 20) → Encodes i w
  fencing_encodes e rd rs1 rs2 imm = record {
    fits = rw e (omega arith, omega arith, rs2, rw imm (omega arith));
    spelled = rw (e, rd, rs1, imm) fencing_word;
  }

  pub whole_encodes : (above : ℕ) → row_of i.op ≡ row Whole (w % 2 ^ 7) 0 above → w ≡ w % 2 ^ 7 + 2 ^ 20 * above → i.rd ≡ 0 → i.rs1 ≡ 0 → i.rs2 ≡ 0 → i.imm ≡ pos 0 → Encodes i w
  whole_encodes above e word rd rs1 rs2 imm = record {
    fits = rw e (rd, rs1, rs2, imm);
    spelled = rw e word;
  }
