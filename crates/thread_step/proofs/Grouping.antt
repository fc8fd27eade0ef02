-- SPDX-License-Identifier: Apache-2.0
-- What mnemonics do, by their opcodes.
use Rattle.std.proofs.Common.{◌≡◌, ℕ, ◌⊎◌, inl, inr, false, refl, arith}
use Rattle.std.specs.Prelude.{IsTrue, ◌==◌, ◌||◌, ◌&&◌}
use Rattle.std.proofs.lemmas.Bool.Decides.{nat_tests}
use Rattle.rv_table.specs.Arithmetic.{compare_of, is_arithmetic, is_branch, is_load}
use Rattle.rv_table.specs.Instruction.{row_of}
use Rattle.rv_table.specs.declared.instructions.Instr.{Instr}
use Rattle.rv_table.specs.declared.instructions.Op.{Op}
use Rattle.rv_table.specs.declared.instructions.Op.TheVariants.{Beq, Bne, Blt, Bge, Bltu, Bgeu, Ebreak}
use Rattle.sh_machines.specs.Kind.{Computes, Loads, Stores, Atomics, Breaks, Illegal, opcode_of, plain_kind, stop_kind}
use Rattle.sh_types.specs.declared.code.Pair.{Pair}

immediate_kind : (i : Instr) → opcode_of i.op ≡ 0x13 → plain_kind {T = Pair} i ≡ Computes i
unfolding plain_kind
immediate_kind i e = rw e refl

word_immediate_kind : (i : Instr) → opcode_of i.op ≡ 0x1b → plain_kind {T = Pair} i ≡ Computes i
unfolding plain_kind
word_immediate_kind i e = rw e refl

register_kind : (i : Instr) → opcode_of i.op ≡ 0x33 → plain_kind {T = Pair} i ≡ Computes i
unfolding plain_kind
register_kind i e = rw e refl

word_register_kind : (i : Instr) → opcode_of i.op ≡ 0x3b → plain_kind {T = Pair} i ≡ Computes i
unfolding plain_kind
word_register_kind i e = rw e refl

opcode_is : (o n : ℕ) → IsTrue (o == n) → o ≡ n
opcode_is o n h = grind (arith, nat_tests)

one_of : (o : ℕ) → IsTrue ((o == 0x13) || (o == 0x1b) || (o == 0x33) || (o == 0x3b)) → (o ≡ 0x13) ⊎ ((o ≡ 0x1b) ⊎ ((o ≡ 0x33) ⊎ (o ≡ 0x3b)))
one_of o h = grind (arith, nat_tests)

pub computes_kind : (i : Instr) → IsTrue (is_arithmetic i.op) → plain_kind {T = Pair} i ≡ Computes i
computes_kind i h = elim (one_of (opcode_of i.op) h) [
  | inl a ↦ immediate_kind i a
  | inr (inl b) ↦ word_immediate_kind i b
  | inr (inr (inl c)) ↦ register_kind i c
  | inr (inr (inr d)) ↦ word_register_kind i d
]

loads_by : (i : Instr) → opcode_of i.op ≡ 0x03 → plain_kind {T = Pair} i ≡ Loads i
unfolding plain_kind
loads_by i e = rw e refl

pub loads_kind : (i : Instr) → IsTrue (is_load i.op) → plain_kind {T = Pair} i ≡ Loads i
loads_kind i h = loads_by i (opcode_is (opcode_of i.op) 0x03 h)

stores_by : (i : Instr) → opcode_of i.op ≡ 0x23 → plain_kind {T = Pair} i ≡ Stores i
unfolding plain_kind
stores_by i e = rw e refl

pub stores_kind : (i : Instr) → IsTrue (opcode_of i.op == 0x23) → plain_kind {T = Pair} i ≡ Stores i
stores_kind i h = stores_by i (opcode_is (opcode_of i.op) 0x23 h)

atomics_by : (i : Instr) → opcode_of i.op ≡ 0x2f → plain_kind {T = Pair} i ≡ Atomics i
unfolding plain_kind
atomics_by i e = rw e refl

pub atomics_kind : (i : Instr) → IsTrue (opcode_of i.op == 0x2f) → plain_kind {T = Pair} i ≡ Atomics i
atomics_kind i h = atomics_by i (opcode_is (opcode_of i.op) 0x2f h)

-- what is no branch is never taken
pub never_taken : (op : Op) (a b : ℕ) → is_branch op ≡ false → compare_of op a b ≡ false
unfolding compare_of row_of
never_taken Beq a b e = absurd (cc)
never_taken Bne a b e = absurd (cc)
never_taken Blt a b e = absurd (cc)
never_taken Bge a b e = absurd (cc)
never_taken Bltu a b e = absurd (cc)
never_taken Bgeu a b e = absurd (cc)
never_taken _ a b e = refl

-- the breakpoint, and all others
pub breaks_kind : (i : Instr) → i.op ≡ Ebreak → stop_kind {T = Pair} i ≡ Breaks
unfolding row_of
breaks_kind i e = rw e refl

no_break : (op : Op) → (op ≡ Ebreak → ⊥) → ((opcode_of op == 0x73) && ((row_of op).above == 1)) ≡ false
unfolding row_of
no_break Ebreak n = absurd (n refl)
no_break _ n = refl

pub stops_kind : (i : Instr) → (i.op ≡ Ebreak → ⊥) → stop_kind {T = Pair} i ≡ Illegal
stops_kind i n = rw (no_break i.op n) refl
