-- SPDX-License-Identifier: Apache-2.0
-- Which mnemonics of the opcode AMO are what ("A" extension).
use Rattle.std.proofs.Common.{◌≡◌, ◌==◌, ◌&&◌, not, IsTrue, false, refl}
use Rattle.rv_table.specs.declared.instructions.Op.{Op}
use Rattle.rv_table.specs.declared.instructions.Op.TheVariants.{LrW}
use Rattle.rv_table.specs.Arithmetic.{is_amo}
use Rattle.rv_table.specs.Instruction.{row_of}
use Rattle.rv_table.specs.Operands.{is_lr, is_sc}
use Rattle.sh_machines.specs.Kind.{opcode_of}

by_opcode : (op : Op) → is_amo op ≡ ((opcode_of op == 0x2f) && (not (is_lr op) && not (is_sc op)))
unfolding row_of
by_opcode LrW = refl
by_opcode _ = refl

-- an atomic that is neither load-reserved nor store-conditional computes
pub others_compute : (op : Op) → IsTrue (opcode_of op == 0x2f) → is_lr op ≡ false → is_sc op ≡ false → IsTrue (is_amo op)
others_compute op o l s = rw (by_opcode op, o, l, s) refl
