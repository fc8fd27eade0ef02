-- SPDX-License-Identifier: Apache-2.0
-- A number that an instruction takes has 12 bits.
use Rattle.std.proofs.Common.{◌≡◌, ℕ, ◌<◌, ◌≤◌, ◌^◌, Bool, true, false, lit≤, arith}
use Rattle.std.specs.Prelude.{ℤ, pos, negsuc, ◌==◌, if◌then◌else◌}
use Rattle.std.proofs.lemmas.Bool.{ltb-true, lt-ltb}
use Rattle.rv_table.specs.declared.instructions.Op.{Op}
use Rattle.rv_table.specs.declared.instructions.Op.TheVariants.{Slli, Srli, Srai, Slliw, Srliw, Sraiw}
use Rattle.rv_table.specs.Instruction.{IsSigned}
use Rattle.asm_places.specs.Ranges.{is_from, is_immediate, is_value}

from_small : (low high : ℕ) (imm : ℤ) → low ≤ 2048 → high ≤ 2048 → is_from low high imm ≡ true → IsSigned 11 imm
from_small low high (pos n) l h e = let lt : n < high = ltb-true n high e in omega arith
from_small low high (negsuc n) l h e = let lt : n < low = ltb-true n low e in omega arith

pub immediate_small : (op : Op) (imm : ℤ) → is_immediate op imm ≡ true → IsSigned 11 imm
unfolding is_immediate
immediate_small Slli imm e = from_small 0 64 imm (omega arith) (omega arith) e
immediate_small Srli imm e = from_small 0 64 imm (omega arith) (omega arith) e
immediate_small Srai imm e = from_small 0 64 imm (omega arith) (omega arith) e
immediate_small Slliw imm e = from_small 0 32 imm (omega arith) (omega arith) e
immediate_small Srliw imm e = from_small 0 32 imm (omega arith) (omega arith) e
immediate_small Sraiw imm e = from_small 0 32 imm (omega arith) (omega arith) e
immediate_small _ imm e = from_small 2048 2048 imm (omega arith) (omega arith) e

from_wide : (low high : ℕ) (value : ℤ) → low ≤ 2 ^ 63 → high ≤ 2 ^ 64 → is_from low high value ≡ true → is_from (2 ^ 63) (2 ^ 64) value ≡ true
from_wide low high (pos n) l h e = let lt : n < high = ltb-true n high e in lt-ltb n (2 ^ 64) (omega arith)
from_wide low high (negsuc n) l h e = let lt : n < low = ltb-true n low e in lt-ltb n (2 ^ 63) (omega arith)

wide_if : (a b : Bool) (value : ℤ) → (if a then is_from (2 ^ 7) (2 ^ 8) value else (if b then is_from (2 ^ 31) (2 ^ 32) value else is_from (2 ^ 63) (2 ^ 64) value)) ≡ true → is_from (2 ^ 63) (2 ^ 64) value ≡ true
wide_if true b value e = from_wide (2 ^ 7) (2 ^ 8) value (lit≤ tt) (lit≤ tt) e
wide_if false true value e = from_wide (2 ^ 31) (2 ^ 32) value (lit≤ tt) (lit≤ tt) e
wide_if false false value e = e

-- a value in range has 64 bits, with a sign or without
pub value_wide : (width : ℕ) (value : ℤ) → is_value width value ≡ true → is_from (2 ^ 63) (2 ^ 64) value ≡ true
value_wide width value e = wide_if (width == 1) (width == 4) value e
