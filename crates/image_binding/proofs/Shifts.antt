-- SPDX-License-Identifier: Apache-2.0
-- A byte of a number by a shift.
use Rattle.std.proofs.Common.{◌≡◌, ℕ, zero, suc, ◌*◌, ◌<◌, ◌^◌, refl, arith}

-- as many bits as so many bytes have
pub bits_of_bytes : (i : ℕ) → i < 8 → 2 ^ (8 * i) ≡ 256 ^ i
bits_of_bytes zero l = refl
bits_of_bytes (suc zero) l = refl
bits_of_bytes (suc (suc zero)) l = refl
bits_of_bytes (suc (suc (suc zero))) l = refl
bits_of_bytes (suc (suc (suc (suc zero)))) l = refl
bits_of_bytes (suc (suc (suc (suc (suc zero))))) l = refl
bits_of_bytes (suc (suc (suc (suc (suc (suc zero)))))) l = refl
bits_of_bytes (suc (suc (suc (suc (suc (suc (suc zero))))))) l = refl
bits_of_bytes (suc (suc (suc (suc (suc (suc (suc (suc i)))))))) l = absurd (omega (arith, l))
