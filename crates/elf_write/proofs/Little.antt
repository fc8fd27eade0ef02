-- SPDX-License-Identifier: Apache-2.0
-- The bytes of a number of one, two, four or eight bytes.
use Rattle.std.proofs.Common.{◌≡◌, ℕ, ◌<◌, ◌^◌, [], ◌∷◌, refl, ap}
use Rattle.std.proofs.Math.Nat.{div-div-eq-div-mul, mod-eq_of_lt}
use Rattle.std.specs.Int.{w16, w32, w64, to_le_bytes}
use Rattle.elf_write.specs.Fields.{little}

pub little_one : (n : ℕ) → n < 2 ^ 8 → little 1 n ≡ n ∷ []
unfolding little
little_one n small = ap (λ (x : ℕ). x ∷ []) (mod-eq_of_lt small)

pub little_two : (n : ℕ) → little 2 n ≡ to_le_bytes w16 n
unfolding little
little_two n = refl

pub little_four : (n : ℕ) → little 4 n ≡ to_le_bytes w32 n
unfolding little
little_four n = simp div-div-eq-div-mul

pub little_eight : (n : ℕ) → little 8 n ≡ to_le_bytes w64 n
unfolding little
little_eight n = simp div-div-eq-div-mul
