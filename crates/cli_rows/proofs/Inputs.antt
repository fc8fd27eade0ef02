-- SPDX-License-Identifier: Apache-2.0
-- The bytes of the input of a generated guest, one after the other.
use Rattle.std.proofs.Common.{◌≡◌, ℕ, ◌+◌, [], ◌∷◌, ◌++◌, suc, refl, ap, ◌∙◌, add-one}
use Rattle.cli_rows.specs.Demo.{input_byte, first_bytes}

pub first_none : first_bytes 0 ≡ []
unfolding first_bytes
first_none = refl

first_next : (n : ℕ) → first_bytes (suc n) ≡ first_bytes n ++ input_byte n ∷ []
unfolding first_bytes
first_next n = refl

pub first_more : (n : ℕ) → first_bytes (n + 1) ≡ first_bytes n ++ input_byte n ∷ []
first_more n = ap first_bytes (add-one n) ∙ first_next n
