-- SPDX-License-Identifier: Apache-2.0
-- Digits with zeros before them.
use Rattle.std.proofs.Common.{◌≡◌, ℕ, ◌-◌, ◌^◌, false, List, [], ◌++◌, length, replicate, ap, ◌∙◌, arith, append-nil}
use Rattle.std.specs.Fmt.{padded_integral, format_spec, char_count}

pub padded : (width : ℕ) (ds : List ℕ) → padded_integral (format_spec 32 0 4 width (2 ^ 64 - 1)) false [] ds ≡ replicate (width - length ds) 48 ++ ds
unfolding padded_integral char_count
padded width ds = let e : width - length ds - 0 - 0 ≡ width - length ds = omega arith in ap (λ n. replicate {A = ℕ} n 48 ++ (ds ++ [])) e ∙ ap (λ xs. replicate {A = ℕ} (width - length ds) 48 ++ xs) (append-nil ds)
