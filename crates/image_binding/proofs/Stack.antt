-- SPDX-License-Identifier: Apache-2.0
-- The first stack, as it is made.
use Rattle.std.proofs.Common.{◌≡◌, ℕ, true, ap}
use Rattle.std.specs.Prelude.{replicate}
use Rattle.sh_types.specs.declared.code.Region.{Region}
use Rattle.sh_types.specs.Image.{first_stack, stack_start, stack_end}

-- a stack of so many zeros
abbrev stack_of : ℕ → Region
stack_of size = record { start = stack_start; end = stack_end; writable = true; bytes = replicate size 0 }

pub stack_is : (size : ℕ) → size ≡ 1048576 → stack_of size ≡ first_stack
unfolding first_stack
stack_is size e = ap stack_of e
