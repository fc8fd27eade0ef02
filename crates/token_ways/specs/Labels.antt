-- SPDX-License-Identifier: Apache-2.0
-- Labels in order. This project's own.
use Rattle.std.specs.Prelude.{ℕ, ◌≡◌, ◌≤◌, Some, List, slice_get}
use Rattle.sh_types.specs.declared.code.Pair.{Pair}

-- labels by rising function
abbrev pub RisesByFunc : List Pair → Type 0
RisesByFunc labels = (i j : ℕ) (p q : Pair) → i ≤ j → slice_get labels i ≡ Some p → slice_get labels j ≡ Some q → p.func ≤ q.func
