-- SPDX-License-Identifier: Apache-2.0
use Rattle.std.specs.Prelude.{◌≡◌, ℕ, List, slice_get, Some}

-- no two of the names are equal
abbrev pub AreDistinct : List (List ℕ) → Type 0
AreDistinct names = (i j : ℕ) (name : List ℕ) → slice_get names i ≡ Some name → slice_get names j ≡ Some name → i ≡ j
