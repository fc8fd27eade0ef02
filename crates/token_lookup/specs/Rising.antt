-- SPDX-License-Identifier: Apache-2.0
-- Rows in order. This project's own.
use Rattle.std.specs.Prelude.{ℕ, ◌<◌, List, length, slice_index}

-- functions by rising number, each once
abbrev pub Rises : List ℕ → Type 0
Rises rows = (i j : ℕ) → i < j → j < length rows → slice_index rows i < slice_index rows j
