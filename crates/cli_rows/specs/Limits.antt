-- SPDX-License-Identifier: Apache-2.0
-- The program's limits. This project's own.
use Rattle.std.specs.Prelude.{ℕ}

-- the most bytes of a file
abbrev pub file_limit : ℕ
file_limit = 16777216
