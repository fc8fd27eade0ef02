-- SPDX-License-Identifier: Apache-2.0
-- Turns of a run without layouts, beside a period. This project's own.
use Rattle.std.specs.Prelude.{ℕ, ◌+◌, ◌%◌, ◌≤◌, List, [], ◌∷◌}
use Rattle.sh_machines.specs.PlainSerial.{Turn}

-- no multiple of the period lies inside a turn
abbrev pub AreWithin : (period : ℕ) → List Turn → Type 0
AreWithin period [] = Unit {0}
AreWithin period (t ∷ ts) = (t.from % period + t.count ≤ period) × AreWithin period ts
