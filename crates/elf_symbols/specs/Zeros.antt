-- SPDX-License-Identifier: Apache-2.0
-- The zero bytes of a string table.
use Rattle.std.specs.Prelude.{ℕ, ◌+◌, ◌==◌, nat_lt, List, [], ◌∷◌, if◌then◌else◌}

-- one past the last zero byte, or 0
abbrev pub zero_end : List ℕ → ℕ
zero_end [] = 0
zero_end (c ∷ cs) = if nat_lt 0 (zero_end cs) then 1 + zero_end cs else if c == 0 then 1 else 0

-- the places of the zero bytes, where the first byte has a place of its own
abbrev pub zeros_from : ℕ → List ℕ → List ℕ
zeros_from place [] = []
zeros_from place (c ∷ cs) = if c == 0 then place ∷ zeros_from (place + 1) cs else zeros_from (place + 1) cs

-- the first of a list from a place on, or something else where there is none
abbrev pub first_from : List ℕ → ℕ → ℕ → ℕ
first_from [] place other = other
first_from (z ∷ zs) place other = if nat_lt z place then first_from zs place other else z
