-- SPDX-License-Identifier: Apache-2.0
-- Layouts that are published are numbered one after the other. This project's own.
use Rattle.std.specs.Prelude.{ℕ, ◌+◌, ◌≡◌, List, [], ◌∷◌}
use Rattle.sh_types.specs.declared.runs.Event.{Event}
use Rattle.sh_types.specs.declared.runs.Event.TheVariants.{Run, Migrate, Publish, Erase}

-- a publication has the next number
abbrev pub IsNext : ℕ → Event → Type 0
IsNext newest (Run hart n) = Unit {0}
IsNext newest (Migrate hart) = Unit {0}
IsNext newest (Publish k) = k ≡ newest + 1
IsNext newest (Erase k) = Unit {0}

-- the newest layout after an event
abbrev pub newest_after : ℕ → Event → ℕ
newest_after newest (Run hart n) = newest
newest_after newest (Migrate hart) = newest
newest_after newest (Publish k) = k
newest_after newest (Erase k) = newest

abbrev pub IsNumbered : ℕ → List Event → Type 0
IsNumbered newest [] = Unit {0}
IsNumbered newest (e ∷ es) = IsNext newest e × IsNumbered (newest_after newest e) es
