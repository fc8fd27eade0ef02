-- SPDX-License-Identifier: Apache-2.0
-- A serial run of the small image of the laws. This project's own.
use Rattle.std.specs.Prelude.{List, [], ◌∷◌}
use Rattle.sh_types.specs.declared.runs.Event.{Event}
use Rattle.sh_types.specs.declared.runs.Event.TheVariants.{Run, Migrate, Publish, Erase}
use Rattle.sh_machines.specs.Serial.{Schedule}

-- a period of twenty instructions, turns of six, and more steps than the image takes
abbrev pub small_schedule : Schedule
small_schedule = record { period = 20; quantum = 6; steps = 100 }

-- What comes first: environment calls, at the eighth, the thirteenth and the twentieth instruction, begin Run events; the
-- twentieth starts a second hart, and layout 2 comes behind it.
abbrev pub first_events : List Event
first_events =
    Run 0 6 ∷ Run 0 1 ∷ Run 0 5 ∷ Run 0 6 ∷ Run 0 1 ∷ Run 0 1 ∷ Publish 2 ∷ Migrate 0 ∷ Migrate 1 ∷ Erase 1 ∷ Run 1 6 ∷ Run 0 6 ∷ []
