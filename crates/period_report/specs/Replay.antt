-- SPDX-License-Identifier: Apache-2.0
-- A machine on which events are run again. This project's own.
use Rattle.std.specs.Prelude.{◌≡◌, ◌+◌, ◌<◌, ◌^◌, List, [], ◌∷◌, length}
use Rattle.sh_types.specs.declared.runs.Event.{Event}
use Rattle.sh_machines.specs.Event.{after_event, IsLegalFrom, written}
use Rattle.sh_machines.specs.Shuffled.{Setting}
use Rattle.shuf_machine.specs.Past.{Past, state_of}
use Rattle.shuf_machine.specs.Run.{setting_of}

-- the setting of a machine
abbrev pub setting_in : Past → Setting
setting_in m = setting_of m.image m.origin

-- the machine did as the event says: it is in the state that the event leaves, and has executed its instructions
pub record IsAfter (e : Event) (before after : Past) : Type 0 where
  pub image : after.image ≡ before.image
  pub origin : after.origin ≡ before.origin
  pub state : state_of after ≡ after_event (setting_in before) e (state_of before)
  pub count : length (written after.journal) ≡ length (written before.journal) + length (written (e ∷ []))

-- the events are legal where the machine stands, and their instructions can be counted
pub record CanRun (m : Past) (es : List Event) : Type 0 where
  pub legal : IsLegalFrom (setting_in m) (state_of m) es
  pub room : length (written m.journal) + length (written es) < 2 ^ 64
