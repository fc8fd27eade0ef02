-- SPDX-License-Identifier: Apache-2.0
-- Where a machine stands in the serial order, and how far a list of events has come. This project's own.
use Rattle.std.specs.Prelude.{◌≡◌, ℕ, ◌*◌, ◌≤◌, Option, Some, None, List, [], ◌∷◌, ◌++◌}
use Rattle.sh_types.specs.declared.code.Image.{Image}
use Rattle.sh_types.specs.declared.runs.Event.{Event}
use Rattle.sh_machines.specs.Pace.{Pace, pace_after, IsPaced}
use Rattle.shuf_machine.specs.Past.{Past}

abbrev pub image_in : Past → Image
image_in p = p.image

abbrev pub pace_of : Past → Pace
pace_of p = pace_after (image_in p) p.origin.input p.journal

-- more events
abbrev pub with_events : Past → List Event → Past
with_events p es = record { image = p.image; origin = p.origin; journal = p.journal ++ es }

-- of the events that were to come after p, these are still to come after q
pub record Still (p : Past) (events : List Event) (q : Past) (rest : List Event) : Type 0 where
  pub image : q.image ≡ p.image
  pub origin : q.origin ≡ p.origin
  pub is : q.journal ++ rest ≡ p.journal ++ events

-- the journal grew by the first of these events
pub record IsPart (events : List Event) (p q : Past) : Type 0 where
  pub rest : List Event
  pub still : Still p events q rest

-- the journal keeps pace with some period
pub record IsInPace (p : Past) : Type 0 where
  pub period : ℕ
  pub some : 1 ≤ period
  pub paced : IsPaced (image_in p) p.origin.input period p.journal

-- and its count is that of the next publication
pub record IsAtPublication (p : Past) : Type 0 where
  pub pace : IsInPace p
  pub count : (pace_of p).count ≡ pace.period * (pace_of p).newest

abbrev pub first_of : List ℕ → Option ℕ
first_of [] = None
first_of (n ∷ ns) = Some n
