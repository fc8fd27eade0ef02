-- SPDX-License-Identifier: Apache-2.0
-- Who is on the newest layout, by the events and the unmoved machine alone, and when a journal is paced. This
-- project's own.
use Rattle.std.specs.Prelude.{◌≡◌, ℕ, ◌+◌, ◌-◌, ◌*◌, ◌==◌, ◌&&◌, nat_le, Bool, true, false, not, List, [], ◌∷◌, replicate, slice_get, if◌then◌else◌}
use Rattle.sh_types.specs.declared.code.Image.{Image}
use Rattle.sh_types.specs.declared.runs.Event.{Event}
use Rattle.sh_types.specs.declared.runs.Event.TheVariants.{Run, Migrate, Publish, Erase}
use Rattle.sh_machines.specs.Unmoved.{Thread, Unmoved, is_alive, unmoved_from, unmoved_start}

-- where a journal stands
pub record Pace : Type 0 where
  pub newest : ℕ
  pub older : Bool
  -- the harts that were live at the last publication and were not migrated since, in rising order
  pub behind : List ℕ
  pub count : ℕ
  pub guest : Unmoved

-- the numbers of the live harts, counted from n
abbrev pub live_from : ℕ → List Thread → List ℕ
live_from n [] = []
live_from n (t ∷ ts) = if t.live then n ∷ live_from (n + 1) ts else live_from (n + 1) ts

-- the list without a number
abbrev pub without : ℕ → List ℕ → List ℕ
without n [] = []
without n (k ∷ ks) = if k == n then ks else k ∷ without n ks

-- the list has the number
abbrev pub is_among : ℕ → List ℕ → Bool
is_among n [] = false
is_among n (k ∷ ks) = if k == n then true else is_among n ks

-- before the first event
abbrev pub opening_pace : Image → (input : List ℕ) → Pace
opening_pace i input = record { newest = 1; older = false; behind = []; count = 0; guest = unmoved_start i input }

-- where it stands after an event
abbrev pub paced_on : Image → Event → Pace → Pace
paced_on i (Run h k) b =
    record { newest = b.newest; older = b.older; behind = b.behind; count = b.count + k; guest = unmoved_from i (replicate k h) b.guest }
paced_on i (Migrate h) b = record { newest = b.newest; older = b.older; behind = without h b.behind; count = b.count; guest = b.guest }
paced_on i (Publish k) b = record { newest = k; older = true; behind = live_from 0 b.guest.threads; count = b.count; guest = b.guest }
paced_on i (Erase k) b = record { newest = b.newest; older = false; behind = b.behind; count = b.count; guest = b.guest }

-- where it stands after a list of events
abbrev pub followed : Image → List Event → Pace → Pace
followed i [] b = b
followed i (e ∷ es) b = followed i es (paced_on i e b)

-- A run is of a live hart on the newest layout and goes to the next publication's count at most; layout k comes at the
-- count (k - 1) * period. A live hart is on the newest layout where it was not live at the last publication, or was moved
-- since.
abbrev pub keeps_pace : ℕ → Event → Pace → Bool
keeps_pace period (Run h k) b =
    is_alive (slice_get b.guest.threads h) && (not (is_among h b.behind) && nat_le (b.count + k) (period * b.newest))
keeps_pace period (Migrate h) b = true
keeps_pace period (Publish k) b = b.count == period * (k - 1)
keeps_pace period (Erase k) b = true

-- each event of a list keeps pace where it stands
abbrev pub all_keep : Image → ℕ → List Event → Pace → Bool
all_keep i period [] b = true
all_keep i period (e ∷ es) b = keeps_pace period e b && all_keep i period es (paced_on i e b)

-- where a journal stands
unfoldable pub pace_after : Image → (input : List ℕ) → List Event → Pace
pace_after i input es = followed i es (opening_pace i input)

-- the journal is paced: layout k comes when (k - 1) * period instructions were executed, none is executed before the
-- layout that is due has come, no run goes past such a count, and each is of a live hart on the newest layout
unfoldable pub IsPaced : Image → (input : List ℕ) → (period : ℕ) → List Event → Type 0
IsPaced i input period es = all_keep i period es (opening_pace i input) ≡ true
