-- SPDX-License-Identifier: Apache-2.0
-- Which instructions and which events may come next, by the unmoved machine and by where a journal's pace stands: there
-- are no layouts in it. This project's own.
use Rattle.std.specs.Prelude.{ℕ, ◌+◌, ◌==◌, ◌&&◌, nat_lt, Bool, true, false, not, List, [], ◌∷◌, replicate}
use Rattle.sh_types.specs.declared.code.Image.{Image}
use Rattle.sh_types.specs.declared.runs.Event.{Event}
use Rattle.sh_types.specs.declared.runs.Event.TheVariants.{Run, Migrate, Publish, Erase}
use Rattle.sh_machines.specs.Pace.{Pace, is_among, paced_on}
use Rattle.sh_machines.specs.Unmoved.{Unmoved, goes_still, can_go, unmoved_step}

-- each instruction is of a hart that is live where it stands, and the run has not ended before it
abbrev pub all_go : Image → List ℕ → Unmoved → Bool
all_go i [] u = true
all_go i (n ∷ ns) u = can_go u n && all_go i ns (unmoved_step i n u)

-- the list is empty
abbrev pub is_none : List ℕ → Bool
is_none [] = true
is_none (k ∷ ks) = false

-- A run of at least one instruction, each of which can go; a hart that is behind; the next layout, where the newest is
-- the only live one; the older layout, where no hart is behind.
abbrev pub may_come : Image → Event → Pace → Bool
may_come i (Run n k) b = nat_lt 0 k && all_go i (replicate k n) b.guest
may_come i (Migrate n) b = goes_still b.guest.end && is_among n b.behind
may_come i (Publish k) b = goes_still b.guest.end && (not b.older && (k == b.newest + 1))
may_come i (Erase k) b = goes_still b.guest.end && (b.older && ((k + 1 == b.newest) && is_none b.behind))

-- each event of a list may come where it stands
abbrev pub all_may : Image → List Event → Pace → Bool
all_may i [] b = true
all_may i (e ∷ es) b = may_come i e b && all_may i es (paced_on i e b)
