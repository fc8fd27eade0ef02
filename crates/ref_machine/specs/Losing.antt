-- SPDX-License-Identifier: Apache-2.0
-- Reservations that a store takes from other harts, as the code does it. This project's own.
use Rattle.std.specs.Prelude.{ℕ, ◌==◌, ◌&&◌, ◌||◌, not, Bool, false, List, [], ◌∷◌, is_some, if◌then◌else◌}
use Rattle.sh_types.specs.declared.runs.Stored.{Stored}
use Rattle.sh_machines.specs.Need.{kept_from}
use Rattle.sh_machines.specs.Unmoved as unmoved
use Rattle.thread_acts.specs.declared.threads.Thread.{Thread}

-- the hart once another one, with this number, has stored
abbrev pub loses : ℕ → Stored → Thread → Thread
loses n s t =
    if t.number == n then t
    else record { number = t.number; live = t.live; code = t.code; at = t.at; regs = t.regs; ra = t.ra; reserved = kept_from s t.reserved }

-- another hart than this one holds a reservation
abbrev pub any_reserved : ℕ → List unmoved.Thread → Bool
any_reserved n [] = false
any_reserved n (t ∷ ts) = (not (t.number == n) && is_some t.reserved) || any_reserved n ts
