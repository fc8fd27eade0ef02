-- SPDX-License-Identifier: Apache-2.0
-- What it says that a hart can go.
use Rattle.std.proofs.Common.{◌≡◌, ℕ, zero, suc, Bool, true, false, Option, Some, None, List, [], ◌∷◌, refl, sym, ap, ◌∙◌}
use Rattle.std.specs.Prelude.{slice_get, ◌&&◌}
use Rattle.sh_types.specs.declared.runs.End.{End}
use Rattle.sh_machines.specs.Unmoved as unmoved
use Rattle.sh_machines.specs.Unmoved.{Unmoved, goes_still, is_alive, can_go}
use Rattle.thread_acts.specs.Done.{meant}
use Rattle.thread_acts.specs.declared.threads.Thread.{Thread}
use Rattle.pace_law.proofs.Bools.{and_first, and_second, both_true}
use Rattle.ref_machine.specs.declared.state.State.{State}
use Rattle.ref_machine.specs.Meant.{threads_of, is_live, goes}

pub lives : (ts : List Thread) (n : ℕ) → is_alive (slice_get (threads_of ts) n) ≡ is_live (slice_get ts n)
lives [] n = refl
lives (x ∷ ts) zero = refl
lives (x ∷ ts) (suc n) = lives ts n

still : (e : Option End) → goes_still e ≡ true → e ≡ None
still None h = refl
still (Some e) h = absurd (cc)

live_at : (x : Option Thread) → is_live x ≡ true → (t : Thread) × (x ≡ Some t) × (t.live ≡ true)
live_at None e = absurd (cc)
live_at (Some t) e = (t, refl, e)

pub goes_end : (s : State) (n : ℕ) → goes s n ≡ true → s.end ≡ None
goes_end s n g = still s.end (and_first _ _ g)

pub goes_there : (s : State) (n : ℕ) → goes s n ≡ true → (t : Thread) × (slice_get s.threads.items n ≡ Some t) × (t.live ≡ true)
goes_there s n g = live_at (slice_get s.threads.items n) (sym (lives s.threads.items n) ∙ and_second (goes_still s.end) _ g)

-- ---- by the unmoved machine

alive_at : (x : Option unmoved.Thread) → is_alive x ≡ true → (t : unmoved.Thread) × (x ≡ Some t) × (t.live ≡ true)
alive_at None e = absurd (cc)
alive_at (Some t) e = (t, refl, e)

pub can_there : (u : Unmoved) (n : ℕ) → can_go u n ≡ true → (t : unmoved.Thread) × (slice_get u.threads n ≡ Some t) × (t.live ≡ true)
can_there u n g = alive_at (slice_get u.threads n) (and_second (goes_still u.end) _ g)

pub can_of : (u : Unmoved) (n : ℕ) (t : unmoved.Thread) → u.end ≡ None → slice_get u.threads n ≡ Some t → t.live ≡ true → can_go u n ≡ true
can_of u n t e g l = both_true _ _ (ap goes_still e) (ap is_alive g ∙ l)
