-- SPDX-License-Identifier: Apache-2.0
-- Instructions that end a hart or the run.
use Rattle.std.proofs.Common.{◌≡◌, ℕ, Bool, true, false, Some, refl, sym, ap, ◌∙◌, subst}
use Rattle.std.specs.Prelude.{slice_get, slice_set, ◌&&◌}
use Rattle.sh_types.specs.declared.runs.Hart.{Hart}
use Rattle.sh_machines.specs.Event.{is_live, can_run}
use Rattle.sh_machines.specs.Need.{Outcome}
use Rattle.sh_machines.specs.Shuffled.{Setting, Owned, Shuffled, after, ended_hart, hart_ends}
use Rattle.sh_law.specs.Length.{is_calls}
use Rattle.hart_turns.specs.Next.{next_outcome, IsStopped}
use Rattle.hart_turns.proofs.Reservations.{get_set}
use Rattle.hart_turns.proofs.Next.{calls_are, done_by}

and_false : (a b : Bool) → b ≡ false → (a && b) ≡ false
and_false true b e = e
and_false false b e = refl

pub ended_cannot : (s : Shuffled) (n : ℕ) (h : Hart) (code : ℕ) → slice_get s.harts n ≡ Some h → can_run (hart_ends s n h code) n ≡ false
ended_cannot s n h code e = and_false _ (is_live (slice_get (slice_set s.harts n (ended_hart h code)) n)) (ap is_live (get_set s.harts n h (ended_hart h code) e))

pub stopped_by : (o : Setting) (n : ℕ) (s s' : Shuffled) (h : Hart) (x : Outcome Hart Owned) → slice_get s.harts n ≡ Some h → next_outcome o n s ≡ x → is_calls x ≡ false → can_run (after o s n h x) n ≡ false → s' ≡ after o s n h x → IsStopped o n s s'
stopped_by o n s s' h x e ex quiet cannot es =
    record {
      quiet = calls_are o n s ∙ ap is_calls ex ∙ quiet;
      step = done_by o n s s' h x e ex es;
      cannot = subst (λ y. can_run y n ≡ false) (sym es) cannot;
    }
