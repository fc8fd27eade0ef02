-- SPDX-License-Identifier: Apache-2.0
-- A Run event, in the journal.
use Rattle.std.proofs.Common.{◌≡◌, ℕ, Bool, true, false, Option, Some, None, List, [], ◌∷◌, ◌++◌, refl, sym, ◌∙◌, subst}
use Rattle.std.specs.Prelude.{slice_get, ◌&&◌, if◌then◌else◌}
use Rattle.sh_types.specs.declared.runs.End.{End}
use Rattle.sh_types.specs.declared.runs.Event.{Event}
use Rattle.sh_types.specs.declared.runs.Event.TheVariants.{Run}
use Rattle.sh_types.specs.declared.runs.Hart.{Hart}
use Rattle.sh_machines.specs.Event.{can_run, can_all, is_live, Allowed, state_after, IsLegalIn, written}
use Rattle.sh_machines.specs.Fine.{IsSetting}
use Rattle.sh_machines.specs.Serial.{run_length}
use Rattle.sh_machines.specs.Shuffled.{Setting, Shuffled}
use Rattle.sh_machines.specs.Unmoved.{goes_still, unmoved_run}
use Rattle.sh_law.specs.Length.{IsWhole}
use Rattle.hart_turns.specs.declared.state.State.{State}
use Rattle.hart_turns.specs.Meant.{IsMapped}
use Rattle.hart_turns.specs.Next.{IsReached}
use Rattle.hart_turns.specs.Ran.{IsRun}
use Rattle.hart_turns.proofs.Steps.{run_allowed}
use Rattle.shuf_machine.specs.declared.answers.No.TheVariants.{NoHart}
use Rattle.shuf_machine.specs.declared.code.Code.{Code}
use Rattle.shuf_machine.specs.Meant.{meant, IsMachine}
use Rattle.shuf_machine.specs.Refusal.{unless_ended, live_no, run_no}
use Rattle.shuf_machine.specs.Run.{setting_of, shuffled_run}
use Rattle.shuf_machine.proofs.Journal.{machine_more}

-- ---- where there is no reason against it the hart can run

live_by : (n : ℕ) (x : Option Hart) → live_no n x ≡ None → is_live x ≡ true
live_by n None h = absurd (cc)
live_by n (Some t) h = by t.live h
  where
    by : (b : Bool) → (if b then None else Some (NoHart n)) ≡ None → b ≡ true
    by true q = refl
    by false q = absurd (cc)

run_by : (n : ℕ) (e : Option End) (x : Option Hart) → unless_ended e (live_no n x) ≡ None → (goes_still e && is_live x) ≡ true
run_by n (Some e) x h = absurd (cc)
run_by n None x h = live_by n x h

pub can_run_on : (s : Shuffled) (n : ℕ) → run_no s n ≡ None → can_run s n ≡ true
can_run_on s n h = run_by n s.end (slice_get s.harts n) h

-- ---- the machine and its journal

pub reached_by : (c : Code) (s : State) (j : List Event) → IsMachine c s j → IsReached (setting_of c.image c.origin) (meant c s)
reached_by c s j m = record { events = j; legal = m.legal; state = m.state }

-- nothing has changed
pub machine_same : (c : Code) (s s' : State) (j j' : List Event) → IsMachine c s j → meant c s' ≡ meant c s → IsMapped c.image s'.memory → j' ≡ j → IsMachine c s' j'
machine_same c s s' j j' m e mapped ej =
    subst (IsMachine c s') (sym ej) (record { code = m.code; mapped = mapped; legal = m.legal; state = e ∙ m.state })

pub run_is_allowed : (c : Code) (s : State) (s' : Shuffled) (j : List Event) (n limit k : ℕ) → IsMachine c s j → IsRun (setting_of c.image c.origin) n limit k (meant c s) s' → Allowed (setting_of c.image c.origin) (Run n k) (shuffled_run c.image c.origin j)
run_is_allowed c s s' j n limit k m r =
    let o = setting_of c.image c.origin in
    run_allowed o n k (shuffled_run c.image c.origin j) r.whole.some (subst (λ x. can_all o n k x ≡ true) m.state r.whole.all)

pub machine_ran : (c : Code) (s s' : State) (j j' : List Event) (n limit k : ℕ) → IsMachine c s j → IsRun (setting_of c.image c.origin) n limit k (meant c s) (meant c s') → IsMapped c.image s'.memory → j' ≡ j ++ Run n k ∷ [] → IsMachine c s' j'
machine_ran c s s' j j' n limit k m r mapped e =
    machine_more c c s s' j j' (Run n k) m refl refl m.code mapped (run_is_allowed c s (meant c s') j n limit k m r) r.state e

pub run_between : (c : Code) (s s' : State) (j j' : List Event) (n limit k : ℕ) → IsMachine c s j → IsMachine c s' j' → IsRun (setting_of c.image c.origin) n limit k (meant c s) (meant c s') → IsRun (setting_of c.image c.origin) n limit k (shuffled_run c.image c.origin j) (shuffled_run c.image c.origin j')
run_between c s s' j j' n limit k m m' r =
    subst (λ x. IsRun (setting_of c.image c.origin) n limit k x (shuffled_run c.image c.origin j')) m.state (subst (IsRun (setting_of c.image c.origin) n limit k (meant c s)) m'.state r)

-- how long the law says that an event is
abbrev pub LengthLaw : Type 0
LengthLaw = (o : Setting) (events : List Event) (n limit k : ℕ) → IsSetting o → IsLegalIn o events → IsWhole o n limit k (state_after o events) → k ≡ run_length o.image n limit (unmoved_run o.image o.input (written events))

-- as many instructions as the unmoved machine says
pub length_is : LengthLaw → (c : Code) (s : State) (s' : Shuffled) (j : List Event) (n limit k : ℕ) → IsMachine c s j → IsRun (setting_of c.image c.origin) n limit k (meant c s) s' → k ≡ run_length c.image n limit (unmoved_run c.image c.origin.input (written j))
length_is law c s s' j n limit k m r =
    law (setting_of c.image c.origin) j n limit k m.code.setting m.legal (subst (IsWhole (setting_of c.image c.origin) n limit k) m.state r.whole)
