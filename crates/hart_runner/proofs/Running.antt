-- SPDX-License-Identifier: Apache-2.0
-- The serial order from where a machine stands: what is still to come, and that the journal keeps pace.
use Rattle.std.proofs.Common.{◌≡◌, ℕ, ◌+◌, ◌-◌, ◌*◌, ◌^◌, ◌≤◌, ◌<◌, true, false, List, sym, ap, ◌∙◌, subst, arith, mul-le-mul_right}
use Rattle.sh_types.specs.declared.runs.Event.{Event}
use Rattle.sh_machines.specs.Fine.{IsSetting}
use Rattle.sh_machines.specs.Pace.{all_keep, IsPaced}
use Rattle.sh_machines.specs.Serial.{Schedule, turn, ready, next_hart, turn_limit, is_done, serial_from}
use Rattle.sh_machines.specs.Unmoved.{Unmoved, goes_still, can_go}
use Rattle.sh_law.specs.Paced.{StandsPaced}
use Rattle.sh_law.proofs.Ciphers.{is_cipher}
use Rattle.sh_law.proofs.Pacing.{paced_stands}
use Rattle.pace_law.specs.Step.{InStep}
use Rattle.pace_law.proofs.Periods.{serial_paced}
use Rattle.pace_law.proofs.Serials.{turn_goes, ready_goes, turn_short, turn_few, turn_is, Readied}
use Rattle.shuf_machine.specs.Past.{Past, state_of}
use Rattle.shuf_machine.specs.Run.{setting_of, IsLegal}
use Rattle.hart_runner.specs.Standing.{image_in, pace_of, with_events, IsPart}
use Rattle.hart_runner.proofs.Behind.{journal_paces}
use Rattle.hart_runner.proofs.Boundaries.{paced_then}
use Rattle.hart_runner.proofs.Rounds.{Serving, serving_first, serving_on, going}
use Rattle.hart_runner.proofs.Stills.{pace_then}

abbrev pub KeepsPace : ℕ → Past → Type 0
KeepsPace period p = IsPaced (image_in p) p.origin.input period p.journal

-- the events from where the machine stands
abbrev pub all_of : Schedule → Past → List Event
all_of s p = serial_from (image_in p) s (pace_of p)

-- where a machine may begin
pub record Begins (s : Schedule) (p : Past) : Type 0 where
  pub step : InStep s.period (pace_of p)
  pub few : (pace_of p).count ≤ s.steps

pub begins : (s : Schedule) (p : Past) → IsSetting (setting_of p.image p.origin) → IsLegal p.image p.origin p.journal → KeepsPace s.period p → (state_of p).count ≤ s.steps → Begins s p
begins s p set legal k f =
    let stands : StandsPaced (state_of p) (pace_of p) = paced_stands is_cipher (setting_of p.image p.origin) set s.period p.journal legal k in
    record { step = (journal_paces (setting_of p.image p.origin) s.period p.journal set legal k).step; few = omega (arith, stands.count, f) }

pub record Running (s : Schedule) (p q : Past) (low : ℕ) : Type 0 where
  pub serving : Serving p s (all_of s p) q low
  pub paced : KeepsPace s.period q

pub running_first : (s : Schedule) (p : Past) → KeepsPace s.period p → Begins s p → Running s p p 0
running_first s p k b = record { serving = serving_first p s b.step b.few; paced = k }

keeps_then : (period : ℕ) (p q : Past) (es : List Event) → KeepsPace period p → all_keep (image_in p) period es (pace_of p) ≡ true → q ≡ with_events p es → KeepsPace period q
keeps_then period p q es k l e = subst (KeepsPace period) (sym e) (paced_then (image_in p) p.origin.input period p.journal es k l)

-- before a round: the run goes on, and the numbers of layouts are small
pub record Ready (s : Schedule) (q : Past) : Type 0 where
  pub goes : goes_still (pace_of q).guest.end ≡ true
  pub room : (pace_of q).newest < 2 ^ 64 - 1

newest_few : (period count newest : ℕ) → 1 ≤ period → period * (newest - 1) ≤ count → newest ≤ count + 1
newest_few period count newest l m =
    let t : 1 * (newest - 1) ≤ period * (newest - 1) = mul-le-mul_right (newest - 1) l in
    omega (arith, t, m)

pub round_ready : (s : Schedule) (p q : Past) (low : ℕ) → Running s p q low → 1 ≤ s.period → s.steps < 2 ^ 63 → is_done s (pace_of q) ≡ false → Ready s q
round_ready s p q low v l small d =
    let g = going s (pace_of q) d v.serving.few in
    let few = newest_few s.period (pace_of q).count (pace_of q).newest l v.serving.step.from in
    record { goes = g.0; room = omega (arith, few, g.1, small) }

-- between what comes before a turn and the turn
pub record Turned (s : Schedule) (r : Past) : Type 0 where
  pub goes : goes_still (pace_of r).guest.end ≡ true
  pub few : (pace_of r).count ≤ s.steps
  pub paced : KeepsPace s.period r
  pub room : (pace_of r).count + turn_limit s (pace_of r).count < 2 ^ 64

pub made_ready : (s : Schedule) (p q r : Past) (low : ℕ) → Running s p q low → 1 ≤ s.period → s.steps < 2 ^ 63 → is_done s (pace_of q) ≡ false → r ≡ with_events q (ready s.period (pace_of q)) → Turned s r
made_ready s p q r low v l small d e =
    let rg = ready_goes (image_in q) s.period (pace_of q) l v.serving.step in
    let rd : Readied s.period (pace_of q) (pace_of r) = subst (Readied s.period (pace_of q)) (sym (pace_then q r (ready s.period (pace_of q)) e)) rg.1 in
    let g = going s (pace_of q) d v.serving.few in
    let few : (pace_of r).count ≤ s.steps = omega (arith, rd.count, v.serving.few) in
    record {
      goes = ap (λ (u : Unmoved). goes_still u.end) rd.guest ∙ g.0;
      few = few;
      paced = keeps_then s.period q r (ready s.period (pace_of q)) v.paced rg.0 e;
      room = omega (arith, turn_few s (pace_of r).count few, small);
    }

pub record Round (s : Schedule) (p q q' : Past) (low : ℕ) : Type 0 where
  pub running : Running s p q' low
  pub more : (pace_of q).count < (pace_of q').count

pub running_on : (s : Schedule) (p q r q' : Past) (low h m : ℕ) → Running s p q low → 1 ≤ s.period → 1 ≤ s.quantum → s.steps < 2 ^ 63 → is_done s (pace_of q) ≡ false → r ≡ with_events q (ready s.period (pace_of q)) → h ≡ next_hart low (pace_of r).guest → m ≡ turn_limit s (pace_of r).count → can_go (pace_of r).guest h ≡ true → q' ≡ with_events r (turn (image_in r) h m (pace_of r)) → Round s p q q' (h + 1)
running_on s p q r q' low h m v l qq small d er eh em can eq =
    let sv = serving_on p q r q' s (all_of s p) low h m v.serving l qq d er eh em can eq in
    let t = made_ready s p q r low v l small d er in
    let rd : Readied s.period (pace_of q) (pace_of r) = subst (Readied s.period (pace_of q)) (sym (pace_then q r (ready s.period (pace_of q)) er)) (ready_goes (image_in q) s.period (pace_of q) l v.serving.step).1 in
    let room : (pace_of r).count + m ≤ s.period * (pace_of r).newest = subst (λ x. (pace_of r).count + x ≤ s.period * (pace_of r).newest) (sym em) (turn_short s (pace_of r).count (s.period * (pace_of r).newest) rd.room) in
    let k : all_keep (image_in r) s.period (turn (image_in r) h m (pace_of r)) (pace_of r) ≡ true = subst (λ x. all_keep (image_in r) s.period x (pace_of r) ≡ true) (sym (turn_is (image_in r) h m (pace_of r))) (turn_goes (image_in r) s.period h m m (pace_of r) rd.behind room).0 in
    record { running = record { serving = sv.serving; paced = keeps_then s.period r q' (turn (image_in r) h m (pace_of r)) t.paced k eq }; more = sv.more }

-- cut anywhere, the journal keeps pace
pub cut_paced : (s : Schedule) (p q : Past) → KeepsPace s.period p → 1 ≤ s.period → Begins s p → IsPart (all_of s p) p q → KeepsPace s.period q
cut_paced s p q k l b w =
    let j : IsPaced (image_in p) p.origin.input s.period q.journal = serial_paced (image_in p) p.origin.input s p.journal q.journal w.rest k l b.step b.few w.still.is in
    subst (λ i. KeepsPace s.period (record { image = i; origin = q.origin; journal = q.journal })) (sym w.still.image)
    (subst (λ o. KeepsPace s.period (record { image = p.image; origin = o; journal = q.journal })) (sym w.still.origin) j)
