-- SPDX-License-Identifier: Apache-2.0
-- How what is still to come of the serial order shrinks, by a round.
use Rattle.std.proofs.Common.{◌≡◌, ℕ, zero, suc, ◌+◌, ◌-◌, ◌*◌, ◌≤◌, ◌<◌, Bool, true, false, List, [], ◌++◌, refl, sym, ap, ◌∙◌, subst, arith, append_assoc}
use Rattle.std.specs.Prelude.{if◌then◌else◌, ◌||◌, ◌==◌, not}
use Rattle.std.proofs.lemmas.Bool.Decides.{nat_tests}
use Rattle.sh_types.specs.declared.code.Image.{Image}
use Rattle.sh_types.specs.declared.runs.Event.{Event}
use Rattle.sh_types.specs.declared.runs.Event.TheVariants.{Run}
use Rattle.sh_machines.specs.Pace.{Pace, paced_on, followed}
use Rattle.sh_machines.specs.Serial.{Schedule, run_length, turn, turn_in, ready, next_hart, turn_limit, is_done, serial_in, serial_from}
use Rattle.sh_machines.specs.Unmoved.{goes_still, can_go}
use Rattle.pace_law.specs.Step.{InStep}
use Rattle.pace_law.proofs.Length.{length_few, length_some}
use Rattle.pace_law.proofs.Serials.{turn_goes, ready_goes, after_turn, turn_short, turn_few, turn_is, Readied, Turned}
use Rattle.shuf_machine.specs.Past.{Past}
use Rattle.hart_runner.specs.Standing.{image_in, pace_of, with_events, Still, IsPart}
use Rattle.hart_runner.proofs.Stills.{still_first, still_on, still_last, part_within, pace_then}
use Rattle.hart_runner.proofs.Turns.{turn_more}

pub record Serving (p : Past) (plan : Schedule) (es : List Event) (q : Past) (low : ℕ) : Type 0 where
  pub room : ℕ
  pub enough : plan.steps - (pace_of q).count ≤ room
  pub still : Still p es q (serial_in (image_in q) plan room low (pace_of q))
  pub step : InStep plan.period (pace_of q)
  pub few : (pace_of q).count ≤ plan.steps

pub serving_first : (p : Past) (plan : Schedule) → InStep plan.period (pace_of p) → (pace_of p).count ≤ plan.steps → Serving p plan (serial_from (image_in p) plan (pace_of p)) p 0
unfolding serial_from
serving_first p plan s f = record { room = plan.steps; enough = omega arith; still = still_first p (serial_in (image_in p) plan plan.steps 0 (pace_of p)); step = s; few = f }

serial_over : (i : Image) (plan : Schedule) (room low : ℕ) (b : Pace) → is_done plan b ≡ true → serial_in i plan room low b ≡ []
serial_over i plan zero low b d = refl
serial_over i plan (suc k) low b d =
    ap (λ x. if x then [] else (ready plan.period b ++ turn i (next_hart low (followed i (ready plan.period b) b).guest) (turn_limit plan (followed i (ready plan.period b) b).count) (followed i (ready plan.period b) b)) ++ serial_in i plan k (next_hart low (followed i (ready plan.period b) b).guest + 1) (followed i (turn i (next_hart low (followed i (ready plan.period b) b).guest) (turn_limit plan (followed i (ready plan.period b) b).count) (followed i (ready plan.period b) b)) (followed i (ready plan.period b) b))) d

pub served : (p q : Past) (plan : Schedule) (es : List Event) (low : ℕ) → Serving p plan es q low → is_done plan (pace_of q) ≡ true → q ≡ with_events p es
served p q plan es low s d = still_last p q es (subst (λ x. Still p es q x) (serial_over (image_in q) plan s.room low (pace_of q) d) s.still)

-- ---- one round

parts : (a b : Bool) → (not a || b) ≡ false → (a ≡ true) × (b ≡ false)
parts true b e = (refl, e)
parts false b e = absurd (cc)

pub going : (plan : Schedule) (b : Pace) → is_done plan b ≡ false → b.count ≤ plan.steps → (goes_still b.guest.end ≡ true) × (b.count < plan.steps)
going plan b d f =
    let q = parts (goes_still b.guest.end) (b.count == plan.steps) d in
    (q.0, grind (arith, nat_tests, q.1, f))

turn_grows : (i : Image) (p h room left : ℕ) (b : Pace) → b.behind ≡ [] → b.count + left ≤ p * b.newest → 1 ≤ left → left ≤ room → can_go b.guest h ≡ true → b.count < (followed i (turn_in i h room left b) b).count
turn_grows i p h room left b e m l k c =
    let n : ℕ = run_length i h left b.guest in
    let some : 1 ≤ n = length_some i h left b.guest l in
    let few : n ≤ left = length_few i h left b.guest in
    let b1 : Pace = paced_on i (Run h n) b in
    let m1 : b1.count + (left - n) ≤ p * b1.newest = omega (arith, m, few) in
    let t = (turn_goes i p h (room - 1) (left - n) b1 e m1).1.from in
    let q : b.count < (followed i (turn_in i h (room - 1) (left - n) b1) b1).count = omega (arith, t, some) in
    subst (λ x. b.count < (followed i x b).count) (sym (turn_more i h room left b l k c)) q

limit_some : (plan : Schedule) (c : ℕ) → 1 ≤ plan.period → 1 ≤ plan.quantum → c < plan.steps → 1 ≤ turn_limit plan c
limit_some plan c p q l = omega arith

abbrev round_of : Image → Schedule → ℕ → ℕ → ℕ → Pace → Pace → List Event
round_of i plan k h m b b1 = (ready plan.period b ++ turn i h m b1) ++ serial_in i plan k (h + 1) (followed i (turn i h m b1) b1)

serial_more : (i : Image) (plan : Schedule) (room low h m : ℕ) (b b1 : Pace) → is_done plan b ≡ false → 1 ≤ room → b1 ≡ followed i (ready plan.period b) b → h ≡ next_hart low b1.guest → m ≡ turn_limit plan b1.count → serial_in i plan room low b ≡ round_of i plan (room - 1) h m b b1
serial_more i plan zero low h m b b1 d l e f g = absurd (omega arith)
serial_more i plan (suc k) low h m b b1 d l e f g =
    let z : suc k - 1 ≡ k = omega arith in
    let c : Pace = followed i (ready plan.period b) b in
    let s0 : serial_in i plan (suc k) low b ≡ round_of i plan k (next_hart low c.guest) (turn_limit plan c.count) b c = ap (λ t. if t then [] else round_of i plan k (next_hart low c.guest) (turn_limit plan c.count) b c) d in
    let s1 : serial_in i plan (suc k) low b ≡ round_of i plan k (next_hart low b1.guest) (turn_limit plan b1.count) b b1 = subst (λ (x : Pace). serial_in i plan (suc k) low b ≡ round_of i plan k (next_hart low x.guest) (turn_limit plan x.count) b x) (sym e) s0 in
    let s2 : serial_in i plan (suc k) low b ≡ round_of i plan k h (turn_limit plan b1.count) b b1 = subst (λ x. serial_in i plan (suc k) low b ≡ round_of i plan k x (turn_limit plan b1.count) b b1) (sym f) s1 in
    let s3 : serial_in i plan (suc k) low b ≡ round_of i plan k h m b b1 = subst (λ x. serial_in i plan (suc k) low b ≡ round_of i plan k h x b b1) (sym g) s2 in
    subst (λ x. serial_in i plan (suc k) low b ≡ round_of i plan x h m b b1) (sym z) s3

pub record Served (p : Past) (plan : Schedule) (es : List Event) (q q' : Past) (low : ℕ) : Type 0 where
  pub serving : Serving p plan es q' low
  pub more : (pace_of q).count < (pace_of q').count

pub serving_on : (p q r q' : Past) (plan : Schedule) (es : List Event) (low h m : ℕ) → Serving p plan es q low → 1 ≤ plan.period → 1 ≤ plan.quantum → is_done plan (pace_of q) ≡ false → r ≡ with_events q (ready plan.period (pace_of q)) → h ≡ next_hart low (pace_of r).guest → m ≡ turn_limit plan (pace_of r).count → can_go (pace_of r).guest h ≡ true → q' ≡ with_events r (turn (image_in r) h m (pace_of r)) → Served p plan es q q' (h + 1)
serving_on p q r q' plan es low h m s pp qq d er eh em can eq =
    let i : Image = (image_in q) in
    let b : Pace = pace_of q in
    let b1 : Pace = pace_of r in
    let b2 : Pace = pace_of q' in
    let ir : (image_in r) ≡ i = ap (λ (x : Past). image_in x) er in
    let e1 : b1 ≡ followed i (ready plan.period b) b = pace_then q r (ready plan.period b) er in
    let iq : (image_in q') ≡ i = ap (λ (x : Past). image_in x) eq ∙ ir in
    let eq2 : q' ≡ with_events r (turn i h m b1) = subst (λ x. q' ≡ with_events r (turn x h m b1)) ir eq in
    let e2 : b2 ≡ followed i (turn i h m b1) b1 = subst (λ x. b2 ≡ followed x (turn i h m b1) b1) ir (pace_then r q' (turn i h m b1) eq2) in
    let g = going plan b d s.few in
    let low_count : b.count < plan.steps = g.1 in
    let enough = s.enough in
    let one : 1 ≤ s.room = omega (arith, enough, low_count) in
    let f : serial_in i plan s.room low b ≡ round_of i plan (s.room - 1) h m b b1 = serial_more i plan s.room low h m b b1 d one e1 eh em in
    let s0 : Still p es q (round_of i plan (s.room - 1) h m b b1) = subst (λ x. Still p es q x) f s.still in
    let rest : List Event = serial_in i plan (s.room - 1) (h + 1) (followed i (turn i h m b1) b1) in
    let s1 : Still p es q (ready plan.period b ++ (turn i h m b1 ++ rest)) = subst (λ x. Still p es q x) (append_assoc (ready plan.period b) (turn i h m b1) rest) s0 in
    let s2 = still_on p q r es (ready plan.period b) (turn i h m b1 ++ rest) s1 er in
    let s3 : Still p es q' rest = still_on p r q' es (turn i h m b1) rest s2 eq2 in
    let rd : Readied plan.period b b1 = subst (Readied plan.period b) (sym e1) (ready_goes i plan.period b pp s.step).1 in
    let room : b1.count + m ≤ plan.period * b1.newest = subst (λ x. b1.count + x ≤ plan.period * b1.newest) (sym em) (turn_short plan b1.count (plan.period * b1.newest) rd.room) in
    let ti = turn_is i h m b1 in
    let e3 : b2 ≡ followed i (turn_in i h m m b1) b1 = subst (λ x. b2 ≡ followed i x b1) ti e2 in
    let tu : Turned i plan.period m b1 b2 = subst (Turned i plan.period m b1) (sym e3) (turn_goes i plan.period h m m b1 rd.behind room).1 in
    let c1 : b1.count < plan.steps = omega (arith, rd.count, low_count) in
    let some : 1 ≤ m = omega (arith, em, limit_some plan b1.count pp qq c1) in
    let grow : b1.count < b2.count = subst (λ (x : Pace). b1.count < x.count) (sym e3) (turn_grows i plan.period h m m b1 rd.behind room some (omega arith) can) in
    let few : b2.count ≤ plan.steps = omega (arith, tu.few, em, turn_few plan b1.count (omega (arith, c1))) in
    record {
      serving = record {
        room = s.room - 1;
        enough = omega (arith, enough, grow, rd.count, low_count);
        still = subst (λ x. Still p es q' (serial_in x plan (s.room - 1) (h + 1) b2)) (sym iq) (subst (λ x. Still p es q' (serial_in i plan (s.room - 1) (h + 1) x)) (sym e2) s3);
        step = after_turn i plan.period m b1 b2 rd.step room tu;
        few = few;
      };
      more = omega (arith, grow, rd.count);
    }

-- memory ran out while the machine was made ready
pub serving_broken : (p q r : Past) (plan : Schedule) (es : List Event) (low : ℕ) → Serving p plan es q low → is_done plan (pace_of q) ≡ false → IsPart (ready plan.period (pace_of q)) q r → IsPart es p r
serving_broken p q r plan es low s d t =
    let i : Image = (image_in q) in
    let b : Pace = pace_of q in
    let b1 : Pace = followed i (ready plan.period b) b in
    let enough = s.enough in
    let g = going plan b d s.few in
    let one : 1 ≤ s.room = omega (arith, enough, g.1) in
    let f = serial_more i plan s.room low (next_hart low b1.guest) (turn_limit plan b1.count) b b1 d one refl refl refl in
    let s0 : Still p es q (round_of i plan (s.room - 1) (next_hart low b1.guest) (turn_limit plan b1.count) b b1) = subst (λ x. Still p es q x) f s.still in
    let tn : List Event = turn i (next_hart low b1.guest) (turn_limit plan b1.count) b1 in
    let rest : List Event = serial_in i plan (s.room - 1) (next_hart low b1.guest + 1) (followed i tn b1) in
    part_within p q r es (ready plan.period b) (tn ++ rest) (subst (λ x. Still p es q x) (append_assoc (ready plan.period b) tn rest) s0) t

-- memory ran out within a turn
pub serving_cut : (p q r q' : Past) (plan : Schedule) (es : List Event) (low h m : ℕ) → Serving p plan es q low → is_done plan (pace_of q) ≡ false → r ≡ with_events q (ready plan.period (pace_of q)) → h ≡ next_hart low (pace_of r).guest → m ≡ turn_limit plan (pace_of r).count → IsPart (turn (image_in r) h m (pace_of r)) r q' → IsPart es p q'
serving_cut p q r q' plan es low h m s d er eh em t =
    let i : Image = (image_in q) in
    let b : Pace = pace_of q in
    let b1 : Pace = pace_of r in
    let ir : (image_in r) ≡ i = ap (λ (x : Past). image_in x) er in
    let e1 : b1 ≡ followed i (ready plan.period b) b = pace_then q r (ready plan.period b) er in
    let enough = s.enough in
    let g = going plan b d s.few in
    let one : 1 ≤ s.room = omega (arith, enough, g.1) in
    let s0 : Still p es q (round_of i plan (s.room - 1) h m b b1) = subst (λ x. Still p es q x) (serial_more i plan s.room low h m b b1 d one e1 eh em) s.still in
    let rest : List Event = serial_in i plan (s.room - 1) (h + 1) (followed i (turn i h m b1) b1) in
    let s1 = subst (λ x. Still p es q x) (append_assoc (ready plan.period b) (turn i h m b1) rest) s0 in
    part_within p r q' es (turn i h m b1) rest (still_on p q r es (ready plan.period b) (turn i h m b1 ++ rest) s1 er) (subst (λ x. IsPart (turn x h m b1) r q') ir t)
