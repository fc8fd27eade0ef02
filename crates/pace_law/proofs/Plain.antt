-- SPDX-License-Identifier: Apache-2.0
-- The serial order without layouts.
use Rattle.std.proofs.Common.{◌≡◌, ℕ, zero, suc, ◌+◌, ◌-◌, ◌%◌, ◌==◌, ◌||◌, ◌≤◌, ◌<◌, Bool, true, false, not, List, [], ◌∷◌, ◌++◌, length, replicate, min, refl, sym, ap, ◌∙◌, subst, arith, length-append}
use Rattle.std.specs.Prelude.{if◌then◌else◌}
use Rattle.std.proofs.lemmas.Bool.Decides.{nat_tests}
use Rattle.std.proofs.lemmas.List.{length-replicate}
use Rattle.std.proofs.Math.Nat.{div-add-mod}
use Rattle.sh_types.specs.declared.code.Image.{Image}
use Rattle.sh_types.specs.declared.runs.Event.{Event}
use Rattle.sh_machines.specs.Event.{written}
use Rattle.sh_machines.specs.Next.{all_go}
use Rattle.sh_machines.specs.Pace.{Pace, opening_pace}
use Rattle.sh_machines.specs.PlainSerial.{Turn, goes_for, written_turn, written_turns, is_over, next_turn, turns_in, plain_turns, plain_list}
use Rattle.sh_machines.specs.Serial.{Schedule, is_done, ready, next_hart, turn_limit, serial_in, serial_from, serial_list}
use Rattle.sh_machines.specs.Unmoved.{Unmoved, goes_still, unmoved_step, unmoved_from, unmoved_start, unmoved_run}
use Rattle.sh_law.proofs.Whole.{run_append}
use Rattle.pace_law.specs.Plainly.{AreWithin}
use Rattle.pace_law.specs.Step.{InStep}
use Rattle.pace_law.proofs.Alive.{StillLive, from_live, start_live}
use Rattle.pace_law.proofs.Bools.{and_first, and_second, both_true}
use Rattle.pace_law.proofs.Rounds.{written_append, readied, turn_now, after_round, round_count, Round, round_goes}
use Rattle.pace_law.proofs.Turning.{goes_all, goes_few, goes_some, goes_within, next_goes}
use Rattle.pace_law.proofs.Whole.{opens}

-- ---- what every such list is

pub go_append : (i : Image) (ms ns : List ℕ) (u : Unmoved) → all_go i ms u ≡ true → all_go i ns (unmoved_from i ms u) ≡ true → all_go i (ms ++ ns) u ≡ true
go_append i [] ns u k l = l
go_append i (m ∷ ms) ns u k l = both_true _ _ (and_first _ _ k) (go_append i ms ns (unmoved_step i m u) (and_second _ _ k) l)

-- where a turn is as it is, and how far it leads
abbrev turn_of : Image → (q steps low count : ℕ) → Unmoved → ℕ
turn_of i q steps low count u = goes_for i (next_hart low u) (min q (steps - count)) u

turns_go : (i : Image) (q steps k low count : ℕ) (u : Unmoved) → all_go i (written_turns (turns_in i q steps k low count u)) u ≡ true
turns_go i q steps zero low count u = refl
turns_go i q steps (suc k) low count u =
    let t : Turn = next_turn i q steps low count u in
    let v : Unmoved = unmoved_from i (written_turn t) u in
    by (is_over steps count u) (go_append i (written_turn t) (written_turns (turns_in i q steps k (t.hart + 1) (count + t.count) v)) u (goes_all i t.hart (min q (steps - count)) u) (turns_go i q steps k (t.hart + 1) (count + t.count) v))
  where
    by : (b : Bool) → all_go i (written_turns (next_turn i q steps low count u ∷ turns_in i q steps k ((next_turn i q steps low count u).hart + 1) (count + (next_turn i q steps low count u).count) (unmoved_from i (written_turn (next_turn i q steps low count u)) u))) u ≡ true → all_go i (written_turns (if b then [] else next_turn i q steps low count u ∷ turns_in i q steps k ((next_turn i q steps low count u).hart + 1) (count + (next_turn i q steps low count u).count) (unmoved_from i (written_turn (next_turn i q steps low count u)) u))) u ≡ true
    by true e = refl
    by false e = e

-- a run that is over is so by its end or by its count
over_still : (steps count : ℕ) (u : Unmoved) → is_over steps count u ≡ false → goes_still u.end ≡ true
over_still steps count u e = by (goes_still u.end) e
  where
    by : (x : Bool) → (not x || (count == steps)) ≡ false → x ≡ true
    by true e = refl
    by false e = absurd (cc)

over_all : (steps count : ℕ) (u : Unmoved) → is_over steps count u ≡ true → goes_still u.end ≡ true → count ≡ steps
over_all steps count u e g = let q : (count == steps) ≡ true = ap (λ x. not x || (count == steps)) (sym g) ∙ e in grind (arith, nat_tests)

over_fewer : (steps count : ℕ) (u : Unmoved) → is_over steps count u ≡ false → count ≤ steps → count < steps
over_fewer steps count u e l = by (count == steps) refl
  where
    or_true : (x : Bool) → (x || true) ≡ true
    or_true true = refl
    or_true false = refl

    by : (x : Bool) → (count == steps) ≡ x → count < steps
    by true q = let c : true ≡ false = sym (ap (λ x. not (goes_still u.end) || x) q ∙ or_true (not (goes_still u.end))) ∙ e in absurd (cc)
    by false q = grind (arith, nat_tests)

-- what a list of turns comes to
pub record Through (i : Image) (q steps k count : ℕ) (u : Unmoved) (ns : List ℕ) : Type 0 where
  pub few : count + length ns ≤ steps
  pub full : 1 ≤ q → StillLive u → steps - count ≤ k → goes_still (unmoved_from i ns u).end ≡ true → count + length ns ≡ steps

turns_through : (i : Image) (q steps k low count : ℕ) (u : Unmoved) → count ≤ steps → Through i q steps k count u (written_turns (turns_in i q steps k low count u))
turns_through i q steps zero low count u l = record { few = omega (arith, l); full = λ some live m g. omega (arith, l, m) }
turns_through i q steps (suc k) low count u l =
    let t : Turn = next_turn i q steps low count u in
    let v : Unmoved = unmoved_from i (written_turn t) u in
    let f : t.count ≤ min q (steps - count) = goes_few i t.hart (min q (steps - count)) u in
    by (is_over steps count u) refl (turns_through i q steps k (t.hart + 1) (count + t.count) v (omega (arith, f, l)))
  where
    rest : List ℕ
    rest = written_turns (turns_in i q steps k (next_hart low u + 1) (count + turn_of i q steps low count u) (unmoved_from i (replicate (turn_of i q steps low count u) (next_hart low u)) u))

    by : (b : Bool) → is_over steps count u ≡ b
        → Through i q steps k (count + turn_of i q steps low count u) (unmoved_from i (replicate (turn_of i q steps low count u) (next_hart low u)) u) rest
        → Through i q steps (suc k) count u (written_turns (if b then [] else next_turn i q steps low count u ∷ turns_in i q steps k (next_hart low u + 1) (count + turn_of i q steps low count u) (unmoved_from i (replicate (turn_of i q steps low count u) (next_hart low u)) u)))
    by true e r = record { few = omega (arith, l); full = λ some live m g. omega (arith, over_all steps count u e g) }
    by false e r =
        let many : length (replicate (turn_of i q steps low count u) (next_hart low u) ++ rest) ≡ turn_of i q steps low count u + length rest =
        length-append (replicate (turn_of i q steps low count u) (next_hart low u)) rest ∙ ap (λ n. n + length rest) (length-replicate (turn_of i q steps low count u) (next_hart low u)) in
        record {
          few = omega (arith, many, r.few);
          full = λ some live m g.
              let less : count < steps = over_fewer steps count u e l in
              let one : 1 ≤ turn_of i q steps low count u = goes_some i (next_hart low u) (min q (steps - count)) u (omega (arith, some, less)) (next_goes low u (over_still steps count u e) live) in
              let h = r.full some (from_live i (replicate (turn_of i q steps low count u) (next_hart low u)) u live) (omega (arith, m, one)) (subst (λ (x : Unmoved). goes_still x.end ≡ true) (run_append i (replicate (turn_of i q steps low count u) (next_hart low u)) rest u) g) in
              omega (arith, many, h);
        }

pub plain_go : (i : Image) (input : List ℕ) (q steps : ℕ) → all_go i (plain_list i input q steps) (unmoved_start i input) ≡ true
unfolding plain_list plain_turns
plain_go i input q steps = turns_go i q steps steps 0 0 (unmoved_start i input)

through : (i : Image) (input : List ℕ) (q steps : ℕ) → Through i q steps steps 0 (unmoved_start i input) (plain_list i input q steps)
unfolding plain_list plain_turns
through i input q steps = turns_through i q steps steps 0 0 (unmoved_start i input) (omega arith)

pub plain_few : (i : Image) (input : List ℕ) (q steps : ℕ) → length (plain_list i input q steps) ≤ steps
plain_few i input q steps = omega (arith, (through i input q steps).few)

pub plain_full : (i : Image) (input : List ℕ) (q steps : ℕ) → 1 ≤ q → goes_still (unmoved_run i input (plain_list i input q steps)).end ≡ true → length (plain_list i input q steps) ≡ steps
unfolding unmoved_run
plain_full i input q steps some g = let e = (through i input q steps).full some (start_live i input) (omega arith) g in omega (arith, e)

-- ---- beside the serial list with layouts

-- a limit below that the turn does not come to is no limit
shorter : (i : Image) (p : Schedule) (h c : ℕ) (u : Unmoved) → c % p.period + goes_for i h (min p.quantum (p.steps - c)) u ≤ p.period → goes_for i h (turn_limit p c) u ≡ goes_for i h (min p.quantum (p.steps - c)) u
shorter i p h c u w =
    let f = goes_few i h (min p.quantum (p.steps - c)) u in
    goes_within i h (turn_limit p c) (min p.quantum (p.steps - c)) u (omega arith) (omega (arith, f, w))

serial_plain : (i : Image) (p : Schedule) (k low : ℕ) (b : Pace) → 1 ≤ p.period → InStep p.period b → b.count ≤ p.steps → AreWithin p.period (turns_in i p.quantum p.steps k low b.count b.guest) → written (serial_in i p k low b) ≡ written_turns (turns_in i p.quantum p.steps k low b.count b.guest)
serial_plain i p zero low b l s f w = refl
serial_plain i p (suc k) low b l s f w =
    let r = round_goes i p low b l s f in
    by (is_done p b) w r (serial_plain i p k (next_hart low (readied i p b).guest + 1) (after_round i p low b) l r.step r.few)
  where
    h : ℕ
    h = next_hart low b.guest

    -- the instructions of the turn without layouts
    ahead : ℕ
    ahead = turn_of i p.quantum p.steps low b.count b.guest

    later : (hart count : ℕ) (u : Unmoved) → List Turn
    later hart count u = turns_in i p.quantum p.steps k (hart + 1) count u

    turns : List Turn
    turns = later h (b.count + ahead) (unmoved_from i (replicate ahead h) b.guest)

    events : List Event
    events = ready p.period b ++ turn_now i p low b

    rest : List Event
    rest = serial_in i p k (next_hart low (readied i p b).guest + 1) (after_round i p low b)

    there : List Turn
    there = later (next_hart low (readied i p b).guest) (after_round i p low b).count (after_round i p low b).guest

    same : Round i p low b → round_count i p low b ≡ ahead → there ≡ turns
    same r e =
        ap (λ x. later x (after_round i p low b).count (after_round i p low b).guest) r.hart
        ∙ ap (λ x. later h x (after_round i p low b).guest) (r.count ∙ ap (λ n. b.count + n) e)
        ∙ ap (λ x. later h (b.count + ahead) x) (r.guest ∙ ap (λ n. unmoved_from i (replicate n h) b.guest) e)

    by : (t : Bool) → AreWithin p.period (if t then [] else next_turn i p.quantum p.steps low b.count b.guest ∷ turns) → Round i p low b → (AreWithin p.period there → written rest ≡ written_turns there) → written (if t then [] else events ++ rest) ≡ written_turns (if t then [] else next_turn i p.quantum p.steps low b.count b.guest ∷ turns)
    by true x r ih = refl
    by false x r ih =
        let e : round_count i p low b ≡ ahead = shorter i p h b.count b.guest x.0 in
        let q : there ≡ turns = same r e in
        written_append events rest
        ∙ ap (λ ns. ns ++ written rest) (r.written ∙ ap (λ n. replicate n h) e)
        ∙ ap (λ ns. replicate ahead h ++ ns) (ih (subst (AreWithin p.period) (sym q) x.1) ∙ ap written_turns q)

pub plain_is : (i : Image) (input : List ℕ) (p : Schedule) → 1 ≤ p.period → AreWithin p.period (plain_turns i p.quantum p.steps 0 (unmoved_start i input)) → written (serial_list i input p) ≡ plain_list i input p.quantum p.steps
unfolding plain_list plain_turns serial_list serial_from
plain_is i input p l w = serial_plain i p p.steps 0 (opening_pace i input) l (opens i input p.period) (omega arith) w

-- a period that is not below the steps
all_within : (i : Image) (period q steps k low count : ℕ) (u : Unmoved) → 1 ≤ period → steps ≤ period → count ≤ steps → AreWithin period (turns_in i q steps k low count u)
all_within i period q steps zero low count u l s c = tt
all_within i period q steps (suc k) low count u l s c =
    let t : Turn = next_turn i q steps low count u in
    let f : t.count ≤ min q (steps - count) = goes_few i t.hart (min q (steps - count)) u in
    let m : count % period ≤ count = omega (arith, l, div-add-mod count period) in
    by (is_over steps count u) (omega (arith, m, f, s, c)) (all_within i period q steps k (t.hart + 1) (count + t.count) (unmoved_from i (written_turn t) u) l s (omega (arith, f, c)))
  where
    by : (b : Bool) → count % period + turn_of i q steps low count u ≤ period → AreWithin period (turns_in i q steps k (next_hart low u + 1) (count + turn_of i q steps low count u) (unmoved_from i (replicate (turn_of i q steps low count u) (next_hart low u)) u)) → AreWithin period (if b then [] else next_turn i q steps low count u ∷ turns_in i q steps k (next_hart low u + 1) (count + turn_of i q steps low count u) (unmoved_from i (replicate (turn_of i q steps low count u) (next_hart low u)) u))
    by true e w = tt
    by false e w = (e, w)

pub short_within : (i : Image) (period q steps : ℕ) (u : Unmoved) → 1 ≤ period → steps ≤ period → AreWithin period (plain_turns i q steps 0 u)
unfolding plain_turns
short_within i period q steps u l s = all_within i period q steps steps 0 0 u l s (omega arith)
