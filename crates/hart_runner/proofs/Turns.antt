-- SPDX-License-Identifier: Apache-2.0
-- How what is still to come of a turn shrinks.
use Rattle.std.proofs.Common.{◌≡◌, ℕ, zero, suc, ◌-◌, ◌≤◌, ◌&&◌, nat_lt, Bool, true, false, List, [], ◌∷◌, ◌++◌, refl, sym, ap, ◌∙◌, subst, arith}
use Rattle.std.specs.Prelude.{if◌then◌else◌}
use Rattle.std.proofs.lemmas.Bool.Decides.{nat_tests}
use Rattle.sh_types.specs.declared.code.Image.{Image}
use Rattle.sh_types.specs.declared.runs.Event.{Event}
use Rattle.sh_types.specs.declared.runs.Event.TheVariants.{Run}
use Rattle.sh_machines.specs.Pace.{Pace, paced_on}
use Rattle.sh_machines.specs.Serial.{run_length, turn, turn_in}
use Rattle.sh_machines.specs.Unmoved.{can_go}
use Rattle.pace_law.proofs.Bools.{both_true}
use Rattle.pace_law.proofs.Length.{length_few, length_some}
use Rattle.shuf_machine.specs.Past.{Past}
use Rattle.hart_runner.specs.Standing.{image_in, pace_of, with_events, Still}
use Rattle.hart_runner.proofs.Stills.{still_first, still_on, still_last, pace_next}

pub record Turning (p : Past) (es : List Event) (q : Past) (h left : ℕ) : Type 0 where
  pub room : ℕ
  pub enough : left ≤ room
  pub still : Still p es q (turn_in (image_in q) h room left (pace_of q))

pub turning_first : (p : Past) (h limit : ℕ) → Turning p (turn (image_in p) h limit (pace_of p)) p h limit
unfolding turn
turning_first p h limit = record { room = limit; enough = omega arith; still = still_first p (turn_in (image_in p) h limit limit (pace_of p)) }

pub turn_more : (i : Image) (h room left : ℕ) (b : Pace) → 1 ≤ left → left ≤ room → can_go b.guest h ≡ true → turn_in i h room left b ≡ Run h (run_length i h left b.guest) ∷ turn_in i h (room - 1) (left - run_length i h left b.guest) (paced_on i (Run h (run_length i h left b.guest)) b)
turn_more i h zero left b l m c = absurd (omega arith)
turn_more i h (suc room) left b l m c =
    let t : (nat_lt 0 left && can_go b.guest h) ≡ true = both_true _ _ (grind (arith, nat_tests)) c in
    ap (λ x. if x then (Run h (run_length i h left b.guest) ∷ turn_in i h room (left - run_length i h left b.guest) (paced_on i (Run h (run_length i h left b.guest)) b)) else []) t ∙ ap (λ r. Run h (run_length i h left b.guest) ∷ turn_in i h r (left - run_length i h left b.guest) (paced_on i (Run h (run_length i h left b.guest)) b)) (omega arith)

turn_over : (i : Image) (h room left : ℕ) (b : Pace) → (nat_lt 0 left && can_go b.guest h) ≡ false → turn_in i h room left b ≡ []
turn_over i h zero left b t = refl
turn_over i h (suc room) left b t = ap (λ x. if x then (Run h (run_length i h left b.guest) ∷ turn_in i h room (left - run_length i h left b.guest) (paced_on i (Run h (run_length i h left b.guest)) b)) else []) t

pub turning_on : (p q q' : Past) (es : List Event) (h left n : ℕ) → Turning p es q h left → 1 ≤ left → can_go (pace_of q).guest h ≡ true → n ≡ run_length (image_in q) h left (pace_of q).guest → q' ≡ with_events q (Run h n ∷ []) → Turning p es q' h (left - n)
turning_on p q q' es h left n t l c e m =
    let few : n ≤ left = omega (arith, e, length_few (image_in q) h left (pace_of q).guest) in
    let some : 1 ≤ n = omega (arith, e, length_some (image_in q) h left (pace_of q).guest l) in
    let f = turn_more (image_in q) h t.room left (pace_of q) l t.enough c in
    let u : Still p es q (Run h n ∷ [] ++ turn_in (image_in q) h (t.room - 1) (left - n) (paced_on (image_in q) (Run h n) (pace_of q))) = subst (λ k. Still p es q (Run h k ∷ [] ++ turn_in (image_in q) h (t.room - 1) (left - k) (paced_on (image_in q) (Run h k) (pace_of q)))) (sym e) (subst (λ x. Still p es q x) f t.still) in
    let v = still_on p q q' es (Run h n ∷ []) _ u m in
    let i : (image_in q') ≡ (image_in q) = ap (λ (x : Past). image_in x) m in
    let w = pace_next q q' (Run h n) m in
    record {
      room = t.room - 1;
      enough = omega (arith, t.enough, some, few, l);
      still = subst (λ x. Still p es q' (turn_in x h (t.room - 1) (left - n) (pace_of q'))) (sym i) (subst (λ x. Still p es q' (turn_in (image_in q) h (t.room - 1) (left - n) x)) (sym w) v);
    }

-- no more instructions, or the hart does not go on
pub turned : (p q : Past) (es : List Event) (h left : ℕ) → Turning p es q h left → (nat_lt 0 left && can_go (pace_of q).guest h) ≡ false → q ≡ with_events p es
turned p q es h left t o = still_last p q es (subst (λ x. Still p es q x) (turn_over (image_in q) h t.room left (pace_of q) o) t.still)

pub no_more : (left : ℕ) (b : Bool) → left ≤ 0 → (nat_lt 0 left && b) ≡ false
no_more left b l = grind (arith, nat_tests)

pub no_run : (left : ℕ) (b : Bool) → b ≡ false → (nat_lt 0 left && b) ≡ false
no_run left b e = by (nat_lt 0 left)
  where
    by : (t : Bool) → (t && b) ≡ false
    by true = e
    by false = refl
