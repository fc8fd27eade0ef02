-- SPDX-License-Identifier: Apache-2.0
-- Legal, paced journals, and the serial order behind them.
use Rattle.std.proofs.Common.{◌≡◌, ℕ, ◌+◌, ◌==◌, ◌&&◌, ◌||◌, ◌≤◌, Bool, true, false, not, List, [], ◌∷◌, ◌++◌, length, refl, sym, ap, ◌∙◌, subst, arith, append_assoc}
use Rattle.std.proofs.lemmas.Bool.Decides.{nat_tests}
use Rattle.std.proofs.lemmas.List.{append-nil}
use Rattle.sh_types.specs.declared.code.Image.{Image}
use Rattle.sh_types.specs.declared.runs.Event.{Event}
use Rattle.sh_types.specs.declared.runs.Event.TheVariants.{Run, Migrate, Publish, Erase}
use Rattle.sh_machines.specs.Event.{is_allowed, state_after, IsLegalIn, written}
use Rattle.sh_machines.specs.Next.{may_come, all_may}
use Rattle.sh_machines.specs.Pace.{Pace, paced_on, followed, keeps_pace, all_keep, opening_pace, pace_after, IsPaced}
use Rattle.sh_machines.specs.Serial.{Schedule, is_done, serial_in, serial_from, serial_list}
use Rattle.sh_machines.specs.Shuffled.{Setting}
use Rattle.sh_machines.specs.Unmoved.{goes_still, unmoved_start, unmoved_run}
use Rattle.sh_law.proofs.Pacing.{guest_is}
use Rattle.sh_law.proofs.Prefixes.{legal_more, legal_after, pace_more, paced_more, paced_after, by_prefix}
use Rattle.sh_law.proofs.Prefixes.{legal_before, paced_before}
use Rattle.pace_law.specs.Step.{InStep}
use Rattle.pace_law.proofs.Alive.{StillLive, from_live, start_live}
use Rattle.pace_law.proofs.Bools.{and_first, and_second, both_true}
use Rattle.pace_law.proofs.Keeping.{is_next, eq_of, in_step}
use Rattle.pace_law.proofs.Rounds.{count_is, serial_may, serial_ends}
use Rattle.pace_law.proofs.Serials.{Serially, serial_goes}
use Rattle.pace_law.proofs.Whole.{opens, whole}

-- what is said of each legal, paced journal of the setting: its next event is allowed as its pace says
abbrev pub ComeAsPaced : Setting → ℕ → Type 0
ComeAsPaced o period = (es : List Event) (e : Event) → IsLegalIn o es → IsPaced o.image o.input period es → is_allowed o e (state_after o es) ≡ may_come o.image e (pace_after o.image o.input es)

-- events that may come, in pace, are legal
pub legal_may : (o : Setting) (period : ℕ) → ComeAsPaced o period → (fs es : List Event) → IsLegalIn o es → IsPaced o.image o.input period es → all_may o.image fs (pace_after o.image o.input es) ≡ true → all_keep o.image period fs (pace_after o.image o.input es) ≡ true → IsLegalIn o (es ++ fs)
legal_may o period come [] es l p m k = subst (IsLegalIn o) (sym (append-nil es)) l
legal_may o period come (e ∷ fs) es l p m k =
    let b : Pace = pace_after o.image o.input es in
    let q : pace_after o.image o.input (es ++ e ∷ []) ≡ paced_on o.image e b = pace_more o.image o.input es (e ∷ []) in
    let a : is_allowed o e (state_after o es) ≡ true = come es e l p ∙ and_first _ _ m in
    let l' : IsLegalIn o (es ++ e ∷ []) = legal_more o es (e ∷ []) l (a, tt) in
    let p' : IsPaced o.image o.input period (es ++ e ∷ []) = paced_more o.image o.input period es (e ∷ []) p (both_true _ _ (and_first _ _ k) refl) in
    let m' : all_may o.image fs (pace_after o.image o.input (es ++ e ∷ [])) ≡ true = ap (all_may o.image fs) q ∙ and_second (may_come o.image e b) _ m in
    let k' : all_keep o.image period fs (pace_after o.image o.input (es ++ e ∷ [])) ≡ true = ap (all_keep o.image period fs) q ∙ and_second (keeps_pace period e b) _ k in
    subst (IsLegalIn o) (append_assoc es (e ∷ []) fs) (legal_may o period come fs (es ++ e ∷ []) l' p' m' k')

-- ---- where the count stands

next_of : (i : Image) (e : Event) (b : Pace) → may_come i e b ≡ true → is_next e b
next_of i (Run n k) b m = tt
next_of i (Migrate n) b m = tt
next_of i (Publish k) b m = eq_of k (b.newest + 1) (and_second (not b.older) (k == b.newest + 1) (and_second (goes_still b.guest.end) (not b.older && (k == b.newest + 1)) m))
next_of i (Erase k) b m = tt

first_step : (o : Setting) (period : ℕ) → InStep period (pace_after o.image o.input [])
unfolding pace_after
first_step o period = opens o.image o.input period

pub steps_keep : (o : Setting) (period : ℕ) → ComeAsPaced o period → (es : List Event) → IsLegalIn o es → IsPaced o.image o.input period es → InStep period (pace_after o.image o.input es)
steps_keep o period come = by_prefix o period (λ es. InStep period (pace_after o.image o.input es)) (first_step o period) more
  where
    more : (es : List Event) (e : Event) → IsLegalIn o (es ++ e ∷ []) → IsPaced o.image o.input period (es ++ e ∷ []) → InStep period (pace_after o.image o.input es) → InStep period (pace_after o.image o.input (es ++ e ∷ []))
    more es e l p s =
        let l' = legal_before o es (e ∷ []) l in
        let p' = paced_before o.image o.input period es (e ∷ []) p in
        let m : may_come o.image e (pace_after o.image o.input es) ≡ true = sym (come es e l' p') ∙ (legal_after o es (e ∷ []) l).0 in
        let k : keeps_pace period e (pace_after o.image o.input es) ≡ true = and_first _ _ (paced_after o.image o.input period es (e ∷ []) p) in
        subst (InStep period) (sym (pace_more o.image o.input es (e ∷ []))) (in_step o.image period e (pace_after o.image o.input es) s (next_of o.image e (pace_after o.image o.input es) m) k)

-- ---- the serial order behind a journal

from_is : (i : Image) (s : Schedule) (b : Pace) → serial_from i s b ≡ serial_in i s s.steps 0 b
unfolding serial_from
from_is i s b = refl

from_goes : (i : Image) (s : Schedule) (b : Pace) → 1 ≤ s.period → InStep s.period b → b.count ≤ s.steps → Serially i s b (serial_from i s b)
from_goes i s b l t f = subst (Serially i s b) (sym (from_is i s b)) (serial_goes i s s.steps 0 b l t f)

from_may : (i : Image) (s : Schedule) (b : Pace) → 1 ≤ s.period → InStep s.period b → b.count ≤ s.steps → all_may i (serial_from i s b) b ≡ true
from_may i s b l t f = ap (λ es. all_may i es b) (from_is i s b) ∙ serial_may i s s.steps 0 b l t f

pub guest_live : (i : Image) (input : List ℕ) (es : List Event) → StillLive (pace_after i input es).guest
unfolding pace_after
guest_live i input es = subst StillLive (sym (guest_is i es (opening_pace i input))) (from_live i (written es) (unmoved_start i input) (start_live i input))

from_done : (i : Image) (s : Schedule) (b : Pace) → 1 ≤ s.period → 1 ≤ s.quantum → InStep s.period b → b.count ≤ s.steps → StillLive b.guest → is_done s (followed i (serial_from i s b) b) ≡ true
from_done i s b l q t f v = ap (λ es. is_done s (followed i es b)) (from_is i s b) ∙ serial_ends i s s.steps 0 b l q t f v (omega arith)

module _ (o : Setting) (s : Schedule) (come : ComeAsPaced o s.period) (few : 1 ≤ s.period) (es : List Event) (l : IsLegalIn o es) (p : IsPaced o.image o.input s.period es) (f : (pace_after o.image o.input es).count ≤ s.steps) where
  step : InStep s.period (pace_after o.image o.input es)
  step = steps_keep o s.period come es l p

  goes : Serially o.image s (pace_after o.image o.input es) (serial_from o.image s (pace_after o.image o.input es))
  goes = from_goes o.image s (pace_after o.image o.input es) few step f

  pub on_legal : IsLegalIn o (es ++ serial_from o.image s (pace_after o.image o.input es))
  on_legal = legal_may o s.period come (serial_from o.image s (pace_after o.image o.input es)) es l p (from_may o.image s (pace_after o.image o.input es) few step f) goes.keeps

  pub on_paced : IsPaced o.image o.input s.period (es ++ serial_from o.image s (pace_after o.image o.input es))
  on_paced = paced_more o.image o.input s.period es (serial_from o.image s (pace_after o.image o.input es)) p goes.keeps

  pub on_few : (pace_after o.image o.input (es ++ serial_from o.image s (pace_after o.image o.input es))).count ≤ s.steps
  on_few = subst (λ (b : Pace). b.count ≤ s.steps) (sym (pace_more o.image o.input es (serial_from o.image s (pace_after o.image o.input es)))) goes.few

  pub on_done : 1 ≤ s.quantum → is_done s (pace_after o.image o.input (es ++ serial_from o.image s (pace_after o.image o.input es))) ≡ true
  on_done q = ap (is_done s) (pace_more o.image o.input es (serial_from o.image s (pace_after o.image o.input es))) ∙ from_done o.image s (pace_after o.image o.input es) few q step f (guest_live o.image o.input es)

-- ---- the serial list

no_event : (o : Setting) → IsLegalIn o []
unfolding IsLegalIn
no_event o = tt

nothing_paced : (i : Image) (input : List ℕ) (period : ℕ) → IsPaced i input period []
unfolding IsPaced
nothing_paced i input period = refl

list_is : (o : Setting) (s : Schedule) → [] ++ serial_from o.image s (pace_after o.image o.input []) ≡ serial_list o.image o.input s
unfolding pace_after serial_list
list_is o s = refl

opens_few : (i : Image) (input : List ℕ) (n : ℕ) → (pace_after i input []).count ≤ n
unfolding pace_after
opens_few i input n = omega arith

pub list_legal : (o : Setting) (s : Schedule) → ComeAsPaced o s.period → 1 ≤ s.period → IsLegalIn o (serial_list o.image o.input s)
list_legal o s come l = subst (IsLegalIn o) (list_is o s) (on_legal o s come l [] (no_event o) (nothing_paced o.image o.input s.period) (opens_few o.image o.input s.steps))

pub count_of : (i : Image) (input : List ℕ) (es : List Event) → (pace_after i input es).count ≡ length (written es)
unfolding pace_after
count_of i input es = let a = count_is i es (opening_pace i input) in omega (arith, a)

pub few_written : (i : Image) (input : List ℕ) (s : Schedule) → 1 ≤ s.period → length (written (serial_list i input s)) ≤ s.steps
unfolding serial_list serial_from
few_written i input s l = let a = count_is i (serial_in i s s.steps 0 (opening_pace i input)) (opening_pace i input) in omega (arith, a, (whole i input s l).few)

pub full_written : (i : Image) (input : List ℕ) (s : Schedule) → 1 ≤ s.period → 1 ≤ s.quantum → goes_still (unmoved_run i input (written (serial_list i input s))).end ≡ true → length (written (serial_list i input s)) ≡ s.steps
unfolding serial_list serial_from unmoved_run
full_written i input s l q g =
    let b : Pace = opening_pace i input in
    let es : List Event = serial_in i s s.steps 0 b in
    let d : is_done s (followed i es b) ≡ true = serial_ends i s s.steps 0 b l q (opens i input s.period) (omega arith) (start_live i input) (omega arith) in
    let h : goes_still (followed i es b).guest.end ≡ true = ap (λ u. goes_still u.end) (guest_is i es b) ∙ g in
    let e : (followed i es b).count ≡ s.steps = all_of (goes_still (followed i es b).guest.end) (followed i es b).count h d in
    let a = count_is i es b in
    omega (arith, a, e)
  where
    all_of : (x : Bool) (n : ℕ) → x ≡ true → (not x || (n == s.steps)) ≡ true → n ≡ s.steps
    all_of true n e d = grind (arith, nat_tests)
    all_of false n e d = absurd (cc)
