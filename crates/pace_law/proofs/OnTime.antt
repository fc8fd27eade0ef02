-- SPDX-License-Identifier: Apache-2.0
-- From which copy each instruction runs, and which copy is erased.
use Rattle.std.proofs.Common.{◌≡◌, ℕ, zero, suc, ◌+◌, ◌-◌, ◌*◌, ◌/◌, ◌==◌, ◌&&◌, ◌≤◌, ◌<◌, Bool, true, false, not, Option, Some, None, List, [], ◌∷◌, ◌++◌, length, refl, sym, ap, ◌∙◌, subst, arith}
use Rattle.std.specs.Prelude.{nat_le, nat_lt, slice_get}
use Rattle.std.proofs.lemmas.Bool.Decides.{nat_tests}
use Rattle.std.proofs.Math.Nat.{div-add-mod}
use Rattle.sh_types.specs.declared.runs.Event.{Event}
use Rattle.sh_types.specs.declared.runs.Event.TheVariants.{Run, Publish}
use Rattle.sh_types.specs.declared.runs.Hart.{Hart}
use Rattle.sh_machines.specs.Copy.{wiped_copy}
use Rattle.sh_machines.specs.Event.{instructions, is_live, can_run, can_all, state_after, IsLegalIn, written}
use Rattle.sh_machines.specs.Pace.{Pace, is_among, paced_on, keeps_pace, pace_after, IsPaced}
use Rattle.sh_machines.specs.Shuffled.{Setting, Shuffled, shuffled_step}
use Rattle.sh_machines.specs.Unmoved.{is_alive, goes_still}
use Rattle.sh_law.specs.Paced.{StandsPaced}
use Rattle.sh_law.proofs.Prefixes.{state_more, legal_more, legal_before, legal_after, pace_more, paced_more, paced_before, paced_after}
use Rattle.pace_law.specs.Copies.{RunsOnTime}
use Rattle.pace_law.specs.Step.{InStep}
use Rattle.pace_law.proofs.Bools.{and_first, and_second, both_true}
use Rattle.pace_law.proofs.Journals.{count_of}
use Rattle.pace_law.proofs.Keeping.{le_of, eq_of}
use Rattle.pace_law.proofs.Periods.{run_copy}
use Rattle.pace_law.proofs.Turning.{lt_of}

-- ---- some instructions of an event

all_first : (o : Setting) (n m k : ℕ) (s : Shuffled) → m ≤ k → can_all o n k s ≡ true → can_all o n m s ≡ true
all_first o n zero k s l c = refl
all_first o n (suc m) zero s l c = absurd (omega (arith, l))
all_first o n (suc m) (suc k) s l c = both_true _ _ (and_first _ _ c) (all_first o n m k (shuffled_step o n s) (omega (arith, l)) (and_second (can_run s n) _ c))

then_runs : (o : Setting) (n m k : ℕ) (s : Shuffled) → m < k → can_all o n k s ≡ true → can_run (instructions o n m s) n ≡ true
then_runs o n m zero s l c = absurd (omega (arith, l))
then_runs o n zero (suc k) s l c = and_first _ _ c
then_runs o n (suc m) (suc k) s l c = then_runs o n m k (shuffled_step o n s) (omega (arith, l)) (and_second (can_run s n) _ c)

-- the hart is there
pub record There (s : Shuffled) (n : ℕ) : Type 0 where
  pub hart : Hart
  pub is : slice_get s.harts n ≡ Some hart
  pub live : hart.live ≡ true

there : (s : Shuffled) (n : ℕ) → can_run s n ≡ true → There s n
there s n c = by (slice_get s.harts n) refl (and_second (goes_still s.end) _ c)
  where
    by : (x : Option Hart) → slice_get s.harts n ≡ x → is_live x ≡ true → There s n
    by None e l = absurd (cc)
    by (Some h) e l = record { hart = h; is = e; live = l }

-- ---- the law, from what is said of each legal, paced journal

module _ (o : Setting) (period : ℕ) (positive : 1 ≤ period) (step : (es : List Event) → IsLegalIn o es → IsPaced o.image o.input period es → InStep period (pace_after o.image o.input es)) (stands : (es : List Event) → IsLegalIn o es → IsPaced o.image o.input period es → StandsPaced (state_after o es) (pace_after o.image o.input es)) where
  -- a journal whose next instruction is one of the hart, which is not behind
  at_once : (es : List Event) (n c i newest : ℕ) → IsLegalIn o es → IsPaced o.image o.input period es → can_run (state_after o es) n ≡ true → is_among n (pace_after o.image o.input es).behind ≡ false → (state_after o es).count ≡ c + i → (state_after o es).newest ≡ newest → (c + i) / period + 1 ≡ newest → RunsOnTime period n (state_after o es)
  at_once es n c i newest l p run nb count is time =
      let st = stands es l p in
      let t = there (state_after o es) n run in
      let on : t.hart.layout ≡ newest = st.on n t.hart t.is t.live nb ∙ is in
      let layout : t.hart.layout ≡ (state_after o es).count / period + 1 = on ∙ sym time ∙ ap (λ x. x / period + 1) (sym count) in
      record { hart = t.hart; is = t.is; live = t.live; layout = layout; in_time = subst (λ x. (state_after o es).count < period * x) (sym layout) (before (state_after o es).count) }
    where
      before : (c : ℕ) → c < period * (c / period + 1)
      before c = let d = div-add-mod c period in let t : period * (c / period + 1) ≡ period * (c / period) + period = grind arith in omega (arith, d, t, positive)

  pub on_time : (before after : List Event) (n k m : ℕ) → IsLegalIn o (before ++ Run n k ∷ after) → IsPaced o.image o.input period (before ++ Run n k ∷ after) → m < k → RunsOnTime period n (instructions o n m (state_after o before))
  on_time before after n k m l p lt =
      let b : Pace = pace_after o.image o.input before in
      let l0 = legal_before o before (Run n k ∷ after) l in
      let p0 = paced_before o.image o.input period before (Run n k ∷ after) p in
      let keeps : keeps_pace period (Run n k) b ≡ true = and_first _ _ (paced_after o.image o.input period before (Run n k ∷ after) p) in
      let can : can_all o n k (state_after o before) ≡ true = and_second (nat_lt 0 k) _ (legal_after o before (Run n k ∷ after) l).0 in
      let nb : is_among n b.behind ≡ false = not_so _ (and_first _ _ (and_second (is_alive (slice_get b.guest.threads n)) _ keeps)) in
      let st = stands before l0 p0 in
      let time = run_copy period b n k m positive (step before l0 p0) keeps lt in
      by m l0 p0 keeps can nb st time lt
    where
      not_so : (x : Bool) → not x ≡ true → x ≡ false
      not_so true e = absurd (cc)
      not_so false e = refl

      by : (m : ℕ) → IsLegalIn o before → IsPaced o.image o.input period before → keeps_pace period (Run n k) (pace_after o.image o.input before) ≡ true → can_all o n k (state_after o before) ≡ true → is_among n (pace_after o.image o.input before).behind ≡ false → StandsPaced (state_after o before) (pace_after o.image o.input before) → ((pace_after o.image o.input before).count + m) / period + 1 ≡ (pace_after o.image o.input before).newest → m < k → RunsOnTime period n (instructions o n m (state_after o before))
      by zero l0 p0 keeps can nb st time lt =
          at_once before n (pace_after o.image o.input before).count 0 (pace_after o.image o.input before).newest l0 p0 (then_runs o n 0 k (state_after o before) lt can) nb (omega (arith, st.count)) st.newest time
      by (suc m) l0 p0 keeps can nb st time lt =
          let b : Pace = pace_after o.image o.input before in
          let es : List Event = before ++ Run n (suc m) ∷ [] in
          let q : state_after o es ≡ instructions o n (suc m) (state_after o before) = state_more o before (Run n (suc m) ∷ []) in
          let r : pace_after o.image o.input es ≡ paced_on o.image (Run n (suc m)) b = pace_more o.image o.input before (Run n (suc m) ∷ []) in
          let l1 : IsLegalIn o es = legal_more o before (Run n (suc m) ∷ []) l0 (both_true _ _ (lt_of (suc m) (omega arith)) (all_first o n (suc m) k (state_after o before) (omega (arith, lt)) can), tt) in
          let le : b.count + k ≤ period * b.newest = le_of (b.count + k) (period * b.newest) (and_second (not (is_among n b.behind)) _ (and_second (is_alive (slice_get b.guest.threads n)) _ keeps)) in
          let room : nat_le (b.count + suc m) (period * b.newest) ≡ true = small (b.count + suc m) (period * b.newest) (omega (arith, le, lt)) in
          let p1 : IsPaced o.image o.input period es = paced_more o.image o.input period before (Run n (suc m) ∷ []) p0 (both_true _ _ (both_true _ _ (and_first _ _ keeps) (both_true _ _ (and_first _ _ (and_second (is_alive (slice_get b.guest.threads n)) _ keeps)) room)) refl) in
          let s1 = stands es l1 p1 in
          let nb1 : is_among n (pace_after o.image o.input es).behind ≡ false = ap (λ (x : Pace). is_among n x.behind) r ∙ nb in
          let count : (state_after o es).count ≡ b.count + suc m = s1.count ∙ ap (λ (x : Pace). x.count) r in
          let newest : (state_after o es).newest ≡ b.newest = s1.newest ∙ ap (λ (x : Pace). x.newest) r in
          let run : can_run (state_after o es) n ≡ true = ap (λ s. can_run s n) q ∙ then_runs o n (suc m) k (state_after o before) lt can in
          subst (RunsOnTime period n) q (at_once es n b.count (suc m) b.newest l1 p1 run nb1 count newest time)
        where
          small : (a b : ℕ) → a ≤ b → nat_le a b ≡ true
          small a b l = grind (arith, nat_tests)

-- ---- the copy that was erased last

pub wiped_before : (o : Setting) (before after : List Event) (k : ℕ) → ((es : List Event) (k : ℕ) → IsLegalIn o es → (state_after o es).older ≡ false → (state_after o es).newest ≡ k + 1 → 1 ≤ k → (state_after o es).wiped ≡ Some (wiped_copy o.image (o.layout_at k))) → 1 ≤ k → IsLegalIn o (before ++ Publish (k + 2) ∷ after) → (state_after o before).wiped ≡ Some (wiped_copy o.image (o.layout_at k))
wiped_before o before after k last some l =
    let s : Shuffled = state_after o before in
    let a : (not s.older && (k + 2 == s.newest + 1)) ≡ true = and_second (goes_still s.end) _ (legal_after o before (Publish (k + 2) ∷ after) l).0 in
    let n : k + 2 ≡ s.newest + 1 = eq_of (k + 2) (s.newest + 1) (and_second (not s.older) _ a) in
    last before k (legal_before o before (Publish (k + 2) ∷ after) l) (not_so s.older (and_first _ _ a)) (omega (arith, n)) some
  where
    not_so : (x : Bool) → not x ≡ true → x ≡ false
    not_so true e = absurd (cc)
    not_so false e = refl

pub published_at : (o : Setting) (period : ℕ) (before after : List Event) (k : ℕ) → (IsLegalIn o before → (state_after o before).count ≡ length (written before)) → IsLegalIn o (before ++ Publish (k + 2) ∷ after) → IsPaced o.image o.input period (before ++ Publish (k + 2) ∷ after) → (state_after o before).count ≡ period * (k + 1)
published_at o period before after k counted l p =
    let b : Pace = pace_after o.image o.input before in
    let e : b.count ≡ period * (k + 2 - 1) = eq_of b.count (period * (k + 2 - 1)) (and_first _ _ (paced_after o.image o.input period before (Publish (k + 2) ∷ after) p)) in
    let q : k + 2 - 1 ≡ k + 1 = omega arith in
    counted (legal_before o before (Publish (k + 2) ∷ after) l) ∙ sym (count_of o.image o.input before) ∙ e ∙ ap (λ x. period * x) q
