-- SPDX-License-Identifier: Apache-2.0
-- What the loop over instructions keeps, and what it comes to.
use Rattle.std.proofs.Common.{◌≡◌, ℕ, zero, suc, ◌-◌, ◌<◌, ◌≤◌, Bool, true, false, Option, List, [], ◌++◌, refl, sym, ap, ◌∙◌, subst, arith, append-nil, append_assoc}
use Rattle.std.specs.Prelude.{slice_get, ◌==◌, ◌&&◌, nat_lt, if◌then◌else◌}
use Rattle.std.proofs.lemmas.Bool.Decides.{nat_tests}
use Rattle.sh_types.specs.declared.fetching.Fetched.{Fetched}
use Rattle.sh_machines.specs.Event.{instructions, can_run, can_all}
use Rattle.sh_types.specs.Fetch.{Tells}
use Rattle.sh_types.specs.declared.runs.Hart.{Hart}
use Rattle.sh_machines.specs.Need.{Outcome, Goes, Puts, Calls, Quits, Traps, Leaks}
use Rattle.sh_machines.specs.Shuffled.{Setting, Owned, Shuffled, shuffled_step}
use Rattle.sh_law.specs.Length.{is_calls, calls_in, IsWhole}
use Rattle.hart_turns.specs.Next.{next_outcome, layout_on, IsReached, IsWent, IsStill, IsStopped, IsQuiet}
use Rattle.hart_turns.specs.Ran.{IsRun, asked_by, asked_of, asked_in}
use Rattle.hart_turns.proofs.Next.{calls_are}
use Rattle.hart_turns.proofs.Reaching.{reached_more}
use Rattle.hart_turns.proofs.Steps.{instructions_more, can_more, both_true, tells_none, tells_more, asked_more}

-- after k instructions, none a call, the hart can go
pub record Kept (o : Setting) (n k : ℕ) (s s' : Shuffled) (a b : Option (List Fetched)) : Type 0 where
  pub state : s' ≡ instructions o n k s
  pub all : can_all o n k s ≡ true
  pub inner : (m : ℕ) → m < k → calls_in o n (instructions o n m s) ≡ false
  pub reached : IsReached o s'
  pub can : can_run s' n ≡ true
  pub layout : layout_on s' n ≡ layout_on s n
  pub asked : Tells a (asked_of o n k s) b

pub kept_first : (o : Setting) (n : ℕ) (s : Shuffled) (a : Option (List Fetched)) → IsReached o s → can_run s n ≡ true → Kept o n 0 s s a a
kept_first o n s a r can =
    record { state = refl; all = refl; inner = λ m lt. absurd (omega (arith, lt)); reached = r; can = can; layout = refl; asked = tells_none a }

more_inner : (o : Setting) (n k : ℕ) (s s' : Shuffled) → s' ≡ instructions o n k s → ((m : ℕ) → m < k → calls_in o n (instructions o n m s) ≡ false) → calls_in o n s' ≡ false → (m : ℕ) → m < suc k → calls_in o n (instructions o n m s) ≡ false
more_inner o n k s s' es inner quiet m lt = by (m == k) refl
  where
    by : (b : Bool) → (m == k) ≡ b → calls_in o n (instructions o n m s) ≡ false
    by true e = let q : m ≡ k = grind (arith, nat_tests) in ap (λ j. calls_in o n (instructions o n j s)) q ∙ ap (calls_in o n) (sym es) ∙ quiet
    by false e = let l : m < k = grind (arith, nat_tests) in inner m l

more_asked : (o : Setting) (n k : ℕ) (s s' : Shuffled) (a b c : Option (List Fetched)) → s' ≡ instructions o n k s → Tells a (asked_of o n k s) b → Tells b (asked_by (slice_get s'.harts n)) c → Tells a (asked_of o n (suc k) s) c
more_asked o n k s s' a b c es t u =
    subst (λ l. Tells a l c) (sym (asked_more o n k s ∙ ap (λ (x : Shuffled). asked_of o n k s ++ asked_by (slice_get x.harts n)) (sym es))) (tells_more t u)

-- and after one more
pub kept_more : (o : Setting) (n k : ℕ) (s s' s'' : Shuffled) (a b c : Option (List Fetched)) → Kept o n k s s' a b → IsWent o n s' s'' → Tells b (asked_by (slice_get s'.harts n)) c → Kept o n (suc k) s s'' a c
kept_more o n k s s' s'' a b c kp w tl =
    record {
      state = w.step ∙ ap (shuffled_step o n) kp.state ∙ sym (instructions_more o n k s);
      all = can_more o n k s kp.all (subst (λ x. can_run x n ≡ true) kp.state kp.can);
      inner = more_inner o n k s s' kp.state kp.inner w.quiet;
      reached = subst (IsReached o) (sym w.step) (reached_more o n s' kp.reached kp.can);
      can = w.can;
      layout = w.layout ∙ kp.layout;
      asked = more_asked o n k s s' a b c kp.state kp.asked tl;
    }

-- ---- where the loop ends

-- no more than k words were asked for
pub asked_no_more : (o : Setting) (n most k : ℕ) (s : Shuffled) → (nat_lt k most && can_run (instructions o n k s) n) ≡ false → asked_in o n most k s ≡ asked_of o n k s
asked_no_more o n most k s e =
    ap (λ (b : Bool). asked_of o n k s ++ (if b then asked_by (slice_get (instructions o n k s).harts n) else [])) e ∙ append-nil (asked_of o n k s)

and_false : (a b : Bool) → b ≡ false → (a && b) ≡ false
and_false true b e = e
and_false false b e = refl

not_false : (a b : Bool) → a ≡ false → (a && b) ≡ false
not_false a b e = rw e refl

-- at the end of what is allowed
pub quiet_done : (o : Setting) (n most k : ℕ) (s s' : Shuffled) (a b : Option (List Fetched)) → Kept o n k s s' a b → k ≤ most → most ≤ k → IsQuiet o n most k s
quiet_done o n most k s s' a b kp le ge =
    record { few = le; all = kp.all; inner = kp.inner; short = λ lt. absurd (omega (arith, lt, ge)) }

pub asked_done : (o : Setting) (n most k : ℕ) (s s' : Shuffled) (a b : Option (List Fetched)) → Kept o n k s s' a b → most ≤ k → Tells a (asked_in o n most k s) b
asked_done o n most k s s' a b kp ge =
    let f : nat_lt k most ≡ false = grind (arith, nat_tests) in
    subst (λ l. Tells a l b) (sym (asked_no_more o n most k s (not_false (nat_lt k most) _ f))) kp.asked

-- at a call
still_calls : (o : Setting) (n k : ℕ) (s s' s'' : Shuffled) → s' ≡ instructions o n k s → IsStill o n Calls s' s'' → calls_in o n (instructions o n k s) ≡ true
still_calls o n k s s' s'' es st = ap (calls_in o n) (sym es) ∙ calls_are o n s' ∙ ap is_calls st.comes

pub quiet_call : (o : Setting) (n most k : ℕ) (s s' s'' : Shuffled) (a b : Option (List Fetched)) → Kept o n k s s' a b → k < most → IsStill o n Calls s' s'' → IsQuiet o n most k s
quiet_call o n most k s s' s'' a b kp lt st =
    record { few = omega (arith, lt); all = kp.all; inner = kp.inner; short = λ _ _. still_calls o n k s s' s'' kp.state st }

pub asked_call : (o : Setting) (n most k : ℕ) (s s' : Shuffled) (a b c : Option (List Fetched)) → Kept o n k s s' a b → k < most → Tells b (asked_by (slice_get s'.harts n)) c → Tells a (asked_in o n most k s) c
asked_call o n most k s s' a b c kp lt tl =
    let t : nat_lt k most ≡ true = grind (arith, nat_tests) in
    let r : can_run (instructions o n k s) n ≡ true = subst (λ x. can_run x n ≡ true) kp.state kp.can in
    let both : (nat_lt k most && can_run (instructions o n k s) n) ≡ true = both_true (nat_lt k most) _ t r in
    subst (λ l. Tells a l c)
    (ap (λ (x : Shuffled). asked_of o n k s ++ asked_by (slice_get x.harts n)) kp.state
    ∙ sym (ap (λ (b : Bool). asked_of o n k s ++ (if b then asked_by (slice_get (instructions o n k s).harts n) else [])) both))
    (tells_more kp.asked tl)

-- at an end
stopped_state : (o : Setting) (n k : ℕ) (s s' s'' : Shuffled) → s' ≡ instructions o n k s → IsStopped o n s' s'' → s'' ≡ instructions o n (suc k) s
stopped_state o n k s s' s'' es st = st.step ∙ ap (shuffled_step o n) es ∙ sym (instructions_more o n k s)

pub quiet_stopped : (o : Setting) (n most k : ℕ) (s s' s'' : Shuffled) (a b : Option (List Fetched)) → Kept o n k s s' a b → k < most → IsStopped o n s' s'' → IsQuiet o n most (suc k) s
quiet_stopped o n most k s s' s'' a b kp lt st =
    record {
      few = omega (arith, lt);
      all = can_more o n k s kp.all (subst (λ x. can_run x n ≡ true) kp.state kp.can);
      inner = more_inner o n k s s' kp.state kp.inner st.quiet;
      short = λ _ can. absurd (clash can);
    }
  where
    clash : can_run (instructions o n (suc k) s) n ≡ true → ⊥
    clash can = let f : can_run (instructions o n (suc k) s) n ≡ false = subst (λ x. can_run x n ≡ false) (stopped_state o n k s s' s'' kp.state st) st.cannot in cc

pub state_stopped : (o : Setting) (n k : ℕ) (s s' s'' : Shuffled) (a b : Option (List Fetched)) → Kept o n k s s' a b → IsStopped o n s' s'' → s'' ≡ instructions o n (suc k) s
state_stopped o n k s s' s'' a b kp st = stopped_state o n k s s' s'' kp.state st

pub asked_stopped : (o : Setting) (n most k : ℕ) (s s' s'' : Shuffled) (a b c : Option (List Fetched)) → Kept o n k s s' a b → IsStopped o n s' s'' → Tells b (asked_by (slice_get s'.harts n)) c → Tells a (asked_in o n most (suc k) s) c
asked_stopped o n most k s s' s'' a b c kp st tl =
    let f : can_run (instructions o n (suc k) s) n ≡ false = subst (λ x. can_run x n ≡ false) (stopped_state o n k s s' s'' kp.state st) st.cannot in
    subst (λ l. Tells a l c) (sym (asked_no_more o n most (suc k) s (and_false (nat_lt (suc k) most) _ f))) (more_asked o n k s s' a b c kp.state kp.asked tl)

-- ---- where the first instruction is no call

pub run_quiet : (o : Setting) (n limit k : ℕ) (s s' : Shuffled) → 0 < k → IsQuiet o n limit k s → s' ≡ instructions o n k s → IsRun o n limit k s s'
run_quiet o n limit k s s' some q e =
    record { whole = record { some = omega (arith, some); few = q.few; all = q.all; inner = λ m _ lt. q.inner m lt; short = q.short }; state = e }

-- ---- where it is one

calls_only : (x : Outcome Hart Owned) → is_calls x ≡ true → x ≡ Calls
calls_only (Goes h) e = absurd (cc)
calls_only (Puts h w c stored) e = absurd (cc)
calls_only Calls e = refl
calls_only Quits e = absurd (cc)
calls_only (Traps kind value) e = absurd (cc)
calls_only Leaks e = absurd (cc)

pub first_is_call : (o : Setting) (n limit k : ℕ) (s : Shuffled) → k ≡ 0 → 1 ≤ limit → can_run s n ≡ true → IsQuiet o n limit k s → next_outcome o n s ≡ Calls
first_is_call o n limit k s z some can q =
    let f : IsQuiet o n limit 0 s = subst (λ j. IsQuiet o n limit j s) z q in
    calls_only (next_outcome o n s) (sym (calls_are o n s) ∙ f.short (omega (arith, some)) can)

pub asked_first : (o : Setting) (n limit k : ℕ) (s : Shuffled) (a b : Option (List Fetched)) → k ≡ 0 → 1 ≤ limit → can_run s n ≡ true → Tells a (asked_in o n limit k s) b → Tells a (asked_by (slice_get s.harts n)) b
asked_first o n limit k s a b z some can t =
    let lt : nat_lt 0 limit ≡ true = grind (arith, nat_tests) in
    let both : (nat_lt 0 limit && can_run s n) ≡ true = both_true (nat_lt 0 limit) _ lt can in
    subst (λ l. Tells a l b) (ap (λ j. asked_in o n limit j s) z ∙ ap (λ (x : Bool). if x then asked_by (slice_get s.harts n) else []) both) t

-- ---- the first instruction, and further ones

whole_of : (o : Setting) (n most k : ℕ) (s : Shuffled) → can_run s n ≡ true → IsQuiet o n most k (shuffled_step o n s) → IsWhole o n (suc most) (suc k) s
whole_of o n most k s can f =
    record {
      some = omega arith;
      few = omega (arith, f.few);
      all = both_true (can_run s n) _ can f.all;
      inner = inner;
      short = λ lt. f.short (omega (arith, lt));
    }
  where
    inner : (m : ℕ) → 1 ≤ m → m < suc k → calls_in o n (instructions o n m s) ≡ false
    inner zero some lt = absurd (omega (arith, some))
    inner (suc m) some lt = f.inner m (omega (arith, lt))

lt_suc : (k m : ℕ) → nat_lt (suc k) (suc m) ≡ nat_lt k m
lt_suc k m = by (nat_lt k m) refl
  where
    by : (b : Bool) → nat_lt k m ≡ b → nat_lt (suc k) (suc m) ≡ b
    by true e = grind (arith, nat_tests)
    by false e = grind (arith, nat_tests)

asked_after : (o : Setting) (n most k : ℕ) (s : Shuffled) (a b c : Option (List Fetched)) → Tells a (asked_by (slice_get s.harts n)) b → Tells b (asked_in o n most k (shuffled_step o n s)) c → Tells a (asked_in o n (suc most) (suc k) s) c
asked_after o n most k s a b c t u =
    let s1 : Shuffled = shuffled_step o n s in
    subst (λ l. Tells a l c)
    (sym (append_assoc (asked_by (slice_get s.harts n)) (asked_of o n k s1) _)
    ∙ ap (λ (x : Bool). asked_of o n (suc k) s ++ (if x && can_run (instructions o n k s1) n then asked_by (slice_get (instructions o n k s1).harts n) else [])) (sym (lt_suc k most)))
    (tells_more t u)

-- the whole event: the first instruction, and k further ones of at most limit - 1
pub run_of : (o : Setting) (n limit k j : ℕ) (s s1 s2 : Shuffled) → j ≡ suc k → 1 ≤ limit → can_run s n ≡ true → s1 ≡ shuffled_step o n s → IsQuiet o n (limit - 1) k s1 → s2 ≡ instructions o n k s1 → IsRun o n limit j s s2
run_of o n limit k j s s1 s2 ej some can e1 f e2 =
    let l : suc (limit - 1) ≡ limit = omega (arith, some) in
    let w : IsWhole o n (suc (limit - 1)) (suc k) s = whole_of o n (limit - 1) k s can (subst (IsQuiet o n (limit - 1) k) e1 f) in
    subst (λ x. IsRun o n limit x s s2) (sym ej) (record { whole = subst (λ x. IsWhole o n x (suc k) s) l w; state = e2 ∙ ap (instructions o n k) e1 })

pub asked_whole : (o : Setting) (n limit k j : ℕ) (s s1 : Shuffled) (a b c : Option (List Fetched)) → j ≡ suc k → 1 ≤ limit → s1 ≡ shuffled_step o n s → Tells a (asked_by (slice_get s.harts n)) b → Tells b (asked_in o n (limit - 1) k s1) c → Tells a (asked_in o n limit j s) c
asked_whole o n limit k j s s1 a b c ej some e1 t u =
    let l : suc (limit - 1) ≡ limit = omega (arith, some) in
    subst (λ x. Tells a (asked_in o n limit x s) c) (sym ej) (subst (λ x. Tells a (asked_in o n x (suc k) s) c) l (asked_after o n (limit - 1) k s a b c t (subst (λ x. Tells b (asked_in o n (limit - 1) k x) c) e1 u)))
