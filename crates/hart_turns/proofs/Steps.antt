-- SPDX-License-Identifier: Apache-2.0
-- One more instruction of a hart.
use Rattle.std.proofs.Common.{◌≡◌, ℕ, zero, suc, ◌+◌, ◌<◌, true, false, List, [], ◌++◌, Option, Some, None, refl, sym, ap, ◌∙◌, arith, append_assoc, append-nil}
use Rattle.std.specs.Prelude.{slice_get, nat_lt, ◌&&◌, Bool}
use Rattle.std.proofs.lemmas.Bool.Decides.{nat_tests}
use Rattle.sh_types.specs.declared.fetching.Fetched.{Fetched}
use Rattle.sh_types.specs.declared.runs.End.{End}
use Rattle.sh_types.specs.declared.runs.Event.TheVariants.{Run}
use Rattle.sh_types.specs.declared.runs.Hart.{Hart}
use Rattle.sh_machines.specs.Environment.{CallDid, Answers, Reads, Starts, ExitsHart, ExitsRun, LeaksWord, call_of}
use Rattle.sh_machines.specs.Event.{instructions, is_live, can_run, can_all, Allowed}
use Rattle.sh_types.specs.Fetch.{Tells}
use Rattle.sh_machines.specs.Need.{Outcome, Goes, Puts, Calls, Quits, Traps, Leaks}
use Rattle.sh_machines.specs.Shuffled.{Setting, Owned, Shuffled, after_call, after, hart_asks, moved_of, on_hart, shuffled_step}
use Rattle.sh_machines.specs.Unmoved.{goes_still}
use Rattle.hart_turns.specs.Ran.{asked_by, asked_of}

-- ---- what can_run says

and_first : (a b : Bool) → (a && b) ≡ true → a ≡ true
and_first a b e = grind arith

and_second : (a b : Bool) → (a && b) ≡ true → b ≡ true
and_second a b e = grind arith

still : (e : Option End) → goes_still e ≡ true → e ≡ None
still None h = refl
still (Some e) h = absurd (cc)

pub can_end : (s : Shuffled) (n : ℕ) → can_run s n ≡ true → s.end ≡ None
can_end s n c = still s.end (and_first _ _ c)

live_at : (x : Option Hart) → is_live x ≡ true → (h : Hart) × (x ≡ Some h) × (h.live ≡ true)
live_at None e = absurd (cc)
live_at (Some h) e = (h, refl, e)

pub can_hart : (s : Shuffled) (n : ℕ) → can_run s n ≡ true → (h : Hart) × (slice_get s.harts n ≡ Some h) × (h.live ≡ true)
can_hart s n c = live_at (slice_get s.harts n) (and_second _ _ c)

-- ---- the count

call_count : (o : Setting) (s : Shuffled) (n : ℕ) (h : Hart) (d : CallDid) → (after_call o s n h d).count ≡ s.count + 1
call_count o s n h (Answers v more) = refl
call_count o s n h (Reads a bytes) = refl
call_count o s n h (Starts f a0 sp tp) = refl
call_count o s n h (ExitsHart code) = refl
call_count o s n h (ExitsRun code) = refl
call_count o s n h LeaksWord = refl

after_count : (o : Setting) (s : Shuffled) (n : ℕ) (h : Hart) (x : Outcome Hart Owned) → (after o s n h x).count ≡ s.count + 1
after_count o s n h (Goes h') = refl
after_count o s n h (Puts h' w c stored) = refl
after_count o s n h Calls = call_count o s n h (call_of o.image.regions o.image.rows (hart_asks s h))
after_count o s n h Quits = refl
after_count o s n h (Traps kind v) = refl
after_count o s n h Leaks = refl

pub step_count : (o : Setting) (s : Shuffled) (n : ℕ) → can_run s n ≡ true → (shuffled_step o n s).count ≡ s.count + 1
unfolding shuffled_step
step_count o s n c = let h = can_hart s n c in ap (λ x. (on_hart o s n x).count) h.1 ∙ after_count o s n h.0 (moved_of o h.0 s.words)

-- ---- one more

pub both_true : (a b : Bool) → a ≡ true → b ≡ true → (a && b) ≡ true
both_true true b e f = f
both_true false b e f = absurd (cc)

pub instructions_more : (o : Setting) (n k : ℕ) (s : Shuffled) → instructions o n (suc k) s ≡ shuffled_step o n (instructions o n k s)
instructions_more o n zero s = refl
instructions_more o n (suc k) s = instructions_more o n k (shuffled_step o n s)

pub can_more : (o : Setting) (n k : ℕ) (s : Shuffled) → can_all o n k s ≡ true → can_run (instructions o n k s) n ≡ true → can_all o n (suc k) s ≡ true
can_more o n zero s c r = both_true (can_run s n) true r refl
can_more o n (suc k) s c r = both_true (can_run s n) _ (and_first _ _ c) (can_more o n k (shuffled_step o n s) (and_second _ _ c) r)

pub run_allowed : (o : Setting) (n k : ℕ) (s : Shuffled) → 0 < k → can_all o n k s ≡ true → Allowed o (Run n k) s
run_allowed o n k s some all = let lt : nat_lt 0 k ≡ true = grind (arith, nat_tests) in both_true (nat_lt 0 k) _ lt all

-- ---- the words that were asked for

pub tells_none : (a : Option (List Fetched)) → Tells a [] a
tells_none a = record { told = λ all e. (all, e, sym (append-nil all)) }

pub tells_more : {a b c : Option (List Fetched)} {xs ys : List Fetched} → Tells a xs b → Tells b ys c → Tells a (xs ++ ys) c
tells_more {a} {b} {c} {xs} {ys} t u =
    record { told = λ all e. let y = u.told all e in let x = t.told y.0 y.1 in (x.0, x.1, y.2 ∙ ap (λ l. l ++ ys) x.2 ∙ append_assoc x.0 xs ys) }

pub asked_more : (o : Setting) (n k : ℕ) (s : Shuffled) → asked_of o n (suc k) s ≡ asked_of o n k s ++ asked_by (slice_get (instructions o n k s).harts n)
asked_more o n zero s = append-nil (asked_by (slice_get s.harts n))
asked_more o n (suc k) s =
    ap (λ l. asked_by (slice_get s.harts n) ++ l) (asked_more o n k (shuffled_step o n s)) ∙ sym (append_assoc (asked_by (slice_get s.harts n)) (asked_of o n k (shuffled_step o n s)) _)
