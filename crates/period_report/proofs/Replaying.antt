-- SPDX-License-Identifier: Apache-2.0
-- Events that a machine runs again.
use Rattle.std.proofs.Common.{◌≡◌, ℕ, zero, suc, ◌+◌, ◌-◌, ◌<◌, ◌≤◌, ◌^◌, true, Option, Some, None, List, [], ◌∷◌, ◌++◌, length, replicate, drop, get_or, add-one, drop-cons, refl, sym, ap, ◌∙◌, subst, arith}
use Rattle.std.specs.Prelude.{nat_lt}
use Rattle.std.proofs.lemmas.Bool.{and_parts}
use Rattle.std.proofs.lemmas.Bool.Decides.{nat_tests}
use Rattle.std.proofs.lemmas.List.{length-append, length-replicate}
use Rattle.sh_types.specs.declared.runs.Event.{Event}
use Rattle.sh_types.specs.declared.runs.Event.TheVariants.{Run, Migrate, Publish, Erase}
use Rattle.sh_machines.specs.Event.{instructions, can_run, can_all, state_after, Allowed, IsLegalFrom, IsLegalIn, written}
use Rattle.sh_machines.specs.Shuffled.{Setting, Shuffled, shuffled_step}
use Rattle.sh_law.proofs.Lists.{eq_of, and_second}
use Rattle.sh_law.proofs.Prefixes.{state_more}
use Rattle.shuf_machine.specs.declared.answers.MachineNo.{MachineNo}
use Rattle.shuf_machine.specs.declared.answers.MachineNo.TheVariants.{NotEnabled}
use Rattle.shuf_machine.specs.declared.answers.No.{No}
use Rattle.shuf_machine.specs.Refusal.{IsCause}
use Rattle.shuf_machine.specs.Past.{Past, state_of, opening, with_event}
use Rattle.shuf_machine.specs.Run.{setting_of, IsLegal}
use Rattle.period_report.specs.Replay.{setting_in, IsAfter, CanRun}

-- ---- one event more

written_length : (es : List Event) (e : Event) → length (written (es ++ e ∷ [])) ≡ length (written es) + length (written (e ∷ []))
written_length [] e = omega arith
written_length (Run h n ∷ es) e =
    let a : length (replicate n h ++ written (es ++ e ∷ [])) ≡ length (replicate n h) + length (written (es ++ e ∷ [])) = length-append (replicate n h) (written (es ++ e ∷ [])) in
    let b : length (replicate n h ++ written es) ≡ length (replicate n h) + length (written es) = length-append (replicate n h) (written es) in
    omega (arith, a, b, written_length es e)
written_length (Migrate h ∷ es) e = written_length es e
written_length (Publish k ∷ es) e = written_length es e
written_length (Erase k ∷ es) e = written_length es e

pub after_with : (e : Event) (m m' : Past) → m' ≡ with_event m e → IsAfter e m m'
after_with e m m' is =
    subst (IsAfter e m) (sym is) (record { image = refl; origin = refl; state = state_more (setting_of m.image m.origin) m.journal (e ∷ []); count = written_length m.journal e })

-- nothing else changes where the machine only hands its blank out
pub after_same : (e : Event) (m n m' : Past) → n ≡ m → m' ≡ with_event n e → IsAfter e m m'
after_same e m n m' same is = after_with e m m' (is ∙ ap (λ (x : Past). with_event x e) same)

-- ---- instructions in two parts

pub can_rest : (o : Setting) (n a b : ℕ) (s : Shuffled) → can_all o n (a + b) s ≡ true → can_all o n b (instructions o n a s) ≡ true
can_rest o n zero b s c = let e : zero + b ≡ b = omega arith in subst (λ k. can_all o n k s ≡ true) e c
can_rest o n (suc a) b s c =
    let e : suc a + b ≡ suc (a + b) = omega arith in
    can_rest o n a b (shuffled_step o n s) (and_parts (can_run s n) (can_all o n (a + b) (shuffled_step o n s)) (subst (λ k. can_all o n k s ≡ true) e c)).1

pub run_rest : (o : Setting) (n a b : ℕ) (s : Shuffled) → instructions o n b (instructions o n a s) ≡ instructions o n (a + b) s
run_rest o n zero b s = let e : b ≡ zero + b = omega arith in ap (λ k. instructions o n k s) e
run_rest o n (suc a) b s = let e : suc (a + b) ≡ suc a + b = omega arith in run_rest o n a b (shuffled_step o n s) ∙ ap (λ k. instructions o n k s) e

pub some_allowed : (o : Setting) (n k : ℕ) (s : Shuffled) → 1 ≤ k → can_all o n k s ≡ true → Allowed o (Run n k) s
some_allowed o n k s some can = let l : nat_lt 0 k ≡ true = grind (arith, nat_tests, some) in rw (l, can) refl

pub run_written : (n k : ℕ) → length (written (Run n k ∷ [])) ≡ k
run_written n k =
    let a : length (replicate k n ++ []) ≡ length (replicate k n) + 0 = length-append (replicate k n) [] in
    let b : length (replicate k n) ≡ k = length-replicate k n in
    omega (arith, a, b)

-- after part of the instructions, the rest of them leads to the same state
pub run_part : (o : Setting) (n left done : ℕ) (s s' : Shuffled) → s' ≡ instructions o n done s → done ≤ left → instructions o n (left - done) s' ≡ instructions o n left s
run_part o n left done s s' e few =
    let k : done + (left - done) ≡ left = omega (arith, few) in
    ap (instructions o n (left - done)) e ∙ run_rest o n done (left - done) s ∙ ap (λ x. instructions o n x s) k

pub can_part : (o : Setting) (n left done : ℕ) (s s' : Shuffled) → s' ≡ instructions o n done s → done ≤ left → can_all o n left s ≡ true → can_all o n (left - done) s' ≡ true
can_part o n left done s s' e few can =
    let k : left ≡ done + (left - done) = omega (arith, few) in
    ap (can_all o n (left - done)) e ∙ can_rest o n done (left - done) s (subst (λ x. can_all o n x s ≡ true) k can)

-- ---- machines

pub same_setting : (m m' : Past) → m'.image ≡ m.image → m'.origin ≡ m.origin → setting_in m' ≡ setting_in m
same_setting m m' ei eo = ap (λ i. setting_of i m'.origin) ei ∙ ap (setting_of m.image) eo

pub can_on : (m m' : Past) (n left done : ℕ) → IsAfter (Run n done) m m' → done ≤ left → can_all (setting_in m) n left (state_of m) ≡ true → can_all (setting_in m') n (left - done) (state_of m') ≡ true
can_on m m' n left done after few can =
    subst (λ o. can_all o n (left - done) (state_of m') ≡ true) (sym (same_setting m m' after.image after.origin)) (can_part (setting_in m) n left done (state_of m) (state_of m') after.state few can)

pub rest_on : (m m' : Past) (n left done : ℕ) → IsAfter (Run n done) m m' → done ≤ left → instructions (setting_in m') n (left - done) (state_of m') ≡ instructions (setting_in m) n left (state_of m)
rest_on m m' n left done after few =
    ap (λ o. instructions o n (left - done) (state_of m')) (same_setting m m' after.image after.origin) ∙ run_part (setting_in m) n left done (state_of m) (state_of m') after.state few

pub count_on : (m m' : Past) (n left done total : ℕ) → IsAfter (Run n done) m m' → done ≤ left → length (written m.journal) + left ≡ total → length (written m'.journal) + (left - done) ≡ total
count_on m m' n left done total after few e = omega (arith, after.count, run_written n done, few, e)

-- all the instructions were executed
pub all_done : (m m' : Past) (n left count : ℕ) → m'.image ≡ m.image → m'.origin ≡ m.origin → left ≡ 0 → instructions (setting_in m') n left (state_of m') ≡ instructions (setting_in m) n count (state_of m) → length (written m'.journal) + left ≡ length (written m.journal) + count → IsAfter (Run n count) m m'
all_done m m' n left count ei eo el rest ec =
    record { image = ei; origin = eo; state = sym (ap (λ k. instructions (setting_in m') n k (state_of m')) el) ∙ rest; count = omega (arith, el, ec, run_written n count) }

-- ---- events that are allowed

-- there is no reason against the event
pub no_cause : (e : MachineNo) (why : No) (x : Option No) → e ≡ NotEnabled why → IsCause e x → x ≡ None → ⊥
no_cause e why x is cause none = clash (subst (λ f. IsCause f x) is cause)
  where
    clash : x ≡ Some why → ⊥
    clash some = cc

pub next_layout : (o : Setting) (s : Shuffled) (k : ℕ) → Allowed o (Publish k) s → k ≡ s.newest + 1
next_layout o s k a = eq_of _ _ (and_second _ _ (and_second _ _ a))

pub after_erase : (m m' : Past) (k : ℕ) → m' ≡ with_event m (Erase ((state_of m).newest - 1)) → k ≡ (state_of m).newest - 1 → IsAfter (Erase k) m m'
after_erase m m' k is e = after_with (Erase k) m m' (is ∙ ap (λ n. with_event m (Erase n)) (sym e))

-- the layout that is published is the newest
pub newest_is : (m m' : Past) (k : ℕ) → m' ≡ with_event m (Publish k) → (state_of m').newest ≡ k
newest_is m m' k is = ap (λ (s : Shuffled). s.newest) (after_with (Publish k) m m' is).state

pub setting_is : (e : Event) (m m' : Past) → m' ≡ with_event m e → setting_in m' ≡ setting_in m
setting_is e m m' is = let a = after_with e m m' is in same_setting m m' a.image a.origin

-- ---- lists of events

written_cons : (e : Event) (es : List Event) → length (written (e ∷ es)) ≡ length (written (e ∷ [])) + length (written es)
written_cons (Run h n) es =
    let a : length (replicate n h ++ written es) ≡ length (replicate n h) + length (written es) = length-append (replicate n h) (written es) in
    let b : length (replicate n h) ≡ n = length-replicate n h in
    omega (arith, a, b, run_written h n)
written_cons (Migrate h) es = omega arith
written_cons (Publish k) es = omega arith
written_cons (Erase k) es = omega arith

pub room_first : (m : Past) (e : Event) (es : List Event) → CanRun m (e ∷ es) → length (written m.journal) + length (written (e ∷ [])) < 2 ^ 64
room_first m e es can = omega (arith, can.room, written_cons e es)

pub can_next : (m m' : Past) (e : Event) (es : List Event) → CanRun m (e ∷ es) → IsAfter e m m' → CanRun m' es
can_next m m' e es can after =
    record {
      legal = subst (λ o. IsLegalFrom o (state_of m') es) (sym (same_setting m m' after.image after.origin)) (subst (λ s. IsLegalFrom (setting_in m) s es) (sym after.state) can.legal.1);
      room = omega (arith, can.room, written_cons e es, after.count);
    }

-- the events from one on
pub events_from : (es : List Event) (i : ℕ) → i < length es → drop i es ≡ get_or es i (Run 0 0) ∷ drop (i + 1) es
events_from es i l = drop-cons es i (Run 0 0) l ∙ ap (λ j. get_or es i (Run 0 0) ∷ drop j es) (sym (add-one i))

-- a machine that has done nothing can run what another of its image and origin did
pub can_again : (m again : Past) → again ≡ opening m.image m.origin → IsLegal m.image m.origin m.journal → length (written m.journal) < 2 ^ 64 → CanRun again m.journal
unfolding IsLegalIn state_after
can_again m again is legal few = subst (λ x. CanRun x m.journal) (sym is) (record { legal = legal; room = omega (arith, few) })
