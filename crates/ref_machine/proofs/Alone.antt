-- SPDX-License-Identifier: Apache-2.0
-- One hart alone: its own instructions, and the one at which others come in.
use Rattle.std.proofs.Common.{◌≡◌, ℕ, ◌+◌, ◌≤◌, ◌<◌, Bool, true, false, Option, Some, None, Result, Ok, Err, List, [], ◌++◌, refl, sym, ap, ◌∙◌, subst, arith, append-nil}
use Rattle.std.specs.Prelude.{slice_get, slice_set}
use Rattle.sh_types.specs.declared.code.Image.{Image}
use Rattle.sh_types.specs.declared.runs.Stored.{Stored}
use Rattle.sh_machines.specs.Kind.{kind_at}
use Rattle.sh_machines.specs.Need.{Outcome, Goes, Puts, Calls, Quits, Traps, Leaks, answered, set_at, words_after}
use Rattle.sh_machines.specs.Unmoved.{Thread, Content, Unmoved, thread_needs, threads_lose, can_go, then_leaves, unmoved_step}
use Rattle.thread_acts.specs.declared.answers.Did.{Did}
use Rattle.thread_acts.specs.declared.answers.Did.TheVariants.{Went, Call, HartEnd, Trapped, Leak}
use Rattle.thread_acts.specs.Done.{did_of, thread_after}
use Rattle.sh_law.proofs.Lists.{get_at}
use Rattle.ref_machine.specs.Losing.{any_reserved}
use Rattle.ref_machine.specs.Meant.{IsSound}
use Rattle.ref_machine.specs.Next.{outcome_of, next_outcome, placed, lost, IsAt, IsAlone, IsPaused, goes_alone, IsNext, IsDue, settled}
use Rattle.ref_machine.specs.Ran.{Ran, RanOn, RanShort}
use Rattle.ref_machine.proofs.Lives.{can_of}
use Rattle.ref_machine.proofs.Kept.{Continues, OutKept, needs_kept}
use Rattle.ref_machine.proofs.Lost.{none_lost, set_free}
use Rattle.ref_machine.proofs.Rans.{ran_none, ran_one, ran_more}
use Rattle.ref_machine.proofs.Sounds.{sound_ran}
use Rattle.ref_machine.proofs.Steps.{step_is}
use Rattle.ref_machine.proofs.Threads.{set_same, set_again}

abbrev with_threads : Unmoved → List Thread → (ℕ → Content) → Unmoved
with_threads u ts x = record { threads = ts; contents = x; unread = u.unread; output = u.output; end = u.end }

-- a hart that is put where it stands changes nothing
pub placed_same : (u : Unmoved) (n : ℕ) (t : Thread) (x : ℕ → Content) → slice_get u.threads n ≡ Some t → u.contents ≡ x → placed u n t x ≡ u
placed_same u n t x e ex = ap (λ ts. with_threads u ts x) (set_same u.threads n t e) ∙ ap (with_threads u u.threads) (sym ex)

pub alone_first : (i : Image) (n limit c : ℕ) (w : Bool) (u : Unmoved) (t : Thread) (x : ℕ → Content) → IsAt n w u t x → c ≤ limit → IsAlone i n limit c c u t x
alone_first i n limit c w u t x a l =
    record { ran = subst (Ran i n limit c u c) (sym (placed_same u n t x a.there a.words)) (ran_none i n limit c u l); live = a.live; number = a.number }

-- ---- what an instruction of the hart leaves

-- what an instruction that went leaves: other harts may lose reservations
left_is : (u : Unmoved) (n : ℕ) (t g : Thread) (x y : ℕ → Content) (stored : Option Stored) → u.end ≡ None → record { threads = threads_lose n stored (slice_set (slice_set u.threads n t) n g); contents = y; unread = u.unread; output = u.output ++ []; end = None } ≡ lost n stored (placed u n g y)
left_is u n t g x y stored e =
    ap (λ ts. record { threads = threads_lose n stored ts; contents = y; unread = u.unread; output = u.output ++ []; end = None }) (set_again u.threads n t g)
    ∙ ap (λ o. record { threads = threads_lose n stored (slice_set u.threads n g); contents = y; unread = u.unread; output = o; end = None }) (append-nil u.output)
    ∙ ap (λ z. record { threads = threads_lose n stored (slice_set u.threads n g); contents = y; unread = u.unread; output = u.output; end = z }) (sym e)

stored_by : Did → Option Stored
stored_by (Went stored) = stored
stored_by Call = None
stored_by HartEnd = None
stored_by (Trapped kind value) = None
stored_by Leak = None

went_by : (i : Image) (u : Unmoved) (n : ℕ) (t : Thread) (x : ℕ → Content) (out : Outcome Thread Content) (stored : Option Stored) → u.end ≡ None → Went stored ≡ did_of out → then_leaves i (placed u n t x) n t out ≡ lost n stored (placed u n (thread_after out t) (words_after out x))
unfolding stored_by
went_by i u n t x (Goes g) stored e d = left_is u n t g x x None e ∙ ap (λ s. lost n s (placed u n g x)) (sym (ap stored_by d))
went_by i u n t x (Puts g w c s) stored e d = left_is u n t g x (set_at x w c) s e ∙ ap (λ z. lost n z (placed u n g (set_at x w c))) (sym (ap stored_by d))
went_by i u n t x Calls stored e d = absurd (cc)
went_by i u n t x Quits stored e d = absurd (cc)
went_by i u n t x (Traps k v) stored e d = absurd (cc)
went_by i u n t x Leaks stored e d = absurd (cc)

-- the hart goes on
went_kept : (i : Image) (t : Thread) (x : ℕ → Content) (out : Outcome Thread Content) (stored : Option Stored) → Went stored ≡ did_of out → out ≡ answered (thread_needs i t) x → Continues t (thread_after out t)
went_kept i t x out stored d e = by out d (subst (OutKept (kind_at i t.at) t) (sym e) (needs_kept i t x))
  where
    by : (o : Outcome Thread Content) → Went stored ≡ did_of o → OutKept (kind_at i t.at) t o → Continues t (thread_after o t)
    by (Goes g) d k = k
    by (Puts g w c s) d k = k
    by Calls d k = absurd (cc)
    by Quits d k = absurd (cc)
    by (Traps kind v) d k = absurd (cc)
    by Leaks d k = absurd (cc)

-- a hart at its place can go, and this is its next instruction
module _ (i : Image) (n : ℕ) (u : Unmoved) (t0 : Thread) (end : u.end ≡ None) (there : slice_get u.threads n ≡ Some t0) where
  pub placed_there : (t : Thread) (x : ℕ → Content) → slice_get (placed u n t x).threads n ≡ Some t
  placed_there t x = get_at u.threads n t0 t there

  pub placed_can : (t : Thread) (x : ℕ → Content) → t.live ≡ true → can_go (placed u n t x) n ≡ true
  placed_can t x l = can_of (placed u n t x) n t end (placed_there t x) l

  pub placed_next : (t : Thread) (x : ℕ → Content) → next_outcome i n (placed u n t x) ≡ answered (thread_needs i t) x
  placed_next t x = ap (outcome_of i x) (placed_there t x)

  pub placed_step : (t : Thread) (x : ℕ → Content) → t.live ≡ true → unmoved_step i n (placed u n t x) ≡ then_leaves i (placed u n t x) n t (answered (thread_needs i t) x)
  placed_step t x l = step_is i n (placed u n t x) t (placed_can t x l) (placed_there t x) ∙ ap (then_leaves i (placed u n t x) n t) (placed_next t x)

-- nothing is lost where the hart is alone
alone_keeps : (n : ℕ) (w : Bool) (u : Unmoved) (t : Thread) (x : ℕ → Content) (stored : Option Stored) → goes_alone (Went stored) w ≡ true → t.number ≡ n → (w ≡ false → any_reserved n u.threads ≡ false) → lost n stored (placed u n t x) ≡ placed u n t x
alone_keeps n w u t x None g en free = refl
alone_keeps n true u t x (Some s) g en free = absurd (cc)
alone_keeps n false u t x (Some s) g en free =
    ap (λ ts. with_threads u ts x) (none_lost n (Some s) (slice_set u.threads n t) (set_free n u.threads n t en (free refl)))

-- one more instruction of its own
pub alone_more : (i : Image) (n limit c c' : ℕ) (w : Bool) (u : Unmoved) (t0 t t' : Thread) (x0 x x' : ℕ → Content) (did : Did) (out : Outcome Thread Content) → IsAt n w u t0 x0 → IsAlone i n limit c c' u t x → c' < limit → out ≡ answered (thread_needs i t) x → did ≡ did_of out → t' ≡ thread_after out t → x' ≡ words_after out x → goes_alone did w ≡ true → IsAlone i n limit c (c' + 1) u t' x'
alone_more i n limit c c' w u t0 t t' x0 x x' Call out a p l eo ed et ex g = absurd (cc)
alone_more i n limit c c' w u t0 t t' x0 x x' HartEnd out a p l eo ed et ex g = absurd (cc)
alone_more i n limit c c' w u t0 t t' x0 x x' (Trapped kind value) out a p l eo ed et ex g = absurd (cc)
alone_more i n limit c c' w u t0 t t' x0 x x' Leak out a p l eo ed et ex g = absurd (cc)
alone_more i n limit c c' w u t0 t t' x0 x x' (Went stored) out a p l eo ed et ex g =
    let k : Continues t (thread_after out t) = went_kept i t x out stored ed eo in
    let live : t'.live ≡ true = ap (λ (y : Thread). y.live) et ∙ k.live ∙ p.live in
    let number : t'.number ≡ n = ap (λ (y : Thread). y.number) et ∙ k.number ∙ p.number in
    let can = placed_can i n u t0 a.end a.there t x p.live in
    let is : unmoved_step i n (placed u n t x) ≡ placed u n t' x' =
    placed_step i n u t0 a.end a.there t x p.live
    ∙ ap (then_leaves i (placed u n t x) n t) (sym eo)
    ∙ went_by i u n t x out stored a.end ed
    ∙ ap (λ y. lost n stored (placed u n y (words_after out x))) (sym et)
    ∙ ap (λ y. lost n stored (placed u n t' y)) (sym ex)
    ∙ alone_keeps n w u t' x' stored g number a.free in
    record {
      ran = ran_more i n limit c u c' (placed u n t x) (c' + 1) (placed u n t' x') p.ran (subst (Ran i n limit c' (placed u n t x) (c' + 1)) is (ran_one i n limit c' (placed u n t x) can l));
      live = live;
      number = number;
    }

-- ---- where it pauses

-- what is to be settled, and what that leaves: the instruction is done, by the state before it
module _ (i : Image) (n limit c c' : ℕ) (w : Bool) (u : Unmoved) (t0 : Thread) (x0 : ℕ → Content) (a : IsAt n w u t0 x0) where
  due_by : (t : Thread) (x : ℕ → Content) (out : Outcome Thread Content) (did : Did) → IsAlone i n limit c c' u t x → out ≡ answered (thread_needs i t) x → did ≡ did_of out → IsSound u → IsDue i n did (placed u n (thread_after out t) (words_after out x))
  due_by t x out did p eo ed so = subst (λ d. IsDue i n d (placed u n (thread_after out t) (words_after out x))) (sym ed) (by out eo)
    where
      next : (o : Outcome Thread Content) → o ≡ answered (thread_needs i t) x → IsNext i n o (placed u n t x)
      next o e =
          record {
            sound = sound_ran i n limit c u c' (placed u n t x) so p.ran;
            can = placed_can i n u t0 a.end a.there t x p.live;
            comes = placed_next i n u t0 a.end a.there t x ∙ sym e;
          }

      by : (o : Outcome Thread Content) → o ≡ answered (thread_needs i t) x → IsDue i n (did_of o) (placed u n (thread_after o t) (words_after o x))
      by (Goes g) e = tt
      by (Puts g k y stored) e = tt
      by Calls e = next Calls e
      by Quits e = next Quits e
      by (Traps kind v) e = next (Traps kind v) e
      by Leaks e = next Leaks e

  settled_by : (t : Thread) (x : ℕ → Content) (out : Outcome Thread Content) (did : Did) → IsAlone i n limit c c' u t x → out ≡ answered (thread_needs i t) x → did ≡ did_of out → settled i n did (placed u n (thread_after out t) (words_after out x)) ≡ unmoved_step i n (placed u n t x)
  settled_by t x out did p eo ed = ap (λ d. settled i n d (placed u n (thread_after out t) (words_after out x))) ed ∙ by out eo
    where
      went : (o : Outcome Thread Content) (stored : Option Stored) → o ≡ answered (thread_needs i t) x → Went stored ≡ did_of o → lost n stored (placed u n (thread_after o t) (words_after o x)) ≡ unmoved_step i n (placed u n t x)
      went o stored e d =
          sym (placed_step i n u t0 a.end a.there t x p.live ∙ ap (then_leaves i (placed u n t x) n t) (sym e) ∙ went_by i u n t x o stored a.end d)

      by : (o : Outcome Thread Content) → o ≡ answered (thread_needs i t) x → settled i n (did_of o) (placed u n (thread_after o t) (words_after o x)) ≡ unmoved_step i n (placed u n t x)
      by (Goes g) e = went (Goes g) None e refl
      by (Puts g k y stored) e = went (Puts g k y stored) stored e refl
      by Calls e = refl
      by Quits e = refl
      by (Traps kind v) e = refl
      by Leaks e = refl

  called_by : (t : Thread) (x : ℕ → Content) (out : Outcome Thread Content) → Call ≡ did_of out → placed u n (thread_after out t) (words_after out x) ≡ placed u n t x
  called_by t x (Goes g) d = absurd (cc)
  called_by t x (Puts g k y stored) d = absurd (cc)
  called_by t x Calls d = refl
  called_by t x Quits d = absurd (cc)
  called_by t x (Traps kind v) d = absurd (cc)
  called_by t x Leaks d = absurd (cc)

  paused_is : (t : Thread) (x : ℕ → Content) (did : Did) → (q : IsPaused i n limit c c' u t x did) → placed u n t x ≡ placed u n (thread_after (answered (thread_needs i q.before) q.words) q.before) (words_after (answered (thread_needs i q.before) q.words) q.words)
  paused_is t x did q = ap (λ y. placed u n y x) q.thread ∙ ap (placed u n (thread_after (answered (thread_needs i q.before) q.words) q.before)) q.contents

  pub paused_due : (t : Thread) (x : ℕ → Content) (did : Did) (v : Unmoved) → IsPaused i n limit c c' u t x did → IsSound u → v ≡ placed u n t x → IsDue i n did v
  paused_due t x did v q so ev =
      subst (IsDue i n did) (sym (ev ∙ paused_is t x did q)) (due_by q.before q.words (answered (thread_needs i q.before) q.words) did q.alone refl q.did_is so)

  -- once it is settled there is one instruction more
  pub paused_on : (t : Thread) (x : ℕ → Content) (did : Did) (v v' : Unmoved) (c'' : ℕ) → IsPaused i n limit c c' u t x did → v ≡ placed u n t x → v' ≡ settled i n did v → c'' ≡ c' + 1 → RanOn i n limit c u c'' v'
  paused_on t x did v v' c'' q ev es ec =
      let b : Unmoved = placed u n q.before q.words in
      let is : v' ≡ unmoved_step i n b = es ∙ ap (settled i n did) (ev ∙ paused_is t x did q) ∙ settled_by q.before q.words (answered (thread_needs i q.before) q.words) did q.alone refl q.did_is in
      let one : Ran i n limit c' b (c' + 1) (unmoved_step i n b) = ran_one i n limit c' b (placed_can i n u t0 a.end a.there q.before q.words q.alone.live) q.less in
      let r : Ran i n limit c u (c' + 1) (unmoved_step i n b) = ran_more i n limit c u c' b (c' + 1) (unmoved_step i n b) q.alone.ran one in
      let s : Ran i n limit c u c'' v' = subst (λ k. Ran i n limit c u k v') (sym ec) (subst (Ran i n limit c u (c' + 1)) (sym is) r) in
      record { ran = s; more = omega (arith, ec, q.alone.ran.count) }

  -- where memory was refused to a call, nothing more has happened
  pub paused_short : (t : Thread) (x : ℕ → Content) (did : Did) (v v' : Unmoved) (c'' : ℕ) → IsPaused i n limit c c' u t x did → did ≡ Call → v ≡ placed u n t x → v' ≡ v → c'' ≡ c' → RanShort i n limit c u c'' v'
  paused_short t x did v v' c'' q ed ev es ec =
      let is : v' ≡ placed u n q.before q.words = es ∙ ev ∙ paused_is t x did q ∙ called_by q.before q.words (answered (thread_needs i q.before) q.words) (sym ed ∙ q.did_is) in
      let s : Ran i n limit c u c'' v' = subst (λ k. Ran i n limit c u k v') (sym ec) (subst (Ran i n limit c u c') (sym is) q.alone.ran) in
      record { ran = s; less = omega (arith, ec, q.less) }

-- at the limit
pub alone_on : (i : Image) (n limit c c' : ℕ) (u v : Unmoved) (t : Thread) (x : ℕ → Content) → IsAlone i n limit c c' u t x → limit ≤ c' → c < limit → v ≡ placed u n t x → RanOn i n limit c u c' v
alone_on i n limit c c' u v t x p l m ev = record { ran = subst (Ran i n limit c u c') (sym ev) p.ran; more = omega (arith, l, m) }

-- where memory was refused
pub alone_short : (i : Image) (n limit c c' : ℕ) (u v : Unmoved) (t : Thread) (x : ℕ → Content) → IsAlone i n limit c c' u t x → c' < limit → v ≡ placed u n t x → RanShort i n limit c u c' v
alone_short i n limit c c' u v t x p l ev = record { ran = subst (Ran i n limit c u c') (sym ev) p.ran; less = l }
