-- SPDX-License-Identifier: Apache-2.0
-- What holds of each state that is reached.
use Rattle.std.proofs.Common.{◌≡◌, ◌≢◌, ◌⊎◌, inl, inr, ℕ, zero, suc, ◌+◌, ◌≤◌, Bool, true, false, Option, Some, None, List, [], ◌∷◌, ◌++◌, length, replicate, refl, sym, ap, ◌∙◌, subst, arith, length-append}
use Rattle.std.specs.Prelude.{map, slice_get, slice_set, ◌==◌, ◌%◌, slice_index, if◌then◌else◌}
use Rattle.sh_types.specs.declared.code.Image.{Image}
use Rattle.sh_types.specs.declared.code.Pair.{Pair}
use Rattle.sh_types.specs.declared.runs.Stored.{Stored}
use Rattle.sh_types.specs.Limits.{most_harts}
use Rattle.sh_machines.specs.Environment.{CallDid, Answers, Reads, Starts, ExitsHart, ExitsRun, LeaksWord, call_of}
use Rattle.sh_machines.specs.Kind.{Kind, kind_at}
use Rattle.sh_machines.specs.Need.{Outcome, Goes, Puts, Calls, Quits, Traps, Leaks, answered, stored_at, kept_from}
use Rattle.sh_machines.specs.Unmoved.{Thread, Content, Unmoved, thread_needs, thread_asks, set_thread, reserves, thread_loses, threads_lose, ended_thread, new_thread, then_call, then_leaves, on_thread, can_go, unmoved_step, unmoved_from}
use Rattle.pace_law.proofs.Alive.{step_live}
use Rattle.sh_law.proofs.Lists.{get_set, got_map, got_end, length_map}
use Rattle.ref_machine.specs.Meant.{AreNumbered, IsSound}
use Rattle.ref_machine.specs.Ran.{Ran, Listed}
use Rattle.ref_machine.proofs.Calling.{Fits, call_fits}
use Rattle.ref_machine.proofs.Kept.{Continues, OutKept, needs_kept}
use Rattle.ref_machine.proofs.Threads.{length_set}

-- few harts, each with the number of its place
abbrev IsOrdered : List Thread → Type 0
IsOrdered ts = (length ts ≤ most_harts) × AreNumbered ts

-- ---- lists of harts

set_ordered : (ts : List Thread) (n : ℕ) (t : Thread) → IsOrdered ts → t.number ≡ n → IsOrdered (slice_set ts n t)
set_ordered ts n t o e = (omega (arith, o.0, length_set ts n t), λ k x g. by k x (get_set ts n k t x g))
  where
    by : (k : ℕ) (x : Thread) → ((k ≡ n) × (x ≡ t)) ⊎ ((k ≢ n) × (slice_get ts k ≡ Some x)) → x.number ≡ k
    by k x (inl q) = ap (λ (y : Thread). y.number) q.1 ∙ e ∙ sym q.0
    by k x (inr q) = o.1 k x q.1

lose_number : (n : ℕ) (s : Stored) (t : Thread) → (thread_loses n s t).number ≡ t.number
lose_number n s t = by (t.number == n)
  where
    by : (b : Bool) → (if b then t else reserves t (kept_from s t.reserved)).number ≡ t.number
    by true = refl
    by false = refl

lose_ordered : (n : ℕ) (s : Option Stored) (ts : List Thread) → IsOrdered ts → IsOrdered (threads_lose n s ts)
lose_ordered n None ts o = o
lose_ordered n (Some s) ts o = (omega (arith, o.0, length_map (thread_loses n s) ts), λ k x g. by k x (got_map (thread_loses n s) ts k x g))
  where
    by : (k : ℕ) (x : Thread) → (y : Thread) × (slice_get ts k ≡ Some y) × (thread_loses n s y ≡ x) → x.number ≡ k
    by k x q = sym (ap (λ (z : Thread). z.number) q.2) ∙ lose_number n s q.0 ∙ o.1 k q.0 q.1

more_ordered : (ts : List Thread) (t : Thread) → IsOrdered ts → length ts + 1 ≤ most_harts → t.number ≡ length ts → IsOrdered (ts ++ t ∷ [])
more_ordered ts t o l e = (omega (arith, l, length-append ts (t ∷ [])), λ k x g. by k x (got_end ts t k x g))
  where
    by : (k : ℕ) (x : Thread) → (slice_get ts k ≡ Some x) ⊎ ((k ≡ length ts) × (t ≡ x)) → x.number ≡ k
    by k x (inl q) = o.1 k x q
    by k x (inr q) = sym (ap (λ (z : Thread). z.number) q.1) ∙ e ∙ sym q.0

-- ---- instructions

call_ordered : (i : Image) (u : Unmoved) (n : ℕ) (t : Thread) (d : CallDid) → Fits i.regions i.rows (thread_asks u t) d → IsOrdered u.threads → t.number ≡ n → IsOrdered (then_call u n t d).threads
call_ordered i u n t (Answers v more) f o e = set_ordered u.threads n (set_thread t 10 v) o e
call_ordered i u n t (Reads a bytes) f o e = lose_ordered n (Some (stored_at a (length bytes))) (slice_set u.threads n (set_thread t 10 (length bytes))) (set_ordered u.threads n (set_thread t 10 (length bytes)) o e)
call_ordered i u n t (Starts g a0 sp tp) f o e =
    let ts : List Thread = slice_set u.threads n (set_thread t 10 (length u.threads)) in
    let l = length_set u.threads n (set_thread t 10 (length u.threads)) in
    more_ordered ts (new_thread (length u.threads) g a0 sp tp) (set_ordered u.threads n (set_thread t 10 (length u.threads)) o e) (omega (arith, l, f.few, length_map (λ (x : Thread). x.live) u.threads)) (sym l)
call_ordered i u n t (ExitsHart code) f o e = set_ordered u.threads n (ended_thread t code) o e
call_ordered i u n t (ExitsRun code) f o e = o
call_ordered i u n t LeaksWord f o e = o

out_ordered : (i : Image) (u : Unmoved) (n : ℕ) (t : Thread) (k : Kind Pair) (out : Outcome Thread Content) → OutKept k t out → IsOrdered u.threads → t.number ≡ n → IsOrdered (then_leaves i u n t out).threads
out_ordered i u n t kind_is (Goes t') k o e = set_ordered u.threads n t' o (k.number ∙ e)
out_ordered i u n t kind_is (Puts t' w c stored) k o e = lose_ordered n stored (slice_set u.threads n t') (set_ordered u.threads n t' o (k.number ∙ e))
out_ordered i u n t kind_is Calls k o e = call_ordered i u n t (call_of i.regions i.rows (thread_asks u t)) (call_fits i.regions i.rows (thread_asks u t)) o e
out_ordered i u n t kind_is Quits k o e = set_ordered u.threads n (ended_thread t (slice_index t.regs 10 % 256)) o e
out_ordered i u n t kind_is (Traps kind v) k o e = o
out_ordered i u n t kind_is Leaks k o e = o

step_ordered : (i : Image) (n : ℕ) (u : Unmoved) → IsOrdered u.threads → IsOrdered (unmoved_step i n u).threads
unfolding unmoved_step
step_ordered i n u o = by (can_go u n)
  where
    at : (x : Option Thread) → slice_get u.threads n ≡ x → IsOrdered (on_thread i u n x).threads
    at None e = o
    at (Some t) e = out_ordered i u n t (kind_at i t.at) (answered (thread_needs i t) u.contents) (needs_kept i t u.contents) o (o.1 n t e)

    by : (b : Bool) → IsOrdered (if b then on_thread i u n (slice_get u.threads n) else u).threads
    by true = at (slice_get u.threads n) refl
    by false = o

step_sound : (i : Image) (n : ℕ) (u : Unmoved) → IsSound u → IsSound (unmoved_step i n u)
step_sound i n u s =
    let o = step_ordered i n u (s.few, s.numbered) in
    record { few = o.0; numbered = o.1; live = step_live i n u s.live }

pub from_sound : (i : Image) (ns : List ℕ) (u : Unmoved) → IsSound u → IsSound (unmoved_from i ns u)
from_sound i [] u s = s
from_sound i (n ∷ ns) u s = from_sound i ns (unmoved_step i n u) (step_sound i n u s)

pub sound_ran : (i : Image) (n limit c : ℕ) (u : Unmoved) (c' : ℕ) (u' : Unmoved) → IsSound u → Ran i n limit c u c' u' → IsSound u'
sound_ran i n limit c u c' u' s r = subst IsSound (sym r.state) (from_sound i (replicate r.k n) u s)

pub sound_listed : (i : Image) (ns : List ℕ) (c : ℕ) (u : Unmoved) (c' : ℕ) (u' : Unmoved) → IsSound u → Listed i ns c u c' u' → IsSound u'
sound_listed i ns c u c' u' s r = subst IsSound (sym r.state) (from_sound i ns u s)
