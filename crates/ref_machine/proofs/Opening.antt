-- SPDX-License-Identifier: Apache-2.0
-- The state that a run begins with.
use Rattle.std.proofs.Common.{◌≡◌, ℕ, zero, suc, ◌+◌, ◌≤◌, Option, Some, None, Result, Ok, Err, List, [], ◌∷◌, length, drop, refl, sym, ap, ◌∙◌, subst, arith}
use Rattle.std.specs.Prelude.{slice_get, vec_capacity, OnOk, OnErr}
use Rattle.std.proofs.Math.Path.{fun_ext}
use Rattle.sh_types.specs.declared.code.Image.{Image}
use Rattle.sh_types.specs.declared.runs.End.{End}
use Rattle.sh_types.specs.declared.runs.NoMemory.{NoMemory}
use Rattle.sh_types.specs.Image.{sizes_of}
use Rattle.sh_types.specs.Limits.{most_harts}
use Rattle.sh_types.specs.Sized.{IsSized}
use Rattle.sh_machines.specs.Fine.{IsFine}
use Rattle.sh_machines.specs.Memory.{first_word}
use Rattle.sh_machines.specs.PlainSerial.{plain_list, plain_turns, written_turns}
use Rattle.sh_machines.specs.Unmoved.{Thread, Content, Number, Unmoved, first_thread, unmoved_from, unmoved_start, unmoved_run}
use Rattle.thread_step.specs.Numbered.{IsWorded}
use Rattle.ref_machine.specs.declared.answers.PlainNo.{PlainNo}
use Rattle.ref_machine.specs.declared.state.State.{State}
use Rattle.plain_memory.specs.declared.memory.PlainMemory.{PlainMemory}
use Rattle.ref_machine.specs.Meant.{AreNumbered, IsMapped, IsOpening, IsSound, state_of, threads_of}
use Rattle.ref_machine.specs.Ran.{Listed, ListedPart}
use Rattle.ref_machine.specs.Standing.{Run, IsPart, IsPlain, opening, whole, after}
use Rattle.plain_memory.specs.Plain.{contents_of, regions_of}
use Rattle.ref_machine.proofs.Low.{code_is}
use Rattle.ref_machine.proofs.Sounds.{sound_listed}

abbrev with_all : List Thread → (ℕ → Content) → (unread output : List ℕ) → Option End → Unmoved
with_all ts x unread output e = record { threads = ts; contents = x; unread = unread; output = output; end = e }

pub opening_is : (i : Image) (input : List ℕ) (s : State) (x : ℕ → Content) → IsOpening i input s → ((w : ℕ) → x w ≡ Number (first_word i.regions w)) → state_of s x ≡ unmoved_start i input
opening_is i input s x o words =
    ap (λ ts. with_all ts x (drop s.read s.input) s.output.items s.end) o.threads
    ∙ ap (λ y. with_all (first_thread i ∷ []) y (drop s.read s.input) s.output.items s.end) (fun_ext words)
    ∙ ap (λ un. with_all (first_thread i ∷ []) (λ w. Number (first_word i.regions w)) un s.output.items s.end) o.unread
    ∙ ap (λ out. with_all (first_thread i ∷ []) (λ w. Number (first_word i.regions w)) input out s.end) o.output
    ∙ ap (λ e. with_all (first_thread i ∷ []) (λ w. Number (first_word i.regions w)) input [] e) o.end

numbered : (t : Thread) → t.number ≡ 0 → AreNumbered (t ∷ [])
numbered t e = λ k x g. by k x g
  where
    by : (k : ℕ) (x : Thread) → slice_get (t ∷ []) k ≡ Some x → x.number ≡ k
    by zero x g = let q : t ≡ x = cc in sym (ap (λ (y : Thread). y.number) q) ∙ e
    by (suc k) x g = absurd (cc)

pub start_sound : (i : Image) (input : List ℕ) → IsSound (unmoved_start i input)
start_sound i input = record { few = omega arith; numbered = numbered (first_thread i) refl; live = λ g. refl }

-- what a whole run from the start is
pub plain_is : (i : Image) (input : List ℕ) (quantum steps : ℕ) (r r' : Run) → r ≡ opening i input → r' ≡ after (written_turns (plain_turns r.image quantum steps r.count r.state)) r → r' ≡ whole i input (plain_list i input quantum steps)
unfolding plain_list unmoved_run
plain_is i input quantum steps r r' e eq =
    let ns : List ℕ = plain_list i input quantum steps in
    let z : (n : ℕ) → 0 + n ≡ n = (λ n. omega arith) in
    eq
    ∙ ap (λ (x : Run). after (written_turns (plain_turns x.image quantum steps x.count x.state)) x) e
    ∙ ap (λ n. record { image = i; state = unmoved_from i ns (unmoved_start i input); count = n }) (z (length ns))

-- ---- a new machine

pub plain_opens : (i j : Image) (input : List ℕ) (s : State) (m : PlainMemory) → j ≡ i → IsFine i → IsSized (sizes_of i) → IsWorded i → IsOpening i input s → most_harts ≤ vec_capacity s.threads → ((w : ℕ) → contents_of m w ≡ Number (first_word i.regions w)) → IsMapped i (regions_of m) → IsPlain j s m
plain_opens i j input s m ej fine sized worded o room words mapped =
    subst (λ k. IsPlain k s m) (sym ej)
    (record {
      code = code_is i fine sized worded;
      mapped = mapped;
      sound = subst IsSound (sym (opening_is i input s (contents_of m) o words)) (start_sound i input);
      room = room;
    })

pub opens_so : (i j : Image) (input : List ℕ) (s : State) (m : PlainMemory) → j ≡ i → IsOpening i input s → ((w : ℕ) → contents_of m w ≡ Number (first_word i.regions w)) → record { image = j; state = state_of s (contents_of m); count = s.count } ≡ opening i input
opens_so i j input s m ej o words =
    ap (λ k. run_at k (state_of s (contents_of m)) s.count) ej
    ∙ ap (λ u. run_at i u s.count) (opening_is i input s (contents_of m) o words)
    ∙ ap (run_at i (unmoved_start i input)) o.count
  where
    run_at : Image → Unmoved → ℕ → Run
    run_at k u n = record { image = k; state = u; count = n }

-- ---- what holds of a machine goes on

pub plain_goes_on : (i : Image) (s s' : State) (m m' : PlainMemory) (ns : List ℕ) → IsPlain i s m → Listed i ns s.count (state_of s (contents_of m)) s'.count (state_of s' (contents_of m')) → regions_of m' ≡ regions_of m → vec_capacity s'.threads ≡ vec_capacity s.threads → IsPlain i s' m'
plain_goes_on i s s' m m' ns p l r v =
    record {
      code = p.code;
      mapped = subst (IsMapped i) (sym r) p.mapped;
      sound = sound_listed i ns s.count (state_of s (contents_of m)) s'.count (state_of s' (contents_of m')) p.sound l;
      room = omega (arith, p.room, v);
    }

pub listed_run : (i : Image) (ns : List ℕ) (c : ℕ) (u : Unmoved) (c' : ℕ) (u' : Unmoved) → Listed i ns c u c' u' → record { image = i; state = u'; count = c' } ≡ after ns (record { image = i; state = u; count = c })
listed_run i ns c u c' u' l = ap (λ x. run_at x c') l.state ∙ ap (run_at (unmoved_from i ns u)) l.count
  where
    run_at : Unmoved → ℕ → Run
    run_at x n = record { image = i; state = x; count = n }

pub step_keeps : (i : Image) (s s' : State) (m m' : PlainMemory) (n : ℕ) (r : Result (Unit {0}) PlainNo) → IsPlain i s m → OnOk r (Listed i (n ∷ []) s.count (state_of s (contents_of m)) s'.count (state_of s' (contents_of m'))) → OnErr r (Listed i [] s.count (state_of s (contents_of m)) s'.count (state_of s' (contents_of m'))) → regions_of m' ≡ regions_of m → vec_capacity s'.threads ≡ vec_capacity s.threads → IsPlain i s' m'
step_keeps i s s' m m' n (Ok x) p ok err er ev = plain_goes_on i s s' m m' (n ∷ []) p ok er ev
step_keeps i s s' m m' n (Err e) p ok err er ev = plain_goes_on i s s' m m' [] p err er ev

pub run_keeps : (i : Image) (s s' : State) (m m' : PlainMemory) (all : List ℕ) (r : Result (Unit {0}) NoMemory) → IsPlain i s m → OnOk r (Listed i all s.count (state_of s (contents_of m)) s'.count (state_of s' (contents_of m'))) → OnErr r (ListedPart i all s.count (state_of s (contents_of m)) s'.count (state_of s' (contents_of m'))) → regions_of m' ≡ regions_of m → vec_capacity s'.threads ≡ vec_capacity s.threads → IsPlain i s' m'
run_keeps i s s' m m' all (Ok x) p ok err er ev = plain_goes_on i s s' m m' all p ok er ev
run_keeps i s s' m m' all (Err e) p ok err er ev = plain_goes_on i s s' m m' err.first p err.listed er ev

-- what a run from the start comes to
pub plain_on : (i : Image) (quantum steps c : ℕ) (u : Unmoved) (c' : ℕ) (u' : Unmoved) (r : Result (Unit {0}) NoMemory) → OnOk r (Listed i (written_turns (plain_turns i quantum steps c u)) c u c' u') → OnOk r ((input : List ℕ) → record { image = i; state = u; count = c } ≡ opening i input → record { image = i; state = u'; count = c' } ≡ whole i input (plain_list i input quantum steps))
plain_on i quantum steps c u c' u' (Ok x) l = λ input e. plain_is i input quantum steps (record { image = i; state = u; count = c }) (record { image = i; state = u'; count = c' }) e (listed_run i (written_turns (plain_turns i quantum steps c u)) c u c' u' l)
plain_on i quantum steps c u c' u' (Err e) l = tt
