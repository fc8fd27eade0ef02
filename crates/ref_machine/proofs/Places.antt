-- SPDX-License-Identifier: Apache-2.0
-- A hart that the code takes from its place and puts back.
use Rattle.std.proofs.Common.{◌≡◌, ℕ, zero, suc, ◌+◌, ◌<◌, Bool, true, false, Option, Some, None, Result, Ok, Err, List, [], ◌∷◌, refl, sym, ap, ◌∙◌, subst}
use Rattle.std.specs.Prelude.{slice_get, slice_set, slice_index_or, OnOk, OnErr}
use Rattle.sh_types.specs.declared.code.Image.{Image}
use Rattle.sh_types.specs.declared.runs.NoMemory.{NoMemory}
use Rattle.thread_acts.specs.declared.answers.Did.{Did}
use Rattle.thread_acts.specs.declared.answers.Did.TheVariants.{Call}
use Rattle.sh_machines.specs.Unmoved as unmoved
use Rattle.sh_machines.specs.Unmoved.{Content, Unmoved}
use Rattle.thread_acts.specs.Done.{meant}
use Rattle.thread_acts.specs.declared.threads.Thread.{Thread}
use Rattle.sh_law.proofs.Lists.{get_map}
use Rattle.ref_machine.specs.declared.state.State.{State}
use Rattle.ref_machine.specs.Losing.{any_reserved}
use Rattle.ref_machine.specs.Meant.{IsSound, goes, state_of, threads_of}
use Rattle.ref_machine.specs.Next.{IsAt, IsPaused, Pauses, IsDue, placed, settled}
use Rattle.ref_machine.specs.Ran.{RanOn, RanShort}
use Rattle.ref_machine.proofs.Alone.{alone_on, alone_short, paused_due, paused_on, paused_short}
use Rattle.ref_machine.proofs.Lives.{goes_end, goes_there}
use Rattle.ref_machine.proofs.Threads.{threads_set}

got_or : {A : Type 0} (xs : List A) (n : ℕ) (x d : A) → slice_get xs n ≡ Some x → slice_index_or xs n d ≡ x
got_or [] n x d e = absurd (cc)
got_or (y ∷ xs) zero x d e = cc
got_or (y ∷ xs) (suc n) x d e = got_or xs n x d e

pub taken_at : (s : State) (n : ℕ) (x : ℕ → Content) (w : Bool) (t : Thread) → IsSound (state_of s x) → goes s n ≡ true → w ≡ any_reserved n (threads_of s.threads.items) → t ≡ slice_index_or s.threads.items n t → IsAt n w (state_of s x) (meant t) x
taken_at s n x w t so g ew et =
    let h = goes_there s n g in
    let q : t ≡ h.0 = et ∙ got_or s.threads.items n h.0 t h.1 in
    let there = get_map meant s.threads.items n t (h.1 ∙ ap Some (sym q)) in
    record {
      end = goes_end s n g;
      there = there;
      words = refl;
      live = ap (λ (y : Thread). y.live) q ∙ h.2;
      number = so.numbered n (meant t) there;
      free = λ e. sym ew ∙ e;
    }

pub put_back : (s : State) (n : ℕ) (x x' : ℕ → Content) (t : Thread) → record { threads = threads_of (slice_set s.threads.items n t); contents = x'; unread = (state_of s x).unread; output = s.output.items; end = s.end } ≡ placed (state_of s x) n (meant t) x'
put_back s n x x' t = ap (λ (ts : List unmoved.Thread). record { threads = ts; contents = x'; unread = (state_of s x).unread; output = s.output.items; end = s.end }) (threads_set s.threads.items n t)

-- ---- what a part of a run comes to

pub on_err : (r : Result (Unit {0}) NoMemory) (P : Type 0) → P → OnErr r P
on_err (Ok x) P p = tt
on_err (Err e) P p = p

pub ok_from : (r : Result (Unit {0}) NoMemory) (P Q R : Type 0) → OnOk r P → OnOk r Q → (P → Q → R) → OnOk r R
ok_from (Ok x) P Q R p q f = f p q
ok_from (Err e) P Q R p q f = tt

pub err_from : (r : Result (Unit {0}) NoMemory) (P Q R S : Type 0) → OnErr r P → OnErr r Q → OnErr r R → (P → Q → R → S) → OnErr r S
err_from (Ok x) P Q R S p q t f = tt
err_from (Err e) P Q R S p q t f = f p q t

-- a hart was taken from its place, went alone, and was put back
pub record WentAlone (i : Image) (s : State) (n limit : ℕ) (x x' : ℕ → Content) (w : Bool) (t t' : Thread) (c' : ℕ) (v : Unmoved) (r : Result (Option Did) NoMemory) : Type 0 where
  pub sound : IsSound (state_of s x)
  pub at : IsAt n w (state_of s x) (meant t) x
  pub pauses : Pauses i n limit s.count c' (state_of s x) (meant t') x' r
  pub back : v ≡ placed (state_of s x) n (meant t') x'

pub went_alone : (i : Image) (s : State) (n limit : ℕ) (x x' : ℕ → Content) (w : Bool) (t t' : Thread) (c' : ℕ) (v : Unmoved) (r r' : Result (Option Did) NoMemory) → IsSound (state_of s x) → IsAt n w (state_of s x) (meant t) x → ((m : ℕ) (u : Unmoved) → IsAt m w u (meant t) x → Pauses i m limit s.count c' u (meant t') x' r) → v ≡ placed (state_of s x) n (meant t') x' → r ≡ r' → WentAlone i s n limit x x' w t t' c' v r'
went_alone i s n limit x x' w t t' c' v r r' so a p b e =
    record { sound = so; at = a; pauses = subst (Pauses i n limit s.count c' (state_of s x) (meant t') x') e (p n (state_of s x) a); back = b }

module _ (i : Image) (s : State) (n limit : ℕ) (x x' : ℕ → Content) (w : Bool) (t t' : Thread) (c' : ℕ) (v : Unmoved) where
  pub refused : (e : NoMemory) → WentAlone i s n limit x x' w t t' c' v (Err e) → RanShort i n limit s.count (state_of s x) c' v
  refused e a = alone_short i n limit s.count c' (state_of s x) v (meant t') x' a.pauses.0 a.pauses.1 a.back

  pub at_limit : WentAlone i s n limit x x' w t t' c' v (Ok None) → s.count < limit → RanOn i n limit s.count (state_of s x) c' v
  at_limit a l = alone_on i n limit s.count c' (state_of s x) v (meant t') x' a.pauses.0 a.pauses.1 l a.back

  pub below : (did : Did) → WentAlone i s n limit x x' w t t' c' v (Ok (Some did)) → c' < limit
  below did a = a.pauses.less

  pub is_due : (did : Did) → WentAlone i s n limit x x' w t t' c' v (Ok (Some did)) → IsDue i n did v
  is_due did a = paused_due i n limit s.count c' w (state_of s x) (meant t) x a.at (meant t') x' did v a.pauses a.sound a.back

  pub settled_on : (did : Did) (v' : Unmoved) (c'' : ℕ) → WentAlone i s n limit x x' w t t' c' v (Ok (Some did)) → v' ≡ settled i n did v → c'' ≡ c' + 1 → RanOn i n limit s.count (state_of s x) c'' v'
  settled_on did v' c'' a es ec = paused_on i n limit s.count c' w (state_of s x) (meant t) x a.at (meant t') x' did v v' c'' a.pauses a.back es ec

  pub settled_short : (did : Did) (v' : Unmoved) (c'' : ℕ) → WentAlone i s n limit x x' w t t' c' v (Ok (Some did)) → did ≡ Call → v' ≡ v → c'' ≡ c' → RanShort i n limit s.count (state_of s x) c'' v'
  settled_short did v' c'' a ed es ec = paused_short i n limit s.count c' w (state_of s x) (meant t) x a.at (meant t') x' did v v' c'' a.pauses ed a.back es ec
