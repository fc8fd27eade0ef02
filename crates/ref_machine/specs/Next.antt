-- SPDX-License-Identifier: Apache-2.0
-- The next instruction of a hart, and how the code does it. This project's own.
use Rattle.std.specs.Prelude.{◌≡◌, ℕ, ◌<◌, ◌≤◌, Bool, true, false, Option, Some, None, List, Result, Ok, Err, slice_get, slice_set}
use Rattle.sh_types.specs.declared.code.Image.{Image}
use Rattle.sh_types.specs.declared.runs.NoMemory.{NoMemory}
use Rattle.sh_types.specs.declared.runs.Stored.{Stored}
use Rattle.sh_machines.specs.Need.{Outcome, Calls, Quits, Traps, Leaks, answered, words_after}
use Rattle.sh_machines.specs.Unmoved.{Thread, Content, Unmoved, thread_needs, threads_lose, can_go, unmoved_step}
use Rattle.thread_acts.specs.declared.answers.Did.{Did}
use Rattle.thread_acts.specs.declared.answers.Did.TheVariants.{Went, Call, HartEnd, Trapped, Leak}
use Rattle.thread_acts.specs.Done.{did_of, thread_after}
use Rattle.ref_machine.specs.Losing.{any_reserved}
use Rattle.ref_machine.specs.Meant.{IsSound}
use Rattle.ref_machine.specs.Ran.{Ran}

-- ---- the next instruction

abbrev pub outcome_of : Image → (ℕ → Content) → Option Thread → Outcome Thread Content
outcome_of i u None = Quits
outcome_of i u (Some t) = answered (thread_needs i t) u

-- what the next instruction of the hart with this number makes
abbrev pub next_outcome : Image → ℕ → Unmoved → Outcome Thread Content
next_outcome i n u = outcome_of i u.contents (slice_get u.threads n)

-- the state with a hart at its place, and these words
abbrev pub placed : Unmoved → ℕ → Thread → (ℕ → Content) → Unmoved
placed u n t x = record { threads = slice_set u.threads n t; contents = x; unread = u.unread; output = u.output; end = u.end }

-- the state once what the hart stored, if anything, has taken reservations
abbrev pub lost : ℕ → Option Stored → Unmoved → Unmoved
lost n stored u = record { threads = threads_lose n stored u.threads; contents = u.contents; unread = u.unread; output = u.output; end = u.end }

-- ---- one hart alone

-- a hart that can go stands at its place, and, where nobody watches, no other one holds a reservation
pub record IsAt (n : ℕ) (watched : Bool) (u : Unmoved) (t : Thread) (x : ℕ → Content) : Type 0 where
  pub end : u.end ≡ None
  pub there : slice_get u.threads n ≡ Some t
  pub words : u.contents ≡ x
  pub live : t.live ≡ true
  pub number : t.number ≡ n
  pub free : watched ≡ false → any_reserved n u.threads ≡ false

-- from count c on the hart alone has come so far, and can go on
pub record IsAlone (i : Image) (n limit c c' : ℕ) (u : Unmoved) (t : Thread) (x : ℕ → Content) : Type 0 where
  pub ran : Ran i n limit c u c' (placed u n t x)
  pub live : t.live ≡ true
  pub number : t.number ≡ n

-- and there its next instruction came out so: it is still to be counted, and what it stored to take reservations
pub record IsPaused (i : Image) (n limit c c' : ℕ) (u : Unmoved) (t : Thread) (x : ℕ → Content) (did : Did) : Type 0 where
  pub before : Thread
  pub words : ℕ → Content
  pub alone : IsAlone i n limit c c' u before words
  pub less : c' < limit
  pub did_is : did ≡ did_of (answered (thread_needs i before) words)
  pub thread : t ≡ thread_after (answered (thread_needs i before) words) before
  pub contents : x ≡ words_after (answered (thread_needs i before) words) words

-- how a hart alone came to the end of its way: at the limit, at an instruction that is more than its own, or where
-- memory was refused
abbrev pub Pauses : Image → (n limit c c' : ℕ) → Unmoved → Thread → (ℕ → Content) → Result (Option Did) NoMemory → Type 0
Pauses i n limit c c' u t x (Ok None) = IsAlone i n limit c c' u t x × (limit ≤ c')
Pauses i n limit c c' u t x (Ok (Some did)) = IsPaused i n limit c c' u t x did
Pauses i n limit c c' u t x (Err e) = IsAlone i n limit c c' u t x × (c' < limit)

-- the instruction went, and no other hart can have lost a reservation by it
abbrev pub goes_alone : Did → Bool → Bool
goes_alone (Went None) watched = true
goes_alone (Went (Some s)) true = false
goes_alone (Went (Some s)) false = true
goes_alone Call watched = false
goes_alone HartEnd watched = false
goes_alone (Trapped kind value) watched = false
goes_alone Leak watched = false

-- ---- with all harts

-- nothing has changed, and the instruction is still to be done
pub record IsNext (i : Image) (n : ℕ) (out : Outcome Thread Content) (u : Unmoved) : Type 0 where
  pub sound : IsSound u
  pub can : can_go u n ≡ true
  pub comes : next_outcome i n u ≡ out

-- what is known where an instruction is to be settled
abbrev pub IsDue : Image → ℕ → Did → Unmoved → Type 0
IsDue i n (Went stored) u = Unit {0}
IsDue i n Call u = IsNext i n Calls u
IsDue i n HartEnd u = IsNext i n Quits u
IsDue i n (Trapped kind value) u = IsNext i n (Traps kind value) u
IsDue i n Leak u = IsNext i n Leaks u

-- and what is left once it is
abbrev pub settled : Image → ℕ → Did → Unmoved → Unmoved
settled i n (Went stored) u = lost n stored u
settled i n Call u = unmoved_step i n u
settled i n HartEnd u = unmoved_step i n u
settled i n (Trapped kind value) u = unmoved_step i n u
settled i n Leak u = unmoved_step i n u
