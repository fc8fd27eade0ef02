-- SPDX-License-Identifier: Apache-2.0
-- The serial order, by the unmoved machine alone: a function, without layouts and without a seed. This project's own.
use Rattle.std.specs.Prelude.{ℕ, zero, suc, ◌+◌, ◌-◌, ◌/◌, ◌%◌, ◌==◌, ◌&&◌, ◌||◌, nat_le, nat_lt, Bool, true, false, not, Option, Some, None, List, [], ◌∷◌, ◌++◌, min, slice_get, if◌then◌else◌}
use Rattle.sh_types.specs.declared.code.Image.{Image}
use Rattle.sh_types.specs.declared.runs.Event.{Event}
use Rattle.sh_types.specs.declared.runs.Event.TheVariants.{Run, Migrate, Publish, Erase}
use Rattle.sh_machines.specs.Need.{Outcome, Goes, Puts, Calls, Quits, Traps, Leaks, answered}
use Rattle.sh_machines.specs.Pace.{Pace, live_from, followed, paced_on, opening_pace}
use Rattle.sh_machines.specs.Unmoved.{Thread, Content, thread_needs, Unmoved, goes_still, can_go, unmoved_step}

-- how a serial run goes: instructions between publications, in a turn at most, and in all
pub record Schedule : Type 0 where
  pub period : ℕ
  pub quantum : ℕ
  pub steps : ℕ

-- the outcome is an environment call
abbrev pub is_call : Outcome Thread Content → Bool
is_call (Goes t) = false
is_call (Puts t w c stored) = false
is_call Calls = true
is_call Quits = false
is_call (Traps k v) = false
is_call Leaks = false

-- the thread's next instruction is one
abbrev pub thread_calls : Image → (ℕ → Content) → Option Thread → Bool
thread_calls i m None = false
thread_calls i m (Some t) = is_call (answered (thread_needs i t) m)

-- the hart's next instruction is an environment call
unfoldable pub calls_next : Image → Unmoved → ℕ → Bool
calls_next i u h = thread_calls i u.contents (slice_get u.threads h)

-- at most so many further instructions, up to an environment call
abbrev pub further : Image → ℕ → ℕ → Unmoved → ℕ
further i h zero u = 0
further i h (suc k) u = if can_go u h && not (calls_next i u h) then suc (further i h k (unmoved_step i h u)) else 0

-- the instructions of one Run event: any first one, and further ones
abbrev pub run_length : Image → ℕ → ℕ → Unmoved → ℕ
run_length i h zero u = 0
run_length i h (suc k) u = suc (further i h k (unmoved_step i h u))

-- a turn of at most `left` instructions, in at most so many events
abbrev pub turn_in : Image → ℕ → ℕ → ℕ → Pace → List Event
turn_in i h zero left b = []
turn_in i h (suc k) left b =
    if nat_lt 0 left && can_go b.guest h
    then (let n = run_length i h left b.guest in Run h n ∷ turn_in i h k (left - n) (paced_on i (Run h n) b))
    else []

-- each event has an instruction
unfoldable pub turn : Image → ℕ → ℕ → Pace → List Event
turn i h left b = turn_in i h left left b

-- each of these harts moves
abbrev pub migrations : List ℕ → List Event
migrations [] = []
migrations (h ∷ hs) = Migrate h ∷ migrations hs

-- where an older layout is live, its harts leave it and it goes
abbrev pub cleared_away : Pace → List Event
cleared_away b = if b.older then migrations b.behind ++ Erase (b.newest - 1) ∷ [] else []

-- layout k comes, each live hart moves to it, and the one before goes
abbrev pub publication : ℕ → List ℕ → List Event
publication k hs = Publish k ∷ (migrations hs ++ Erase (k - 1) ∷ [])

-- what is done at a publication's count
abbrev pub boundary : Pace → List Event
boundary b = cleared_away b ++ publication (b.newest + 1) (live_from 0 b.guest.threads)

-- the run has ended or has all its instructions
abbrev pub is_done : Schedule → Pace → Bool
is_done p b = not (goes_still b.guest.end) || (b.count == p.steps)

-- the layout for this count is not yet published
abbrev pub is_due : ℕ → Pace → Bool
is_due period b = nat_lt 0 b.count && ((b.count % period == 0) && nat_le b.newest (b.count / period))

-- before a turn: the boundary, or the migrations that are missing
abbrev pub ready : ℕ → Pace → List Event
ready period b = if is_due period b then boundary b else migrations b.behind

-- the first of a list, or else d
abbrev pub first_or : ℕ → List ℕ → ℕ
first_or d [] = d
first_or d (n ∷ ns) = n

-- the least number from `low` on, or else d
abbrev pub next_from : ℕ → List ℕ → ℕ → ℕ
next_from low [] d = d
next_from low (n ∷ ns) d = if nat_le low n then n else next_from low ns d

-- the least live hart from `low` on, or the least
abbrev pub next_hart : ℕ → Unmoved → ℕ
next_hart low u = let ns = live_from 0 u.threads in next_from low ns (first_or 0 ns)

-- the instructions of a turn, at most: those of the quantum, those that are left, and those up to the next multiple of
-- the period
abbrev pub turn_limit : Schedule → ℕ → ℕ
turn_limit p count = min p.quantum (min (p.steps - count) (p.period - count % p.period))

-- at most so many turns, the next one of the least live hart from `low` on
abbrev pub serial_in : Image → Schedule → ℕ → ℕ → Pace → List Event
serial_in i p zero low b = []
serial_in i p (suc k) low b =
    if is_done p b then []
    else (let b1 = followed i (ready p.period b) b in
    let h = next_hart low b1.guest in
    let t = turn i h (turn_limit p b1.count) b1 in
    (ready p.period b ++ t) ++ serial_in i p k (h + 1) (followed i t b1))

-- from where a journal stands; each turn has an instruction, so there are at most `steps` turns
unfoldable pub serial_from : Image → Schedule → Pace → List Event
serial_from i p b = serial_in i p p.steps 0 b

-- the serial list: the events of the serial order from the opening state
unfoldable pub serial_list : Image → (input : List ℕ) → Schedule → List Event
serial_list i input p = serial_from i p (opening_pace i input)
