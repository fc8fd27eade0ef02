-- SPDX-License-Identifier: Apache-2.0
-- The next instruction of a hart, and how the code does it. This project's own.
use Rattle.std.specs.Prelude.{◌≡◌, ℕ, ℤ, ◌<◌, ◌≤◌, ◌/◌, ◌^◌, ◌&&◌, ◌||◌, ◌==◌, not, Bool, true, false, Option, Some, None, is_some, List, [], ◌∷◌, length, slice_get, slice_index}
use Rattle.sh_types.specs.declared.layouts.CodeCopy.{CodeCopy}
use Rattle.sh_types.specs.declared.runs.Event.{Event}
use Rattle.sh_types.specs.declared.runs.Hart.{Hart}
use Rattle.sh_types.specs.declared.runs.Stored.{Stored}
use Rattle.sh_machines.specs.Copy.{copied}
use Rattle.sh_machines.specs.Event.{instructions, can_run, can_all, state_after, IsLegalIn}
use Rattle.sh_types.specs.Fetch.{InCopy, word_in}
use Rattle.sh_types.specs.Limits.{most_harts}
use Rattle.sh_machines.specs.Kind.{Restores, tables_of}
use Rattle.sh_machines.specs.Need.{Outcome, Goes, Puts, Calls, Quits, Traps, Leaks}
use Rattle.rv_table.specs.Operands.{plus_imm}
use Rattle.sh_machines.specs.Shuffled.{Setting, Owned, Shuffled, left, harts_lose, moved_of, shuffled_step, kind_there}
use Rattle.sh_machines.specs.StandsFor.{layout_number}
use Rattle.sh_law.specs.Length.{calls_in}
use Rattle.hart_acts.specs.declared.answers.Did.{Did}
use Rattle.hart_acts.specs.declared.answers.Did.TheVariants.{Went, Call, HartEnd, Trapped, Leak}
use Rattle.hart_turns.specs.declared.state.LiveCode.{LiveCode}
use Rattle.hart_turns.specs.declared.state.Prepared.{Prepared}
use Rattle.hart_turns.specs.declared.stepping.Step.{Step}
use Rattle.hart_turns.specs.declared.stepping.Step.TheVariants as step
use Rattle.hart_turns.specs.Meant.{IsMade, setting_of}

-- ---- the next instruction

abbrev pub outcome_at : Setting → (ℕ → Owned) → Option Hart → Outcome Hart Owned
outcome_at o m None = Quits
outcome_at o m (Some h) = moved_of o h m

-- what the next instruction of the hart with this number makes
abbrev pub next_outcome : Setting → ℕ → Shuffled → Outcome Hart Owned
next_outcome o n s = outcome_at o s.words (slice_get s.harts n)

-- the layout that the hart with this number is on
abbrev pub layout_on : Shuffled → ℕ → ℕ
layout_on s n = layout_number (slice_get s.harts n)

-- where the hart goes on, it lives, has its number and is on its layout
abbrev pub Continues : Hart → Hart → Type 0
Continues h h' = (h'.live ≡ h.live) × (h'.number ≡ h.number) × (h'.layout ≡ h.layout)

abbrev pub OutContinues : Hart → Outcome Hart Owned → Type 0
OutContinues h (Goes h') = Continues h h'
OutContinues h (Puts h' w c stored) = Continues h h'
OutContinues h Calls = Unit {0}
OutContinues h Quits = Unit {0}
OutContinues h (Traps kind value) = Unit {0}
OutContinues h Leaks = Unit {0}

-- the hart can be run from the copy of its layout
pub record IsHere (c : LiveCode) (p : Prepared) (n : ℕ) (s : Shuffled) (h : Hart) : Type 0 where
  pub number : h.number ≡ n
  pub small : n < most_harts
  pub live : h.live ≡ true
  pub made : IsMade (setting_of c) h.layout p
  pub pc : h.pc < 2 ^ 63
  pub there : InCopy p.copy h.pc
  pub word : word_in p.copy h.pc ≡ copied c.image.now p.layout h.pc
  pub goes_on : OutContinues h (moved_of (setting_of c) h s.words)
  pub meets : (imm : ℤ) → kind_there (tables_of c.image.now) p.layout h.pc (word_in p.copy h.pc) ≡ Restores imm → (s.words (plus_imm (slice_index h.regs 2) imm / 8)).owner ≡ Some h.number

-- and so can the one with this number
pub record IsNext (c : LiveCode) (p : Prepared) (s : Shuffled) (n : ℕ) : Type 0 where
  pub few : length s.harts ≤ most_harts
  pub hart : Hart
  pub is : slice_get s.harts n ≡ Some hart
  pub here : IsHere c p n s hart

-- the word of the copy at the pc of the hart, where there is one
abbrev pub IsWordOf : CodeCopy → Option Hart → ℕ → Type 0
IsWordOf copy None word = Unit {0}
IsWordOf copy (Some h) word = word ≡ word_in copy h.pc

-- ---- how the code does it

-- another hart than this one holds a reservation
abbrev pub any_reserved : ℕ → List Hart → Bool
any_reserved n [] = false
any_reserved n (h ∷ hs) = (not (h.number == n) && is_some h.reserved) || any_reserved n hs

-- the instruction has changed the hart and the word that it touched; it is still to be counted, and what it stored to
-- take reservations
pub record IsBegun (o : Setting) (n : ℕ) (stored : Option Stored) (s s' : Shuffled) : Type 0 where
  pub quiet : calls_in o n s ≡ false
  pub step : shuffled_step o n s ≡ left s' (harts_lose n stored s'.harts) s'.words s'.unread [] None
  pub can : can_run (left s' (harts_lose n stored s'.harts) s'.words s'.unread [] None) n ≡ true
  pub layout : layout_on (left s' (harts_lose n stored s'.harts) s'.words s'.unread [] None) n ≡ layout_on s n
  pub free : any_reserved n s.harts ≡ false → any_reserved n s'.harts ≡ false

-- nothing has changed, and the instruction is still to be done
pub record IsStill (o : Setting) (n : ℕ) (x : Outcome Hart Owned) (s s' : Shuffled) : Type 0 where
  pub comes : next_outcome o n s ≡ x
  pub still : s' ≡ s

abbrev pub Begins : Setting → ℕ → Did → Shuffled → Shuffled → Type 0
Begins o n (Went word stored) s s' = IsBegun o n stored s s'
Begins o n Call s s' = IsStill o n Calls s s'
Begins o n HartEnd s s' = IsStill o n Quits s s'
Begins o n (Trapped kind value) s s' = IsStill o n (Traps kind value) s s'
Begins o n Leak s s' = IsStill o n Leaks s s'

-- the instruction is done, and the hart goes on
pub record IsWent (o : Setting) (n : ℕ) (s s' : Shuffled) : Type 0 where
  pub quiet : calls_in o n s ≡ false
  pub step : s' ≡ shuffled_step o n s
  pub can : can_run s' n ≡ true
  pub layout : layout_on s' n ≡ layout_on s n
  pub free : any_reserved n s.harts ≡ false → any_reserved n s'.harts ≡ false

-- the instruction is done, and it ended the hart or the run
pub record IsStopped (o : Setting) (n : ℕ) (s s' : Shuffled) : Type 0 where
  pub quiet : calls_in o n s ≡ false
  pub step : s' ≡ shuffled_step o n s
  pub cannot : can_run s' n ≡ false

abbrev pub Steps : Setting → ℕ → Step → Shuffled → Shuffled → Type 0
Steps o n step.Went s s' = IsWent o n s s'
Steps o n step.Call s s' = IsStill o n Calls s s'
Steps o n step.Stopped s s' = IsStopped o n s s'

-- a legal list of events leads to the state
pub record IsReached (o : Setting) (s : Shuffled) : Type 0 where
  pub events : List Event
  pub legal : IsLegalIn o events
  pub state : s ≡ state_after o events

-- k instructions of a hart, none an environment call, and no more of at most `most`
pub record IsQuiet (o : Setting) (n most k : ℕ) (s : Shuffled) : Type 0 where
  pub few : k ≤ most
  pub all : can_all o n k s ≡ true
  pub inner : (m : ℕ) → m < k → calls_in o n (instructions o n m s) ≡ false
  pub short : k < most → can_run (instructions o n k s) n ≡ true → calls_in o n (instructions o n k s) ≡ true
