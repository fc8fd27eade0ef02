-- SPDX-License-Identifier: Apache-2.0
-- The frame grammar: what each word of a function demands of a frame's state, the states that follow, and the rule that
-- is broken. Points are word numbers. (RISC-V psABI, "Integer Calling Convention"; the rules are this project's own.)
use Rattle.std.specs.List.{AllByRecursion}
use Rattle.std.specs.Prelude.{ℕ, ◌<◌, ◌≤◌, ℤ, pos, negsuc, ◌+◌, ◌-◌, ◌/◌, ◌%◌, ◌^◌, ◌==◌, ◌&&◌, nat_le, nat_lt, Bool, true, false, Option, Some, None, Result, Ok, Err, List, [], ◌∷◌, length, slice_index, slice_index_or, if◌then◌else◌}
use Rattle.sh_types.specs.declared.code.FrameState.{FrameState}
use Rattle.sh_types.specs.declared.code.Image.{Image}
use Rattle.sh_types.specs.declared.code.Pair.{Pair}
use Rattle.sh_types.specs.declared.code.RaPlace.{RaPlace}
use Rattle.sh_types.specs.declared.code.RaPlace.TheVariants.{Reg, Slot, Dropped}
use Rattle.sh_types.specs.declared.code.Rule.{Rule}
use Rattle.sh_types.specs.declared.code.Rule.TheVariants.{Join, SpWrite, FrameSize, SaveOutside, RaLost, CallUnsaved, ReturnShape, TailShape}
use Rattle.sh_types.specs.declared.code.Site.{Site}
use Rattle.sh_types.specs.declared.code.Site.TheVariants.{Plain, Literal, InnerJump, InnerBranch, DirectCall, DirectTail, IndirectCall, IndirectTail, ReturnLike, Environment, Stop}
use Rattle.sh_types.specs.declared.code.Site.TheVariants as site
use Rattle.rv_table.specs.declared.instructions.Instr.{Instr}
use Rattle.sh_machines.specs.Constants.{known_in, known_of}
use Rattle.sh_machines.specs.Copy.{is_reg}
use Rattle.rv_table.specs.Decoding.{decoded}
use Rattle.sh_machines.specs.Fit.{Next, Refuses, Leads, IsLeastFit, HasNoFit}
use Rattle.sh_machines.specs.Frame.{frame, Move, Shifts, Loses, Drops, Keeps, move_of, shift_of}
use Rattle.sh_machines.specs.Kind.{Kind, Sets, Computes, Passes, Loads, Stores, Atomics, Saves, Restores, CallsTo, JumpsTo, Branches, CallsThrough, JumpsThrough, GoesBack, Asks, Breaks, Illegal, Past, framed_kind}
use Rattle.sh_types.specs.Limits.{most_depth}
use Rattle.rv_table.specs.Operands.{number_of_imm}
use Rattle.sh_machines.specs.Tokens.{has_label}
use Rattle.sh_machines.specs.Walk.{Turn, Goes, Ends, Fails, walked}

-- ---- what a word makes of a state

-- the state is allowed
abbrev pub on : ℕ → RaPlace → Result FrameState Rule
on d r = Ok (frame d r)

-- the entry function, where nothing is saved
abbrev pub is_free : Bool → RaPlace → Bool
is_free entry Reg = entry
is_free entry (Slot c) = false
is_free entry Dropped = entry

-- the slot lies in a frame of the depth
abbrev pub covers : RaPlace → ℕ → Bool
covers Reg d = true
covers (Slot c) d = nat_le c d
covers Dropped d = true

-- a depth less a number, modulo 2 ^ 64
abbrev pub less : ℕ → ℕ → ℕ
less d by = (d + (2 ^ 64 - by % 2 ^ 64)) % 2 ^ 64

-- sp is moved so that the depth is d; the entry function may begin anew
abbrev pub shifted : Bool → RaPlace → ℕ → Result FrameState Rule
shifted entry r d =
    if nat_le d most_depth then (if covers r d then on d r else Err SaveOutside) else if is_free entry r then on 0 r else Err FrameSize

-- ra is written by no call
abbrev pub ra_lost : Bool → ℕ → RaPlace → Result FrameState Rule
ra_lost entry d Reg = if entry then on d Dropped else Err RaLost
ra_lost entry d (Slot c) = on d (Slot c)
ra_lost entry d Dropped = on d Dropped

-- a register is written
abbrev pub moved_by : Bool → FrameState → Move → Result FrameState Rule
moved_by entry s (Shifts by) = shifted entry s.ra (less s.depth by)
moved_by entry s Loses = if is_free entry s.ra then on 0 s.ra else Err SpWrite
moved_by entry s Drops = ra_lost entry s.depth s.ra
moved_by entry s Keeps = Ok s

-- ra is saved c below the frame's top
abbrev pub saved_at : ℕ → ℕ → Result FrameState Rule
saved_at d c = if nat_le 8 c && nat_le c d then on d (Slot c) else Err SaveOutside

-- a plain word, by its kind; the known registers are those before it
abbrev pub plain_verdict : Bool → (ℕ → Option ℕ) → FrameState → Kind Pair → Result FrameState Rule
plain_verdict entry known s (Sets rd v) = moved_by entry s (move_of rd Loses)
plain_verdict entry known s (Computes i) = moved_by entry s (move_of i.rd (shift_of known i))
plain_verdict entry known s Passes = Ok s
plain_verdict entry known s (Loads i) = moved_by entry s (move_of i.rd Loses)
plain_verdict entry known s (Stores i) = Ok s
plain_verdict entry known s (Atomics i) = moved_by entry s (move_of i.rd Loses)
plain_verdict entry known s (Saves imm) = saved_at s.depth (less s.depth (number_of_imm imm))
plain_verdict entry known s (Restores imm) = on s.depth Reg
plain_verdict entry known s (CallsTo p) = Ok s
plain_verdict entry known s (JumpsTo p) = Ok s
plain_verdict entry known s (Branches i p) = Ok s
plain_verdict entry known s (CallsThrough rs1 imm way) = Ok s
plain_verdict entry known s (JumpsThrough rs1 imm way) = Ok s
plain_verdict entry known s (GoesBack imm) = Ok s
plain_verdict entry known s Asks = Ok s
plain_verdict entry known s Breaks = Ok s
plain_verdict entry known s Illegal = Ok s
plain_verdict entry known s Past = Ok s

-- a call
abbrev pub called_in : Bool → ℕ → RaPlace → Result FrameState Rule
called_in entry d Reg = if entry then on d Dropped else Err CallUnsaved
called_in entry d (Slot c) = on d (Slot c)
called_in entry d Dropped = on d Dropped

-- the frame is left, and ra has the return address
abbrev pub is_left : FrameState → Bool
is_left s = is_reg s.ra && (s.depth == 0)

-- the number is 0
abbrev pub is_zero : ℤ → Bool
is_zero (pos n) = n == 0
is_zero (negsuc n) = false

-- the state after a word of the class, or the rule that it breaks
abbrev pub verdict_of : (entry labelled : Bool) → (ℕ → Option ℕ) → FrameState → Site → Option Instr → Result FrameState Rule
verdict_of entry labelled known s (site.Bad rule) o = Err rule
verdict_of entry labelled known s x None = Ok s
verdict_of entry labelled known s Plain (Some i) = plain_verdict entry known s (framed_kind (Some s) i)
verdict_of entry labelled known s Literal (Some i) = moved_by entry s (move_of i.rd Loses)
verdict_of entry labelled known s (InnerJump to) (Some i) = Ok s
verdict_of entry labelled known s (InnerBranch to) (Some i) = Ok s
verdict_of entry labelled known s (DirectCall g) (Some i) = called_in entry s.depth s.ra
verdict_of entry labelled known s (DirectTail g) (Some i) = if is_left s then Ok s else Err TailShape
verdict_of entry labelled known s IndirectCall (Some i) = called_in entry s.depth s.ra
verdict_of entry labelled known s IndirectTail (Some i) = if labelled then Ok s else if is_left s then Ok s else Err TailShape
verdict_of entry labelled known s ReturnLike (Some i) = if is_left s && is_zero i.imm then Ok s else Err ReturnShape
verdict_of entry labelled known s Environment (Some i) = Ok s
verdict_of entry labelled known s Stop (Some i) = Ok s

-- ---- the points that follow

-- two numbers in rising order
abbrev pub rising : ℕ → ℕ → List ℕ
rising a b = if nat_lt b a then b ∷ a ∷ [] else a ∷ b ∷ []

-- the points behind word k, rising, as the labels do
abbrev pub points_behind : (labels : List ℕ) → Site → ℕ → List ℕ
points_behind labels Plain k = (k + 1) ∷ []
points_behind labels Literal k = (k + 1) ∷ []
points_behind labels (InnerJump to) k = to / 4 ∷ []
points_behind labels (InnerBranch to) k = rising (to / 4) (k + 1)
points_behind labels (DirectCall g) k = (k + 1) ∷ []
points_behind labels (DirectTail g) k = []
points_behind labels IndirectCall k = (k + 1) ∷ []
points_behind labels IndirectTail k = labels
points_behind labels ReturnLike k = []
points_behind labels Environment k = (k + 1) ∷ []
points_behind labels Stop k = []
points_behind labels (site.Bad rule) k = []

-- the word numbers of the labels of a function
abbrev pub own_labels : (func : ℕ) → List Pair → List ℕ
own_labels f [] = []
own_labels f (q ∷ qs) = if q.func == f then q.off / 4 ∷ own_labels f qs else own_labels f qs

-- the state at each of these, or the rule
abbrev pub lead : List ℕ → Result FrameState Rule → Next FrameState Rule
lead ps (Ok s) = Leads s ps
lead ps (Err rule) = Refuses rule

-- ---- a function

-- its number, whether it is the entry, its words, their classes, and the labels of all functions
pub record Body : Type 0 where
  pub func : ℕ
  pub entry : Bool
  pub words : List ℕ
  pub sites : List Site
  pub labels : List Pair

-- the class of word k
abbrev pub site_in : Body → ℕ → Site
site_in b k = slice_index_or b.sites k Plain

-- the number in a register before word k, where it is known
abbrev pub known_before : Body → ℕ → ℕ → Option ℕ
known_before b k r = known_in (known_of b.words b.sites b.labels b.func k) r

-- the state after word k
abbrev pub verdict_at : Body → ℕ → FrameState → Result FrameState Rule
verdict_at b k s = verdict_of b.entry (has_label b.labels b.func) (known_before b k) s (site_in b k) (decoded (slice_index b.words k))

-- what word k leads to
abbrev pub next_in : Body → ℕ → FrameState → Next FrameState Rule
next_in b k s = lead (points_behind (own_labels b.func b.labels) (site_in b k) k) (verdict_at b k s)

-- the state on entry
abbrev pub at_entry : FrameState
at_entry = frame 0 Reg

-- the state that a table has
abbrev pub state_at : List (Option FrameState) → ℕ → Option FrameState
state_at table k = slice_index_or table k None

-- the function is in the grammar, and its rows are the table: the least fit
abbrev pub IsLeastTable : Body → List (Option FrameState) → Type 0
IsLeastTable b table = IsLeastFit (length b.words) at_entry (next_in b) (state_at table)

-- the function is not in the grammar
abbrev pub IsOutside : Body → Type 0
IsOutside b = HasNoFit (length b.words) at_entry (next_in b)

-- ---- the walk, and what it answers

-- the return address is where it was
abbrev pub same_place : RaPlace → RaPlace → Bool
same_place Reg Reg = true
same_place (Slot a) (Slot b) = a == b
same_place Dropped Dropped = true
same_place _ _ = false

-- two states are the same
abbrev pub same_state : FrameState → FrameState → Bool
same_state a b = (a.depth == b.depth) && same_place a.ra b.ra

-- after so many examinations
abbrev pub walk_of : Body → ℕ → Turn FrameState Rule
walk_of b k = walked same_state Join (length b.words) at_entry (next_in b) k

-- after as many as there are words, and one, the walk has ended with the rows, or refused a word
abbrev pub answer_of : Body → Turn FrameState Rule
answer_of b = walk_of b (length b.words + 1)

-- what follows a word lies in the function, or right behind it
abbrev pub StaysInside : Body → Type 0
StaysInside b = (k : ℕ) → k < length b.words → AllByRecursion (λ p. p ≤ length b.words) (points_behind (own_labels b.func b.labels) (site_in b k) k)

-- an answer is right: rows are the least fit, and where a word is refused there is no fit
abbrev pub IsRight : Body → Turn FrameState Rule → Type 0
IsRight b (Goes w) = ⊥
IsRight b (Ends table) = IsLeastTable b table
IsRight b (Fails at rule) = IsOutside b

-- a function of an image
abbrev pub body_of : Image → ℕ → Body
body_of image f =
    record { func = f; entry = f == image.entry; words = slice_index_or image.words f []; sites = slice_index_or image.sites f []; labels = image.labels }
