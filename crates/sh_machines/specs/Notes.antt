-- SPDX-License-Identifier: Apache-2.0
-- Instructions of a hart that are run ahead: the words that they touch, as they were before the first of them, and what
-- they leave. Only these words and the hart go into it. This project's own.
use Rattle.std.specs.Prelude.{◌≡◌, ℕ, zero, suc, ◌+◌, ◌==◌, ◌||◌, Bool, true, false, Option, Some, None, List, [], ◌∷◌, ◌++◌, map, slice_set, if◌then◌else◌}
use Rattle.sh_types.specs.declared.runs.Hart.{Hart}
use Rattle.sh_types.specs.declared.runs.Stored.{Stored}
use Rattle.sh_machines.specs.Copy.{copied}
use Rattle.sh_machines.specs.Kind.{tables_of}
use Rattle.sh_machines.specs.Need.{Outcome, Goes, Puts, Calls, Quits, Traps, Leaks, Need, answered, touched}
use Rattle.sh_machines.specs.Shuffled.{Setting, Owned, hart_needs, Shuffled, harts_lose}

-- a word of eight bytes, with its value and owner
pub record Note : Type 0 where
  pub word : ℕ
  pub content : Owned

-- the words where some of them have been changed
abbrev pub with_words : List Note → (ℕ → Owned) → ℕ → Owned
with_words [] m w = m w
with_words (x ∷ xs) m w = if x.word == w then x.content else with_words xs m w

-- a word that was touched: its number, and its value and owner before the turn and now
pub record Touched : Type 0 where
  pub word : ℕ
  pub before : Owned
  pub now : Owned

-- a touched word as it was before
abbrev pub noted : Touched → Note
noted x = record { word = x.word; content = x.before }

-- a touched word as it is now
abbrev pub renewed : Touched → Note
renewed x = record { word = x.word; content = x.now }

-- how far a turn has come: the hart, its instructions so far, each word that they touched, once, in the order of the
-- first touch, and the ranges that they stored, in their order
pub record Ahead : Type 0 where
  pub hart : Hart
  pub count : ℕ
  pub touched : List Touched
  pub stores : List Stored

-- the words as the turn sees them, over those of the state
abbrev pub over : List Touched → (ℕ → Owned) → ℕ → Owned
over xs m = with_words (map renewed xs) m

-- a word is touched and left so
abbrev pub touch : (ℕ → Owned) → ℕ → Owned → List Touched → List Touched
touch m w c [] = record { word = w; before = m w; now = c } ∷ []
touch m w c (x ∷ xs) = if x.word == w then record { word = x.word; before = x.before; now = c } ∷ xs else x ∷ touch m w c xs

-- a word that an instruction touches, whatever comes of it
abbrev pub touch_if : (ℕ → Owned) → Option ℕ → List Touched → List Touched
touch_if m None xs = xs
touch_if m (Some w) xs = touch m w (over xs m w) xs

-- the stored ranges with one more, if an instruction stores
abbrev pub more_stores : List Stored → Option Stored → List Stored
more_stores ss None = ss
more_stores ss (Some s) = ss ++ s ∷ []

-- what the hart's next instruction demands, by the word of its layout's copy
abbrev pub next_needs : Setting → Hart → Need Hart Owned
next_needs o h = let l = o.layout_at h.layout in hart_needs (tables_of o.image) l o.image.regions h (copied o.image l h.pc)

-- an outcome before which a turn stops
abbrev pub is_stop : Outcome Hart Owned → Bool
is_stop (Goes h) = false
is_stop (Puts h w c stored) = false
is_stop Calls = true
is_stop Quits = true
is_stop (Traps kind value) = true
is_stop Leaks = true

-- after an outcome a turn goes on, with these words touched, or it stops before a call, a hart's end, a trap or a leak
abbrev pub goes_ahead : (ℕ → Owned) → Outcome Hart Owned → Ahead → List Touched → (Ahead → Ahead) → Ahead
goes_ahead m (Goes h) a xs on = on (record { hart = h; count = a.count + 1; touched = xs; stores = a.stores })
goes_ahead m (Puts h w c stored) a xs on = on (record { hart = h; count = a.count + 1; touched = touch m w c xs; stores = more_stores a.stores stored })
goes_ahead m Calls a xs on = a
goes_ahead m Quits a xs on = a
goes_ahead m (Traps kind value) a xs on = a
goes_ahead m Leaks a xs on = a

-- so many further instructions at most, over the words of the state
abbrev pub ahead_from : Setting → (ℕ → Owned) → ℕ → Ahead → Ahead
ahead_from o m zero a = a
ahead_from o m (suc k) a =
    goes_ahead m (answered (next_needs o a.hart) (over a.touched m)) a (touch_if m (touched (next_needs o a.hart)) a.touched) (λ b. ahead_from o m k b)

-- a turn before its first instruction
abbrev pub set_off : Hart → Ahead
set_off h = record { hart = h; count = 0; touched = []; stores = [] }

-- So many instructions of a hart at most. One that calls, ends its hart, traps or leaks is not among them: the turn ends
-- before it.
unfoldable pub ahead_of : Setting → ℕ → Hart → (ℕ → Owned) → Ahead
ahead_of o k h m = ahead_from o m k (set_off h)

-- ---- notes and effects

-- the hart after a turn, how many instructions it has, the words that it touched as it leaves them, and what it stored
pub record Effects : Type 0 where
  pub hart : Hart
  pub count : ℕ
  pub words : List Note
  pub stores : List Stored

-- the notes of a turn
abbrev pub notes_in : Ahead → List Note
notes_in a = map noted a.touched

-- the effects of a turn
abbrev pub effects_in : Ahead → Effects
effects_in a = record { hart = a.hart; count = a.count; words = map renewed a.touched; stores = a.stores }

-- the words that so many instructions of a hart at most touch, as they are before the first
unfoldable pub notes_of : Setting → ℕ → Hart → (ℕ → Owned) → List Note
notes_of o k h m = notes_in (ahead_of o k h m)

-- what so many instructions of a hart at most leave
unfoldable pub effects_of : Setting → ℕ → Hart → (ℕ → Owned) → Effects
effects_of o k h m = effects_in (ahead_of o k h m)

-- the noted words have these values and owners
abbrev pub Hold : (ℕ → Owned) → List Note → Type 0
Hold m [] = Unit {0}
Hold m (x ∷ xs) = (m x.word ≡ x.content) × Hold m xs

-- the word is among the notes
abbrev pub is_noted : ℕ → List Note → Bool
is_noted w [] = false
is_noted w (x ∷ xs) = (x.word == w) || is_noted w xs

-- no word is noted twice
abbrev pub AreOnce : List Note → Type 0
AreOnce [] = Unit {0}
AreOnce (x ∷ xs) = (is_noted x.word xs ≡ false) × AreOnce xs

-- ---- what effects leave of a state

-- each stored range takes from the other harts the reservations that share a byte with it
abbrev pub harts_lose_all : ℕ → List Stored → List Hart → List Hart
harts_lose_all n [] hs = hs
harts_lose_all n (s ∷ ss) hs = harts_lose_all n ss (harts_lose n (Some s) hs)

-- the state with the effects of a turn of the hart with this number
unfoldable pub with_effects : ℕ → Effects → Shuffled → Shuffled
with_effects n e s =
    record {
      newest = s.newest;
      older = s.older;
      wiped = s.wiped;
      harts = harts_lose_all n e.stores (slice_set s.harts n e.hart);
      words = with_words e.words s.words;
      unread = s.unread;
      output = s.output;
      count = s.count + e.count;
      end = s.end;
    }
