-- SPDX-License-Identifier: Apache-2.0
-- What the state of a run means, and what holds of it while harts run. This project's own.
use Rattle.std.specs.Prelude.{◌≡◌, ℕ, ◌+◌, ◌<◌, ◌≤◌, ◌^◌, ◌&&◌, Bool, true, false, Option, Some, None, List, [], ◌∷◌, length, map, drop, slice_get}
use Rattle.sh_types.specs.declared.code.Image.{Image}
use Rattle.sh_types.specs.declared.code.Pair.{Pair}
use Rattle.sh_types.specs.declared.code.Region.{Region}
use Rattle.sh_types.specs.Limits.{most_harts}
use Rattle.sh_machines.specs.Kind.{Asks, kind_at}
use Rattle.sh_machines.specs.Memory.{readable, writable}
use Rattle.sh_machines.specs.Unmoved as unmoved
use Rattle.sh_machines.specs.Unmoved.{Content, Unmoved, any_alive, goes_still, is_alive, first_thread}
use Rattle.thread_acts.specs.Done.{meant}
use Rattle.thread_acts.specs.declared.threads.Thread.{Thread}
use Rattle.token_lookup.specs.Rising.{Rises}
use Rattle.ref_machine.specs.declared.state.State.{State}

-- the harts of the unmoved machine
abbrev pub threads_of : List Thread → List unmoved.Thread
threads_of ts = map meant ts

-- the state that the fields hold, with these words
abbrev pub state_of : State → (ℕ → Content) → Unmoved
state_of s u =
    record { threads = threads_of s.threads.items; contents = u; unread = drop s.read s.input; output = s.output.items; end = s.end }

-- there is a hart, and it is live
abbrev pub is_live : Option Thread → Bool
is_live None = false
is_live (Some t) = t.live

-- the run goes on, and the hart is live
abbrev pub goes : State → ℕ → Bool
goes s n = goes_still s.end && is_alive (slice_get (threads_of s.threads.items) n)

-- the memory can be read and written where the image's can
pub record IsMapped (image : Image) (regions : List Region) : Type 0 where
  pub reads : (a n : ℕ) → readable regions a n ≡ readable image.regions a n
  pub writes : (a n : ℕ) → writable regions a n ≡ writable image.regions a n

-- what the code asks of the image: rows rise, and behind an environment call there is an offset
pub record IsCode (image : Image) : Type 0 where
  pub rises : Rises image.rows
  pub low : (p : Pair) → kind_at image p ≡ Asks → p.off + 4 < 2 ^ 32

-- each hart has the number of its place
abbrev pub AreNumbered : List unmoved.Thread → Type 0
AreNumbered ts = (k : ℕ) (t : unmoved.Thread) → slice_get ts k ≡ Some t → t.number ≡ k

-- what holds of each state that is reached
pub record IsSound (u : Unmoved) : Type 0 where
  pub few : length u.threads ≤ most_harts
  pub numbered : AreNumbered u.threads
  pub live : goes_still u.end ≡ true → any_alive u.threads ≡ true

-- the state before the first instruction
pub record IsOpening (image : Image) (input : List ℕ) (s : State) : Type 0 where
  pub threads : threads_of s.threads.items ≡ first_thread image ∷ []
  pub unread : drop s.read s.input ≡ input
  pub output : s.output.items ≡ []
  pub count : s.count ≡ 0
  pub end : s.end ≡ None
