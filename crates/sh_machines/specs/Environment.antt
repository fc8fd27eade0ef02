-- SPDX-License-Identifier: Apache-2.0
-- The environment calls, from the arguments and from what both machines have. This project's own; the numbers 63, 64, 93
-- and 94 and the answers are Linux's of the same names.
use Rattle.std.specs.Prelude.{ℕ, ◌-◌, ◌%◌, ◌^◌, ◌==◌, ◌||◌, nat_lt, Bool, true, false, Option, Some, None, List, [], length, take, slice_get, if◌then◌else◌}
use Rattle.sh_types.specs.declared.code.Region.{Region}
use Rattle.sh_types.specs.Limits.{most_harts}
use Rattle.sh_machines.specs.Memory.{bytes_from, readable, writable}
use Rattle.sh_machines.specs.Tokens.{row_named}

-- what a call does
pub data CallDid : Type 0 where
  -- a0 gets the value, and the bytes join the output
  Answers : (value : ℕ) → (more : List ℕ) → CallDid
  -- the input's next bytes are put from the address on, and a0 gets their number
  Reads : (address : ℕ) → (bytes : List ℕ) → CallDid
  -- a hart starts at the function with these numbers in a0, sp and tp, and the caller's a0 gets its number
  Starts : (func a0 sp tp : ℕ) → CallDid
  -- the hart ends
  ExitsHart : (code : ℕ) → CallDid
  -- the run ends
  ExitsRun : (code : ℕ) → CallDid
  -- a byte of a return word was to be passed on
  LeaksWord : CallDid

-- what a call sees: its number in a7, its arguments in a0 to a3, and the hart's own number
pub record Request : Type 0 where
  pub number : ℕ
  pub a0 : ℕ
  pub a1 : ℕ
  pub a2 : ℕ
  pub a3 : ℕ
  pub hart : ℕ
  -- of each hart that was started, whether it is live
  pub lives : List Bool
  -- the numbers in the words; none in a return word
  pub plain : ℕ → Option ℕ
  -- the input that was not read yet
  pub unread : List ℕ

-- a0 gets the value, and no more
abbrev pub answer : ℕ → CallDid
answer v = Answers v []

-- an error by its number, as the negative of it
abbrev pub failure : ℕ → CallDid
failure e = Answers (2 ^ 64 - e) []

-- where a byte of a return word is among those that are read into, it is a leak
abbrev pub read_into : ℕ → List ℕ → Option (List ℕ) → CallDid
read_into a bytes None = LeaksWord
read_into a bytes (Some before) = Reads a bytes

-- read: as many of the input's next bytes as are asked for and are left
abbrev pub read_call : List Region → Request → CallDid
read_call regions c =
    if c.a0 == 0
    then (if c.a2 == 0 then answer 0 else if writable regions c.a1 c.a2 then read_into c.a1 (take c.a2 c.unread) (bytes_from c.plain c.a1 c.a2) else failure 14)
    else failure 9

-- where a byte of a return word is among those that are written, it is a leak
abbrev pub written_from : ℕ → Option (List ℕ) → CallDid
written_from n None = LeaksWord
written_from n (Some bytes) = Answers n bytes

-- write: bytes join the output
abbrev pub write_call : List Region → Request → CallDid
write_call regions c =
    if (c.a0 == 1) || (c.a0 == 2)
    then (if c.a2 == 0 then answer 0 else if readable regions c.a1 c.a2 then written_from c.a2 (bytes_from c.plain c.a1 c.a2) else failure 14)
    else failure 9

-- start, at the function whose token is handed in; -22 where it is no row's, -1 where so many harts were started
abbrev pub start_at : Option ℕ → Request → CallDid
start_at None c = failure 22
start_at (Some f) c = if nat_lt (length c.lives) most_harts then Starts f c.a1 c.a2 c.a3 else failure 1

-- whether a hart ended: 1 where it did, and an error where none of this number was started
abbrev pub ended_call : Option Bool → CallDid
ended_call None = failure 1
ended_call (Some true) = answer 0
ended_call (Some false) = answer 1

-- the call with this number; a number that names no call is answered -38
unfoldable pub call_of : List Region → (rows : List ℕ) → Request → CallDid
call_of regions rows c =
    if c.number == 63 then read_call regions c
    else if c.number == 64 then write_call regions c
    else if c.number == 93 then ExitsHart (c.a0 % 256)
    else if c.number == 94 then ExitsRun (c.a0 % 256)
    else if c.number == 2000 then start_at (row_named rows c.a0) c
    else if c.number == 2001 then ended_call (slice_get c.lives c.a0)
    else if c.number == 2002 then answer c.hart
    else failure 38
