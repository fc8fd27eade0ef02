-- SPDX-License-Identifier: Apache-2.0
-- What one instruction demands of memory, from the hart alone, and what it makes of the hart and of that one word.
-- No machine has a part in it. An access is aligned (RISC-V Unprivileged ISA, "Load and Store Instructions"; that
-- every misaligned one traps is this project's own), so it touches one aligned word of eight bytes at most.
use Rattle.std.specs.Prelude.{ℕ, suc, ◌+◌, ◌*◌, ◌/◌, ◌%◌, ◌^◌, ◌==◌, ◌&&◌, nat_lt, Bool, false, Option, Some, None, List, [], ◌∷◌, min, max, slice_set, if◌then◌else◌}
use Rattle.rv_table.specs.declared.instructions.Reservation.{Reservation}
use Rattle.sh_types.specs.declared.runs.Stored.{Stored}
use Rattle.sh_types.specs.declared.runs.Trap.{Trap}

-- How an instruction of either machine comes out. Only the first two change anything: the hart alone, or the hart
-- and one word, with the range of bytes that was stored.
pub data Outcome (H C : Type 0) : Type 0 where
  Goes : (hart : H) → Outcome H C
  Puts : (hart : H) → (word : ℕ) → (content : C) → (stored : Option Stored) → Outcome H C
  Calls : Outcome H C
  Quits : Outcome H C
  Traps : (kind : Trap) → (value : ℕ) → Outcome H C
  Leaks : Outcome H C

-- by the hart alone, or by the hart and one word
pub data Need (H C : Type 0) : Type 0 where
  Makes : (outcome : Outcome H C) → Need H C
  Touches : (word : ℕ) → (act : C → Outcome H C) → Need H C

-- how the instruction comes out, with these words
abbrev pub answered : {H C : Type 0} → Need H C → (ℕ → C) → Outcome H C
answered (Makes outcome) m = outcome
answered (Touches word act) m = act (m word)

-- the word that is touched, whatever comes of it
abbrev pub touched : {H C : Type 0} → Need H C → Option ℕ
touched (Makes outcome) = None
touched (Touches word act) = Some word

-- the words with another at one number
abbrev pub set_at : {A : Type 0} → (ℕ → A) → ℕ → A → ℕ → A
set_at f w v x = if x == w then v else f x

-- the words after an outcome
abbrev pub words_after : {H C : Type 0} → Outcome H C → (ℕ → C) → ℕ → C
words_after (Goes h) m = m
words_after (Puts h w c stored) m = set_at m w c
words_after Calls m = m
words_after Quits m = m
words_after (Traps k v) m = m
words_after Leaks m = m

-- register x0 stays 0 (RISC-V Unprivileged ISA, "Programmers' Model for Base Integer ISA")
abbrev pub write_reg : List ℕ → ℕ → ℕ → List ℕ
write_reg regs r v = if r == 0 then regs else slice_set regs r v

-- an aligned range that is mapped, or a trap
abbrev pub touching : {H C : Type 0} → (ℕ → ℕ → Bool) → ℕ → Trap → Trap → ℕ → (C → Outcome H C) → Need H C
touching mapped width misaligned fault a act =
    if a % width == 0 then (if mapped a width then Touches (a / 8) act else Makes (Traps fault a)) else Makes (Traps misaligned a)

-- the bytes of a word from an address on, so many of them, as a number; memory is little-endian
unfoldable pub part_of : ℕ → ℕ → ℕ → ℕ
part_of a width v = v / 2 ^ (8 * (a % 8)) % 2 ^ (8 * width)

-- the word with these bytes replaced by the low bytes of a number
unfoldable pub with_part : ℕ → ℕ → ℕ → ℕ → ℕ
with_part a width x v =
    v % 2 ^ (8 * (a % 8)) + 2 ^ (8 * (a % 8)) * (x % 2 ^ (8 * width)) + 2 ^ (8 * (a % 8 + width)) * (v / 2 ^ (8 * (a % 8 + width)))

-- so many bytes from an address on
abbrev pub stored_at : ℕ → ℕ → Stored
stored_at a n = record { address = a; length = n }

-- the word of a number, of value v, after bytes were put from an address on
unfoldable pub patched : ℕ → List ℕ → ℕ → ℕ → ℕ
patched a [] w v = v
patched a (b ∷ bs) w v = patched (suc a) bs w (if a / 8 == w then with_part a 1 b v else v)

-- some byte is among those of the reservation and those that were stored
unfoldable pub shares : Reservation → Stored → Bool
shares r s = nat_lt (max r.address s.address) (min (r.address + r.width) (s.address + s.length))

-- a reservation of so many bytes from an address on
abbrev pub reserved_at : ℕ → ℕ → Reservation
reserved_at a n = record { address = a; width = n }

-- the reservation is of these bytes
abbrev pub is_held : Option Reservation → ℕ → ℕ → Bool
is_held None a n = false
is_held (Some r) a n = (r.address == a) && (r.width == n)

-- a reservation, after a store of another hart ("A" extension, "Load-Reserved/Store-Conditional Instructions")
abbrev pub kept_from : Stored → Option Reservation → Option Reservation
kept_from s None = None
kept_from s (Some r) = if shares r s then None else Some r
