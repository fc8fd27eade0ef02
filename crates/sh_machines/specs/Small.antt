-- SPDX-License-Identifier: Apache-2.0
-- A small hart, a small memory and a small input, for laws by values. This project's own.
use Rattle.std.specs.Prelude.{ℕ, true, Some, None, List, [], ◌∷◌, replicate, slice_set}
use Rattle.sh_types.specs.declared.code.Pair.{Pair}
use Rattle.sh_types.specs.declared.code.Region.{Region}
use Rattle.sh_machines.specs.Environment.{Request}
use Rattle.sh_machines.specs.Kind.{Kind}
use Rattle.sh_machines.specs.Need.{Outcome, answered, reserved_at}
use Rattle.sh_types.specs.Place.{pair}
use Rattle.sh_machines.specs.Unmoved.{Thread, Content, Number, thread_does}

-- sixteen bytes that can be written
abbrev pub small_memory : List Region
small_memory = record { start = 0x20000; end = 0x20010; writable = true; bytes = replicate 16 0 } ∷ []

-- a hart with their address in x5 and 9 in x6, which holds a reservation of the first eight
abbrev pub holder : ℕ → Thread
holder n =
    record {
      number = n;
      live = true;
      code = 0;
      at = pair 0 0;
      regs = slice_set (slice_set (replicate 32 0) 5 0x20000) 6 9;
      ra = None;
      reserved = Some (reserved_at 0x20000 8);
    }

-- what an instruction of hart 0 makes, where each word is 0
abbrev pub made_by : Kind Pair → Outcome Thread Content
made_by k = answered (thread_does small_memory (holder 0) k) (λ w. Number 0)

-- a read of eight bytes, where three are left
abbrev pub short_read : Request
short_read =
    record { number = 63; a0 = 0; a1 = 0x20000; a2 = 8; a3 = 0; hart = 0; lives = true ∷ []; plain = λ w. Some 0; unread = 1 ∷ 2 ∷ 3 ∷ [] }
