-- SPDX-License-Identifier: Apache-2.0
-- Instructions that are run ahead: what they note and what they leave. Words are those of the RISC-V Unprivileged ISA. This
-- project's own.
use Rattle.std.specs.Prelude.{ℕ, ◌+◌, ◌*◌, ◌%◌, true, Option, Some, None, List, [], ◌∷◌, slice_get}
use Rattle.sh_types.specs.declared.code.Image.{Image}
use Rattle.sh_types.specs.declared.code.RaPlace.TheVariants.{Reg}
use Rattle.sh_types.specs.declared.code.Site.TheVariants.{Plain, Stop}
use Rattle.sh_types.specs.declared.runs.Hart.{Hart}
use Rattle.sh_types.specs.declared.runs.Stored.{Stored}
use Rattle.sh_machines.specs.Frame.{frame}
use Rattle.sh_types.specs.Limits.{cell_count, most_harts}
use Rattle.sh_machines.specs.Notes.{Note, notes_of, effects_of}
use Rattle.sh_types.specs.Place.{cell_start}
use Rattle.sh_machines.specs.Shuffled.{Setting, owned, Shuffled}
use Rattle.sh_law.specs.Example.{function, region, table, keys_from}

-- a store-conditional without a reservation, and then a trap
abbrev pub tries_words : List ℕ
tries_words =
    0x000102b7  -- lui t0,0x10
    ∷ 0x1872b32f  -- sc.d t1,t2,(t0)
    ∷ 0x00100073  -- ebreak
    ∷ []

-- the image of these words alone, with one word of data
abbrev pub tries : Image
tries =
    record {
      functions = function 0x2000 12 ∷ [];
      entry = 0;
      words = tries_words ∷ [];
      sites = (Plain ∷ Plain ∷ Stop ∷ []) ∷ [];
      frames = table (Some (frame 0 Reg) ∷ Some (frame 0 Reg) ∷ Some (frame 0 Reg) ∷ None ∷ []) ∷ [];
      literals = [];
      rows = [];
      labels = [];
      regions = region 0x10000 0x10008 true (7 ∷ []) ∷ [];
    }

-- each layout in a region of its own
abbrev pub tries_setting : Setting
tries_setting =
    record { image = tries; input = []; layout_at = λ k. record { number = k; cell = k % cell_count; places = cell_start (k % cell_count) ∷ []; sizes = 12 ∷ []; keys = keys_from most_harts (most_harts * k + 1) } }

-- a word with its value and owner
abbrev pub note : ℕ → ℕ → Option ℕ → Note
note word value owner = record { word = word; content = owned value owner }

-- what so many instructions of a hart note in a state, how many they are, how they leave the words, and what they store
pub record Turn : Type 0 where
  pub notes : List Note
  pub count : ℕ
  pub words : List Note
  pub stores : List Stored

-- the turn of a hart, where there is one
abbrev pub turn_by : Setting → ℕ → Shuffled → Option Hart → Option Turn
turn_by o k s None = None
turn_by o k s (Some h) = let e = effects_of o k h s.words in Some (record { notes = notes_of o k h s.words; count = e.count; words = e.words; stores = e.stores })

-- the turn of the hart with this number
abbrev pub turn_in : Setting → (n k : ℕ) → Shuffled → Option Turn
turn_in o n k s = turn_by o k s (slice_get s.harts n)
