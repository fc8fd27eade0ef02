-- SPDX-License-Identifier: Apache-2.0
-- What the code and the state of a run mean, and what holds of them while harts run. This project's own.
use Rattle.std.specs.Prelude.{◌≡◌, ℕ, ◌-◌, Bool, true, false, Option, Some, None, drop}
use Rattle.sh_types.specs.declared.code.Image.{Image}
use Rattle.sh_types.specs.declared.layouts.CodeCopy.{CodeCopy}
use Rattle.sh_machines.specs.Copy.{copy_of, wiped_copy}
use Rattle.sh_machines.specs.Fine.{IsSetting}
use Rattle.sh_types.specs.Image.{sizes_of}
use Rattle.sh_machines.specs.Memory.{readable, writable}
use Rattle.sh_machines.specs.Shuffled.{Setting, Shuffled}
use Rattle.guest_mem.specs.Held.{Held, words_of, regions_of}
use Rattle.hart_acts.specs.Fits.{Fits}
use Rattle.layout_maker.specs.Layout.{layout_of}
use Rattle.hart_turns.specs.declared.state.LiveCode.{LiveCode}
use Rattle.hart_turns.specs.declared.state.Prepared.{Prepared}
use Rattle.hart_turns.specs.declared.state.State.{State}

-- the image, the input, and the layouts that the seed gives the image's functions
abbrev pub setting_of : LiveCode → Setting
setting_of c = record { image = c.image.now; input = c.input.now; layout_at = λ k. layout_of (sizes_of c.image.now) c.seed.now k }

-- the copy of the layout that was erased last
abbrev pub wiped_of : Setting → Option ℕ → Option CodeCopy
wiped_of o None = None
wiped_of o (Some k) = Some (wiped_copy o.image (o.layout_at k))

-- the state that the fields hold
abbrev pub meant : LiveCode → State → Shuffled
meant c s =
    record {
      newest = c.epochs.now.newest;
      older = c.epochs.now.older;
      wiped = wiped_of (setting_of c) c.wiped;
      harts = s.harts.items;
      words = words_of s.memory;
      unread = drop s.read c.input.now;
      output = s.output.items;
      count = s.count;
      end = s.end;
    }

-- the layout with this number, and its copy
pub record IsMade (o : Setting) (k : ℕ) (p : Prepared) : Type 0 where
  pub layout : p.layout ≡ o.layout_at k
  pub copy : p.copy ≡ copy_of o.image (o.layout_at k)

-- the layout before the newest is there exactly while it is live
abbrev pub IsOlder : Setting → ℕ → Bool → Option Prepared → Type 0
IsOlder o newest older None = older ≡ false
IsOlder o newest older (Some p) = (older ≡ true) × IsMade o (newest - 1) p

-- the live layouts and copies are those that the seed gives
pub record IsLive (c : LiveCode) : Type 0 where
  -- rows and labels rise, and are the image's
  pub fits : Fits c.image.now.rows c.image.now.labels (sizes_of c.image.now)
  pub setting : IsSetting (setting_of c)
  pub newest : IsMade (setting_of c) c.epochs.now.newest c.newest.now
  pub older : IsOlder (setting_of c) c.epochs.now.newest c.epochs.now.older c.older.now

-- the memory can be read and written where the image's can
pub record IsMapped (image : Image) (m : Held) : Type 0 where
  pub reads : (a n : ℕ) → readable (regions_of m) a n ≡ readable image.regions a n
  pub writes : (a n : ℕ) → writable (regions_of m) a n ≡ writable image.regions a n
