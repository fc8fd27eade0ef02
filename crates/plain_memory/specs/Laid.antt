-- SPDX-License-Identifier: Apache-2.0
-- Regions in rising order that share no byte, each with a byte for each of its addresses.
use Rattle.std.specs.Prelude.{◌≡◌, ℕ, ◌+◌, ◌<◌, ◌≤◌, true, Bool, Some, List, [], ◌∷◌, length, slice_get, slice_index, slice_index_or, if◌then◌else◌}
use Rattle.std.specs.List.{All}
use Rattle.sh_types.specs.declared.code.Region.{Region}
use Rattle.sh_machines.specs.Memory.{is_in_region, can_write, readable, writable}

-- a region has addresses, and a byte for each
pub record IsFull (r : Region) : Type 0 where
  pub some : r.start < r.end
  pub bytes : r.start + length r.bytes ≡ r.end

-- each region has a byte for each of its addresses
abbrev pub AreFull : List Region → Type 0
AreFull regions = All IsFull regions

-- the regions end at or below 0x4000_0000
abbrev pub AreLow : List Region → Type 0
AreLow regions = (k : ℕ) (r : Region) → slice_get regions k ≡ Some r → r.end ≤ 0x40000000

-- they rise and share no byte
abbrev pub AreApart : List Region → Type 0
AreApart regions = (j k : ℕ) (d : Region) → j < k → k < length regions → (slice_index_or regions j d).end ≤ (slice_index_or regions k d).start

-- a region of memory that starts at an address or behind it
pub record IsPlaced (from : ℕ) (r : Region) : Type 0 where
  pub start : from ≤ r.start
  pub full : IsFull r
  pub low : r.end ≤ 0x40000000
  pub small : (i : ℕ) → slice_index r.bytes i < 256

-- regions of memory from an address on, each behind the one before
abbrev pub Laid : ℕ → List Region → Type 0
Laid from [] = Unit {0}
Laid from (r ∷ rs) = IsPlaced from r × Laid r.end rs

-- the region with this number has the address
abbrev pub HasAt : List Region → ℕ → ℕ → Type 0
HasAt regions k a = (k < length regions) × ((d : Region) → is_in_region a (slice_index_or regions k d) ≡ true)

-- the region's byte at an address can be written, or read
abbrev pub usable : (writes : Bool) → ℕ → Region → Bool
usable writes a r = if writes then can_write a r else is_in_region a r

-- n bytes from an address on can be written, or read
abbrev pub allows : (writes : Bool) → List Region → ℕ → ℕ → Bool
allows writes regions a n = if writes then writable regions a n else readable regions a n

-- a region without its bytes
abbrev pub bare : Region → Region
bare r = record { start = r.start; end = r.end; writable = r.writable; bytes = [] }
