-- SPDX-License-Identifier: Apache-2.0
-- What this memory holds: regions with the bytes that the guest has stored, and return words by their numbers.
use Rattle.std.specs.Prelude.{◌≡◌, ℕ, ◌==◌, Option, Some, None, List, map, IsSome, if◌then◌else◌}
use Rattle.std.specs.BTreeMap.{is_at}
use Rattle.std.specs.Map.{lookup}
use Rattle.std.specs.Ordering.{nat_cmp}
use Rattle.sh_types.specs.declared.code.Region.{Region}
use Rattle.sh_machines.specs.Memory.{first_word}
use Rattle.sh_machines.specs.Unmoved.{Content, Number, Return}
use Rattle.plain_memory.specs.declared.returns.SavedReturn.{SavedReturn}
use Rattle.plain_memory.specs.Laid.{bare}

pub record Plain : Type 0 where
  pub areas : List Region
  -- by the numbers of their words
  pub returns : List (ℕ × SavedReturn)

-- the return word with a number
abbrev pub saved_at : List (ℕ × SavedReturn) → ℕ → Option SavedReturn
saved_at returns w = lookup (is_at (nat_cmp w)) returns

-- a return word, or a number where there is none
abbrev pub content_at : Option SavedReturn → ℕ → Content
content_at None value = Number value
content_at (Some saved) value = Return saved.hart saved.to

abbrev pub contents_of : Plain → ℕ → Content
contents_of m w = content_at (saved_at m.returns w) (first_word m.areas w)

-- the regions, without their bytes
abbrev pub regions_of : Plain → List Region
regions_of m = map bare m.areas

-- a return word, unless it is of this hart
abbrev pub unless_his : ℕ → Option SavedReturn → Option SavedReturn
unless_his hart None = None
unless_his hart (Some saved) = if saved.hart == hart then None else Some saved

-- the bytes of a return word are zero
pub record IsPlain (areas : List Region) (returns : List (ℕ × SavedReturn)) : Type 0 where
  pub zero : (w : ℕ) → IsSome (saved_at returns w) → first_word areas w ≡ 0
