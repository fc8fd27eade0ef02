-- SPDX-License-Identifier: Apache-2.0
-- What files hold by name, and what a load and a store do to it.
use Rattle.std.specs.Prelude.{◌≡◌, ◌≢◌, ℕ, ◌+◌, List, take, zip, ⊤, None, Some, Ok, Err, IsSomeAnd, Result}
use Rattle.std.specs.Ordering.{nat_cmp}
use Rattle.std.specs.Cmp.Lexicographic.{slice_cmp}
use Rattle.std.specs.declared.option.Option.{Option}
use Rattle.std.specs.FinMap as map
use Rattle.sh_base.specs.declared.files.FileFault.{FileFault}
use Rattle.sh_base.specs.declared.files.FileFault.TheVariants.{Failed, NoMemory}

-- contents by name
abbrev pub FileMap : Type 0
FileMap = map.FinMap (slice_cmp nat_cmp) (List ℕ)

-- contents that are not told
abbrev pub untold : Option FileMap
untold = None

-- names and contents side by side. At a name that stands twice the first counts
abbrev pub as_map : List (List ℕ) → List (List ℕ) → FileMap
as_map names contents = map.from_entries (zip names contents)

-- a load that answers these bytes: the front of what is held, one byte past the limit at most
abbrev pub Loads : Option FileMap → List ℕ → ℕ → List ℕ → Type 0
Loads None name limit bytes = ⊤
Loads (Some held) name limit bytes = IsSomeAnd (map.get held name) (λ content. bytes ≡ take (limit + 1) content)

-- the name's content is replaced whole, and the others stand
abbrev pub Stores : Option FileMap → Option FileMap → List ℕ → List ℕ → Type 0
Stores None new name bytes = ⊤
Stores (Some held) None name bytes = ⊥
Stores (Some held) (Some now) name bytes = now ≡ map.insert held name bytes

-- all but this name stand
abbrev pub OthersStand : Option FileMap → Option FileMap → List ℕ → Type 0
OthersStand None new name = ⊤
OthersStand (Some held) None name = ⊥
OthersStand (Some held) (Some now) name = (other : List ℕ) → other ≢ name → map.get now other ≡ map.get held other

-- what a store leaves: the content replaced; the others, where it failed; all, where memory was refused
abbrev pub StoreLeaves : Option FileMap → Option FileMap → List ℕ → List ℕ → Result Unit FileFault → Type 0
StoreLeaves old new name bytes (Ok done) = Stores old new name bytes
StoreLeaves old new name bytes (Err Failed) = OthersStand old new name
StoreLeaves old new name bytes (Err NoMemory) = new ≡ old
