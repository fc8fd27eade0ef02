-- SPDX-License-Identifier: Apache-2.0
-- The addresses that records take, and the rows and labels that these give.
use Rattle.std.specs.Prelude.{◌≡◌, ◌==◌, ◌++◌, ◌+◌, ℕ, Bool, true, false, Option, Some, None, List, [], ◌∷◌, map, filter, if◌then◌else◌}
use Rattle.std.specs.List.{list_any}
use Rattle.std.specs.Option.{option_to_list}
use Rattle.sh_types.specs.declared.code.Function.{Function}
use Rattle.sh_types.specs.declared.code.Pair.{Pair}
use Rattle.sh_types.specs.declared.relocs.Reloc.{Reloc}
use Rattle.sh_types.specs.Place.{pair}
use Rattle.sh_machines.specs.Class.{named_by}
use Rattle.image_rules.specs.Binding.{inner_offsets, is_data_pointer, is_pointer, is_pointer_to}

-- the record counts: it takes an address, and is in data where those in code do not count
abbrev pub counts : (in_code : Bool) → Reloc → Bool
counts true = is_pointer
counts false = is_data_pointer

-- the address that a record takes, where it counts
abbrev pub taken_by : (in_code : Bool) → Reloc → Option ℕ
taken_by in_code r = if counts in_code r then named_by r else None

-- those that all take
abbrev pub taken_in : (in_code : Bool) → List Reloc → List ℕ
taken_in in_code [] = []
taken_in in_code (r ∷ rs) = option_to_list (taken_by in_code r) ++ taken_in in_code rs

-- the address is among them
abbrev pub has : List ℕ → ℕ → Bool
has addresses a = list_any (λ p. p == a) addresses

-- an address is among these just where a record that passes the test takes it
abbrev pub AreTaken : (Reloc → Bool) → List Reloc → List ℕ → Type 0
AreTaken is_one relocs addresses = (a : ℕ) → has addresses a ≡ list_any (is_pointer_to is_one a) relocs

abbrev pub kept : {A : Type 0} → Bool → A → Option A
kept b x = if b then Some x else None

-- the functions whose start is among the addresses, counted from j
abbrev pub rows_by : ℕ → List Function → List ℕ → List ℕ
rows_by j [] addresses = []
rows_by j (f ∷ fs) addresses = option_to_list (kept (has addresses f.home) j) ++ rows_by (j + 1) fs addresses

-- the offset's address is among them
abbrev pub has_offset : List ℕ → (home off : ℕ) → Bool
has_offset addresses home o = has addresses (home + o)

-- the places of whole words of a function, past its start, that are among the addresses
abbrev pub labels_at : (func home size : ℕ) → List ℕ → List Pair
labels_at j home size addresses = map (pair j) (filter (has_offset addresses home) (inner_offsets size))

-- those of the functions, counted from j
abbrev pub labels_by : ℕ → List Function → List ℕ → List Pair
labels_by j [] addresses = []
labels_by j (f ∷ fs) addresses = labels_at j f.home f.size addresses ++ labels_by (j + 1) fs addresses
