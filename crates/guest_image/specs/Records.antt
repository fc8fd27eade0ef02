-- SPDX-License-Identifier: Apache-2.0
-- The first record that refuses each function. This project's own.
use Rattle.std.specs.Prelude.{◌≡◌, ℕ, ◌==◌, ◌<◌, Option, Some, None, List, [], ◌∷◌, length, slice_index_or, if◌then◌else◌}
use Rattle.sh_types.specs.declared.code.Function.{Function}
use Rattle.sh_types.specs.declared.code.Rule.{Rule}
use Rattle.sh_types.specs.declared.relocs.Reloc.{Reloc}
use Rattle.image_rules.specs.Refusals.{record_refusal, refusal_by, refusal_or}

-- where a function is refused, and by which rule
abbrev pub Refusal : Type 0
Refusal = Option (ℕ × Rule)

-- a refusal of the function with this number
abbrev pub only_at : ℕ → ℕ × Rule → ℕ → Refusal
only_at n refusal f = if n == f then Some refusal else None

-- the refusal of a function, of one that some function has
abbrev pub refusal_at : Option (ℕ × (ℕ × Rule)) → ℕ → Refusal
refusal_at None f = None
refusal_at (Some p) f = only_at p.0 p.1 f

-- what stands for a function where there is none
abbrev pub no_function : Function
no_function = record { home = 0; size = 0; name = [] }

-- by the first of some records
abbrev pub first_at : List Function → (entry : ℕ) → List Reloc → ℕ → Refusal
first_at functions entry relocs f = record_refusal (f == entry) (slice_index_or functions f no_function) relocs

-- by one record
abbrev pub by_record : List Function → (entry : ℕ) → Reloc → ℕ → Refusal
by_record functions entry r f = refusal_by (f == entry) (slice_index_or functions f no_function) r

-- the record refuses this function and no other
pub record IsByRecord (functions : List Function) (entry : ℕ) (r : Reloc) (found : Option (ℕ × (ℕ × Rule))) : Type 0 where
  pub within : (p : ℕ × (ℕ × Rule)) → found ≡ Some p → p.0 < length functions
  pub each : (f : ℕ) → f < length functions → refusal_at found f ≡ by_record functions entry r f

-- functions that had no refusal have these
pub record AreNoted (by : ℕ → Refusal) (old new : List Refusal) : Type 0 where
  pub long : length new ≡ length old
  pub each : (f : ℕ) → f < length old → slice_index_or new f None ≡ refusal_or (slice_index_or old f None) (by f)

-- each function has the refusal by the first record that refuses it
pub record AreFirst (functions : List Function) (entry : ℕ) (relocs : List Reloc) (found : List Refusal) : Type 0 where
  pub long : length found ≡ length functions
  pub each : (f : ℕ) → f < length functions → slice_index_or found f None ≡ first_at functions entry relocs f
