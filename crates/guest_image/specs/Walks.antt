-- SPDX-License-Identifier: Apache-2.0
-- What is known of an image whose functions are walked, and what their walks answer. This project's own.
use Rattle.std.specs.Prelude.{◌≡◌, ℕ, suc, ◌<◌, ◌^◌, Option, Some, None, Result, Ok, Err, List, [], ◌∷◌, length, map, slice_index_or}
use Rattle.std.specs.List.Sorted.{IsNonDecreasingBy}
use Rattle.sh_types.specs.declared.code.FrameState.{FrameState}
use Rattle.sh_types.specs.declared.code.FrameTable.{FrameTable}
use Rattle.sh_types.specs.declared.code.Function.{Function}
use Rattle.sh_types.specs.declared.code.Image.{Image}
use Rattle.sh_types.specs.declared.code.Pair.{Pair}
use Rattle.sh_types.specs.declared.code.Rule.{Rule}
use Rattle.elf_rules.specs.declared.refusals.LoadFault.{LoadFault}
use Rattle.elf_rules.specs.declared.refusals.LoadFault.TheVariants as load
use Rattle.elf_rules.specs.Bindable.{or_later}
use Rattle.fn_lookup.specs.Apart.{AreApart}
use Rattle.frame_tables.specs.declared.refusals.FrameNo.{FrameNo}
use Rattle.frame_tables.specs.declared.refusals.FrameNo.TheVariants.{NoMemory, Refused}
use Rattle.image_rules.specs.Framed.{answer_in, rows_in, walk_refusal}
use Rattle.image_rules.specs.Refusals.{refusal_or}
use Rattle.sh_machines.specs.Grammar.{StaysInside, body_of}
use Rattle.guest_image.specs.Records.{Refusal}

-- the functions rise and share no byte, each has words and as many classes, and no word leads out of its function; labels
-- rise by function
pub record IsWalkable (i : Image) : Type 0 where
  pub apart : AreApart i.functions
  pub words : length i.words ≡ length i.functions
  pub sites : length i.sites ≡ length i.functions
  pub small : (f : ℕ) → f < length i.functions → length (slice_index_or i.words f []) < 2 ^ 30
  pub classed : (f : ℕ) → f < length i.functions → length (slice_index_or i.sites f []) ≡ length (slice_index_or i.words f [])
  pub inside : (f : ℕ) → f < length i.functions → StaysInside (body_of i f)
  pub rising : IsNonDecreasingBy (λ (q : Pair). q.func) i.labels

-- these are the rows of a function, or this refuses it
abbrev pub IsFrame : Refusal → List (Option FrameState) → Result FrameTable FrameNo → Type 0
IsFrame refusal rows (Ok t) = (refusal ≡ None) × (t ≡ record { rows = rows })
IsFrame refusal rows (Err NoMemory) = Unit {0}
IsFrame refusal rows (Err (Refused off rule)) = refusal ≡ Some (off, rule)

-- what refuses a function: what is noted of it, else its walk
abbrev pub noted_refusal : Image → List Refusal → ℕ → Refusal
noted_refusal i refused f = refusal_or (slice_index_or refused f None) (walk_refusal (answer_in i f))

-- that of a function of an image, by what is noted and by its walk
abbrev pub IsFrameOf : Image → List Refusal → ℕ → Result FrameTable FrameNo → Type 0
IsFrameOf i refused f found = IsFrame (noted_refusal i refused f) (rows_in (answer_in i f)) found

-- why there is no image, where a function has no rows
abbrev pub fault_of : ℕ → Function → FrameNo → LoadFault
fault_of f g NoMemory = load.NoMemory
fault_of f g (Refused off rule) = load.Refused f g.name off rule

abbrev pub fault_in : ℕ → Function → Result FrameTable FrameNo → Option LoadFault
fault_in f g (Ok t) = None
fault_in f g (Err why) = Some (fault_of f g why)

-- the first function without rows, from function f on
abbrev pub first_fault : (f : ℕ) → List Function → List (Result FrameTable FrameNo) → Option LoadFault
first_fault f [] found = None
first_fault f (g ∷ gs) [] = None
first_fault f (g ∷ gs) (r ∷ rs) = or_later (fault_in f g r) (first_fault (suc f) gs rs)

-- all of them have rows
abbrev pub all_found : List FrameTable → List (Result FrameTable FrameNo)
all_found tables = map (λ (t : FrameTable). Ok t) tables
