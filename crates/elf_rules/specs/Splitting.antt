-- SPDX-License-Identifier: Apache-2.0
-- The functions that symbols, sections and the entry give, and which one is refused. Symbols are those of the System V
-- gABI ("Symbol Table"); the rules of splitting are this project's own.
use Rattle.std.specs.Prelude.{◌≡◌, ◌≤◌, IsTrue, ℕ, ◌+◌, ◌-◌, ◌%◌, ◌==◌, ◌&&◌, ◌||◌, nat_lt, nat_le, not, max, min, Bool, List, [], ◌∷◌, ◌++◌, filter, map, find, get_or, unwrap_or, slice_get, false, Option, Some, None, Result, Ok, Err, if◌then◌else◌, codes}
use Rattle.std.specs.List.{list_any}
use Rattle.sh_types.specs.declared.code.Function.{Function}
use Rattle.elf_rules.specs.declared.starts.Start.{Start}
use Rattle.sh_types.specs.declared.symbols.Section.{Section}
use Rattle.sh_types.specs.declared.symbols.Symbol.{Symbol}
use Rattle.elf_rules.specs.declared.refusals.SplitFault.{SplitFault}
use Rattle.elf_rules.specs.declared.refusals.SplitFault.TheVariants.{NoMemory, Rule}
use Rattle.elf_rules.specs.declared.refusals.SplitRule.{SplitRule}
use Rattle.elf_rules.specs.declared.refusals.SplitRule.TheVariants.{Unaligned, Size, Overlap, EntryInside}
use Rattle.elf_rules.specs.ElfRules.{runs_at}
use Rattle.sh_types.specs.Limits.{image_end}

abbrev pub end_of : Section → ℕ
end_of s = s.start + s.size

-- an executable section ends at image_end or below
abbrev pub IsBounded : Section → Type 0
IsBounded s = IsTrue s.executable → end_of s ≤ image_end

-- ---- the starts that symbols give

abbrev pub no_section : Section
no_section = record { start = 0; size = 0; executable = false }

-- the section of a symbol
abbrev pub section_by : List Section → ℕ → Section
section_by sections number = get_or sections number no_section

-- a start of this size in this section
abbrev pub start_in : Section → ℕ → ℕ → Option ℕ → Start
start_in section home size place = record { home = home; size = size; low = section.start; high = end_of section; place = place }

-- of kind STT_FUNC, in an executable section
abbrev pub is_function : List Section → Symbol → Bool
is_function sections s = s.kind == 2 && (section_by sections s.section).executable

-- of the symbols from a place of the table on, the functions
abbrev pub starts_from : List Section → ℕ → List Symbol → List Start
starts_from sections place [] = []
starts_from sections place (s ∷ symbols) =
    if is_function sections s
    then start_in (section_by sections s.section) s.value s.size (Some place) ∷ starts_from sections (place + 1) symbols
    else starts_from sections (place + 1) symbols

-- ---- symbols of one value join

-- a number among others in rising order, once
abbrev pub put : ℕ → List ℕ → List ℕ
put v [] = v ∷ []
put v (w ∷ ws) = if nat_lt v w then v ∷ w ∷ ws else if v == w then w ∷ ws else w ∷ put v ws

-- the homes of starts, each once, in rising order
abbrev pub homes : List Start → List ℕ
homes [] = []
homes (s ∷ starts) = put s.home (homes starts)

abbrev pub greatest : List Start → ℕ
greatest [] = 0
greatest (s ∷ starts) = max s.size (greatest starts)

abbrev pub no_start : Start
no_start = record { home = 0; size = 0; low = 0; high = 0; place = None }

abbrev pub first : List Start → Start
first [] = no_start
first (s ∷ starts) = s

abbrev pub all_at : List Start → ℕ → List Start
all_at starts home = filter (λ (s : Start). s.home == home) starts

-- the starts of one home: name and section of the first in the table, and the greatest size
abbrev pub joined_at : List Start → ℕ → Start
joined_at starts home = record (first (all_at starts home)) { size = greatest (all_at starts home) }

unfoldable pub joined : List Start → List Start
joined starts = map (joined_at starts) (homes starts)

-- ---- the function `entry`

-- a function starts at the entry, or contains it by the size that is given
unfoldable pub covers : ℕ → Start → Bool
covers entry f = f.home == entry || (nat_le f.home entry && nat_lt entry (f.home + f.size))

-- it begins at the entry, and its size is not given
unfoldable pub entry_start : List Section → ℕ → Start
entry_start sections entry = start_in (unwrap_or (find (runs_at entry) sections) no_section) entry 0 None

abbrev pub added : List Section → ℕ → List Start → List Start
added sections entry starts = if list_any (covers entry) (joined starts) then [] else entry_start sections entry ∷ []

unfoldable pub all_starts : List Symbol → List Section → ℕ → List Start
all_starts symbols sections entry = starts_from sections 0 symbols ++ added sections entry (starts_from sections 0 symbols)

-- ---- sizes

-- a size 0 runs to the next function's start or to the section's end, whichever is first
unfoldable pub resized : Start → Option Start → Start
resized f None = if f.size == 0 then record f { size = f.high - f.home } else f
resized f (Some g) = if f.size == 0 then record f { size = min g.home f.high - f.home } else f

abbrev pub sized : List Start → List Start
sized [] = []
sized (f ∷ starts) = resized f (slice_get starts 0) ∷ sized starts

-- the functions, by rising home address
unfoldable pub ranges_of : List Symbol → List Section → ℕ → List Start
ranges_of symbols sections entry = sized (joined (all_starts symbols sections entry))

-- ---- refusals

-- what is wrong with a function, given the end of the one before
unfoldable pub fault_of : ℕ → Start → Option SplitRule
fault_of before f =
    if not (f.home % 4 == 0) || not (f.size % 4 == 0) then Some Unaligned
    else if f.size == 0 || nat_lt f.home f.low || nat_le f.high f.home || nat_lt f.high (f.home + f.size) then Some Size
    else if nat_lt f.home before then Some Overlap
    else None

abbrev pub refused_or : Start → Option SplitRule → Option SplitFault → Option SplitFault
refused_or f None later = later
refused_or f (Some rule) later = Some (Rule f.home rule)

-- the first function that is refused by itself or by the one before
abbrev pub first_refused : ℕ → List Start → Option SplitFault
first_refused before [] = None
first_refused before (f ∷ fs) = refused_or f (fault_of before f) (first_refused (f.home + f.size) fs)

-- the entry lies inside the function and is not its start
unfoldable pub holds_inside : ℕ → Start → Bool
holds_inside entry f = nat_lt f.home entry && nat_lt entry (f.home + f.size)

abbrev pub inside_of : ℕ → List Start → Option SplitFault
inside_of entry [] = None
inside_of entry (f ∷ fs) = if holds_inside entry f then Some (Rule f.home EntryInside) else inside_of entry fs

abbrev pub split_or : Option SplitFault → Option SplitFault → Option SplitFault
split_or None later = later
split_or (Some refusal) later = Some refusal

-- which function is refused, if any
unfoldable pub split_refusal : List Symbol → List Section → ℕ → Option SplitFault
split_refusal symbols sections entry =
    split_or (first_refused 0 (ranges_of symbols sections entry)) (inside_of entry (ranges_of symbols sections entry))

-- ---- the functions with their names

abbrev pub no_symbol : Symbol
no_symbol = record { name = []; kind = 0; section = 0; value = 0; size = 0 }

abbrev pub name_of : List Symbol → Option ℕ → List ℕ
name_of symbols None = codes "entry"
name_of symbols (Some place) = (get_or symbols place no_symbol).name

abbrev pub function : List Symbol → Start → Function
function symbols f = record { home = f.home; size = f.size; name = name_of symbols f.place }

unfoldable pub functions_of : List Symbol → List Section → ℕ → List Function
functions_of symbols sections entry = map (function symbols) (ranges_of symbols sections entry)

-- no function is refused and these are they, or this one is refused; want of memory says nothing
abbrev pub Splits : {A : Type 0} → Result A SplitFault → Option SplitFault → A → Type 0
Splits (Ok a) refusal value = (refusal ≡ None) × (a ≡ value)
Splits (Err NoMemory) refusal value = Unit {0}
Splits (Err (Rule home rule)) refusal value = refusal ≡ Some (Rule home rule)
