-- SPDX-License-Identifier: Apache-2.0
-- Counts of faults: when a failure may be answered.
use Rattle.std.specs.Prelude.{◌≡◌, ℕ, ◌+◌, ◌-◌, ◌^◌, ◌<◌, ◌≤◌, ◌&&◌, Bool, true, false, min, List, [], ◌∷◌, ◌++◌, replicate, count_by, length, nat_eq, Result, Ok, Err, IsErrOf, OnErr, MatchResult}
use Rattle.std.specs.Cmp.Lexicographic.{pointwise}
use Rattle.sh_base.specs.declared.files.FileWord.{FileWord}
use Rattle.sh_base.specs.declared.files.FileWord.TheVariants.{Load, Store}
use Rattle.sh_base.specs.declared.files.FileCall.{FileCall}
use Rattle.sh_base.specs.declared.files.FileFault.{FileFault}
use Rattle.sh_base.specs.declared.files.FileFault.TheVariants.{Failed, NoMemory}

-- one more, up to the last number of 64 bits
abbrev pub next_count : ℕ → ℕ
next_count n = min (n + 1) (2 ^ 64 - 1)

-- the count rose. One that stands at its last value counts as risen
abbrev pub Rose : ℕ → ℕ → Type 0
Rose before now = next_count before ≤ now

-- a count never falls, and a failure comes only where it rose
pub record HasCause {T E : Type 0} (before now : ℕ) (result : Result T E) : Type 0 where
  pub later : before ≤ now
  pub failed : OnErr result (Rose before now)

-- do the two words do the same with a file?
abbrev pub same_word : FileWord → FileWord → Bool
same_word Load Load = true
same_word Store Store = true
same_word Load Store = false
same_word Store Load = false

-- is it a call of this name and word?
abbrev pub is_call : List ℕ → FileWord → FileCall → Bool
is_call name word call = pointwise nat_eq call.name name && same_word call.word word

-- how often calls of this name and word have failed
abbrev pub fault_count : List ℕ → FileWord → List FileCall → ℕ
fault_count name word faults = count_by (is_call name word) faults

-- a call of a name
abbrev pub call_of : List ℕ → FileWord → FileCall
call_of name word = record { name = name; word = word }

-- the list grew by nothing but this call, as often as it may be
abbrev pub AddsOnly : FileCall → List FileCall → List FileCall → Type 0
AddsOnly call before now = now ≡ before ++ replicate (length now - length before) call

-- a call adds nothing but itself to the faults, and `Failed` comes only where the count of its name and word rose
pub record HasFileCause {T : Type 0} (name : List ℕ) (word : FileWord) (before now : List FileCall) (result : Result T FileFault) : Type 0 where
  pub adds : AddsOnly (call_of name word) before now
  pub failed : IsErrOf result Failed → fault_count name word before < fault_count name word now

-- a failure adds the call to the faults, and no other answer adds any
abbrev pub FaultsAfter : {T : Type 0} → FileCall → List FileCall → List FileCall → Result T FileFault → Type 0
FaultsAfter call before now (Ok done) = now ≡ before
FaultsAfter call before now (Err Failed) = now ≡ before ++ call ∷ []
FaultsAfter call before now (Err NoMemory) = now ≡ before

-- a failure raises the count by one, and success leaves it
abbrev pub CountAfter : {T E : Type 0} → ℕ → ℕ → Result T E → Type 0
CountAfter before now result = MatchResult result (λ _. now ≡ before) (λ _. now ≡ next_count before)
