-- SPDX-License-Identifier: Apache-2.0
-- Functions of which none is refused are small.
use Rattle.std.proofs.Common.{◌≡◌, ℕ, ◌+◌, ◌<◌, ◌≤◌, ◌^◌, List, [], ◌∷◌, Option, Some, None, refl, arith, All}
use Rattle.std.specs.List.{AllByRecursion}
use Rattle.std.proofs.lemmas.List.Elements.{All-from_recursion, recursion_from_All}
use Rattle.std.proofs.lemmas.Bool.Decides.{nat_tests}
use Rattle.elf_rules.specs.declared.starts.Start.{Start}
use Rattle.elf_rules.specs.declared.refusals.SplitFault.{SplitFault}
use Rattle.elf_rules.specs.declared.refusals.SplitRule.{SplitRule}
use Rattle.fn_split.specs.Low.{EndsLow}
use Rattle.elf_rules.specs.Splitting.{first_refused, fault_of, refused_or}

no_fault : (f : Start) (rule : Option SplitRule) (later : Option SplitFault) → refused_or f rule later ≡ None → (rule ≡ None) × (later ≡ None)
no_fault f None later h = (refl, h)
no_fault f (Some rule) later h = cc

sound : (before : ℕ) (f : Start) → fault_of before f ≡ None → f.home + f.size ≤ f.high
unfolding fault_of
sound before f h = grind (arith, nat_tests, h)

all_small : (before : ℕ) (fs : List Start) → AllByRecursion EndsLow fs → first_refused before fs ≡ None → AllByRecursion (λ (f : Start). f.size < 2 ^ 32) fs
all_small before [] low h = tt
all_small before (f ∷ fs) low h =
    let parts = no_fault f (fault_of before f) (first_refused (f.home + f.size) fs) h in
    let s = sound before f parts.0 in
    (omega (arith, s, low.0), all_small (f.home + f.size) fs low.1 parts.1)

pub small : (before : ℕ) (fs : List Start) → first_refused before fs ≡ None → All EndsLow fs → All (λ (f : Start). f.size < 2 ^ 32) fs
small before fs h low = All-from_recursion (λ (f : Start). f.size < 2 ^ 32) fs (all_small before fs (recursion_from_All EndsLow fs low) h)
