-- SPDX-License-Identifier: Apache-2.0
-- The mapped bytes are few enough to be counted.
use Rattle.std.proofs.Common.{◌≡◌, ℕ, ◌+◌, ◌*◌, ◌^◌, ◌<◌, ◌≤◌, List, [], ◌∷◌, length, get_or, All, ◌∙◌, arith, inl, inr}
use Rattle.std.specs.Prelude.{◌==◌}
use Rattle.std.specs.List.{AllByRecursion}
use Rattle.std.proofs.lemmas.List.{length-map}
use Rattle.std.proofs.lemmas.List.Elements.{recursion_from_All}
use Rattle.std.proofs.lemmas.Bool.{cases_Bool}
use Rattle.load_law.specs.Placed.{IsPlaced}
use Rattle.image_binding.proofs.Places.{length-places}
use Rattle.elf_rules.specs.declared.elf.Program.{Program}
use Rattle.elf_rules.specs.declared.elf.Segment.{Segment}
use Rattle.elf_rules.specs.Bindable.{mapped_by}
use Rattle.elf_rules.specs.Elf.{number_at, places, loads, program, program_at, program_count, programs_of, segments_of}

abbrev AreBytes : List ℕ → Type 0
AreBytes b = (i : ℕ) → get_or b i 0 < 2 ^ 8

below_two : (b : List ℕ) (place : ℕ) → AreBytes b → number_at 2 b place < 2 ^ 16
unfolding number_at
below_two b place small = omega (arith, small place, small (place + 1))

length-programs : (b : List ℕ) → length (programs_of b) ≡ program_count b
unfolding programs_of
length-programs b = length-map (places 56 (program_at b) (program_count b)) (program b) ∙ length-places 56 (program_at b) (program_count b)

fewer : (ps : List Program) → length (loads ps) ≤ length ps
fewer [] = omega arith
fewer (p ∷ ps) = let rest = fewer ps in elim (cases_Bool (p.kind == 1)) [ inl t ↦ rw t (omega (arith, rest)) | inr f ↦ rw f (omega (arith, rest)) ]

sum_below : (b : List ℕ) (gs : List Segment) → AllByRecursion (IsPlaced b) gs → mapped_by gs ≤ 0x3f000000 * length gs
sum_below b [] a = omega arith
sum_below b (g ∷ gs) a = let rest = sum_below b gs a.1 in omega (arith, rest, a.0.low)

pub mapped_fits : (b : List ℕ) (segments : List Segment) → segments ≡ segments_of b → All (IsPlaced b) (segments_of b) → AreBytes b → mapped_by segments < 2 ^ 64
mapped_fits b segments e placed small =
    let sum = sum_below b (segments_of b) (recursion_from_All (IsPlaced b) (segments_of b) placed) in
    let some = fewer (programs_of b) in
    let count = length-programs b in
    let few = below_two b 56 small in
    rw e (omega (arith, sum, some, count, few))
