-- SPDX-License-Identifier: Apache-2.0
-- The section headers are as many as the header says.
use Rattle.std.proofs.Common.{◌≡◌, ℕ, zero, suc, ◌+◌, List, length, refl, ◌∙◌, arith}
use Rattle.std.proofs.lemmas.List.{length-map}
use Rattle.elf_rules.specs.Elf.{places, heads_of, section_at, section_count, head_at}

length-places : (step place n : ℕ) → length (places step place n) ≡ n
length-places step place zero = refl
length-places step place (suc n) = grind (arith, length-places step (place + step) n)

pub length_heads_of : (b : List ℕ) → length (heads_of b) ≡ section_count b
unfolding heads_of
length_heads_of b = length-map (places 64 (section_at b) (section_count b)) (head_at b) ∙ length-places 64 (section_at b) (section_count b)
