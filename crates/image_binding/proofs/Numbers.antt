-- SPDX-License-Identifier: Apache-2.0
-- The number of the bytes that a record takes, by how many they are.
use Rattle.std.proofs.Common.{◌≡◌, ◌≢◌, ◌⊎◌, inl, inr, ℕ, ◌+◌, ◌≤◌, List, length, refl, sym, ap, ◌∙◌, arith}
use Rattle.std.proofs.lemmas.Bool.{cond_both}
use Rattle.sh_types.specs.declared.relocs.Reloc.{Reloc}
use Rattle.elf_rules.specs.declared.elf.Segment.{Segment}
use Rattle.elf_rules.specs.Bindable.{filled_in_order, mapped_place, number_under}
use Rattle.elf_rules.specs.Elf.{number_at}
use Rattle.load_law.specs.Placed.{HasBytes}
use Rattle.elf_rules.specs.Relocs.{takes_eight, takes_four, width_of}

abbrev IsWidth : ℕ → Type 0
IsWidth n = (n ≡ 0) ⊎ ((n ≡ 4) ⊎ (n ≡ 8))

width_is : (kind : ℕ) → IsWidth (width_of kind)
unfolding width_of
width_is kind =
    cond_both (takes_eight kind) 8 _ IsWidth (λ e. inr (inr refl)) (λ e. cond_both (takes_four kind) 4 0 IsWidth (λ e. inr (inl refl)) (λ e. inl refl))

pub width_eight : (kind w : ℕ) → w ≡ width_of kind → w ≢ 0 → w ≢ 4 → width_of kind ≡ 8
width_eight kind w e none four = elim (width_is kind) [
  | inl z ↦ absurd (none (e ∙ z))
  | inr (inl f) ↦ absurd (four (e ∙ f))
  | inr (inr h) ↦ h
]

module _ (b : List ℕ) (segments : List Segment) (r : Reloc) where
  pub none_under : width_of r.kind ≡ 0 → 0 ≡ number_under b segments r
  unfolding number_under number_at
  none_under e = sym (ap (λ n. number_at n b (mapped_place segments r.place)) e)

  pub some_under : (width : ℕ) → width_of r.kind ≡ width → number_at width b (mapped_place segments r.place) ≡ number_under b segments r
  unfolding number_under
  some_under width e = sym (ap (λ n. number_at n b (mapped_place segments r.place)) e)

-- eight bytes of a record lie in the file
pub eight_inside : (b : List ℕ) (segments : List Segment) (r : Reloc) (place : ℕ) → HasBytes b r → segments ≡ filled_in_order b → place ≡ mapped_place segments r.place → width_of r.kind ≡ 8 → place + 8 ≤ length b
eight_inside b segments r place h s p e =
    let file = h.file (omega (arith, e)) in
    let same : mapped_place segments r.place ≡ mapped_place (filled_in_order b) r.place = ap (λ gs. mapped_place gs r.place) s in
    omega (arith, file, same, p, e)
