-- SPDX-License-Identifier: Apache-2.0
-- The places, one after another.
use Rattle.std.proofs.Common.{◌≡◌, ℕ, zero, suc, ◌+◌, ◌%◌, ◌≤◌, List, refl, ◌∙◌, arith, length, add-one, length-set, replicate}
use Rattle.std.specs.Prelude.{slice_index, slice_set}
use Rattle.std.proofs.lemmas.List.{length-replicate}
use Rattle.layout_maker.specs.Spots.{gap_by, end_by, places_by}

pub gap_le : (d : ℕ → ℕ) (share p : ℕ) → gap_by d share p ≤ share
gap_le d share p = omega arith

pub gap_whole : (d : ℕ → ℕ) (share p : ℕ) → gap_by d share p % 4 ≡ 0
gap_whole d share p = omega arith

pub end_none : (d : ℕ → ℕ) (share : ℕ) (order sizes : List ℕ) (start : ℕ) → end_by d share order sizes start 0 ≡ start
unfolding end_by
end_none d share order sizes start = refl

pub end_more : (d : ℕ → ℕ) (share : ℕ) (order sizes : List ℕ) (start p : ℕ) → end_by d share order sizes start (p + 1) ≡ end_by d share order sizes start p + gap_by d share p + slice_index sizes (slice_index order p) + 4
unfolding end_by
end_more d share order sizes start p = rw add-one refl

pub places_none : (d : ℕ → ℕ) (share : ℕ) (order sizes : List ℕ) (start : ℕ) → places_by d share order sizes start 0 ≡ replicate (length sizes) 0
unfolding places_by
places_none d share order sizes start = refl

pub places_more : (d : ℕ → ℕ) (share : ℕ) (order sizes : List ℕ) (start p : ℕ) → places_by d share order sizes start (p + 1) ≡ slice_set (places_by d share order sizes start p) (slice_index order p) (end_by d share order sizes start p + gap_by d share p)
unfolding places_by
places_more d share order sizes start p = rw add-one refl

pub places_length : (d : ℕ → ℕ) (share : ℕ) (order sizes : List ℕ) (start p : ℕ) → length (places_by d share order sizes start p) ≡ length sizes
unfolding places_by
places_length d share order sizes start zero = length-replicate (length sizes) 0
places_length d share order sizes start (suc p) = length-set _ _ _ ∙ places_length d share order sizes start p
