-- SPDX-License-Identifier: Apache-2.0
-- The words of a copy: at the place of a pair stands the pair's word, and at a guard 0.
use Rattle.std.proofs.Common.{◌≡◌, ◌≢◌, ℕ, zero, suc, ◌+◌, ◌-◌, ◌*◌, ◌/◌, ◌<◌, List, [], ◌∷◌, refl, sym, ap, ◌∙◌, arith, length, Bool, true, false, not, true≢false, Some, None}
use Rattle.std.specs.Prelude.{slice_index, slice_index_or, ◌==◌, ◌&&◌}
use Rattle.std.specs.List.{list_all}
use Rattle.std.proofs.lemmas.Bool.Decides.{nat_tests}
use Rattle.std.proofs.lemmas.List.FromFn.{get_or-map-range_with_len, length-map-range_with_len}
use Rattle.sh_types.specs.declared.code.Pair.{Pair}
use Rattle.sh_types.specs.declared.code.Site.{Site}
use Rattle.sh_types.specs.declared.code.Site.TheVariants.{Plain}
use Rattle.sh_types.specs.declared.code.Image.{Image}
use Rattle.rv_table.specs.declared.instructions.Instr.{Instr}
use Rattle.rv_table.specs.declared.instructions.Op.TheVariants.{Jalr}
use Rattle.sh_types.specs.declared.layouts.Layout.{Layout}
use Rattle.sh_machines.specs.Copy.{word_for, moved_word, copied, cell_words, copy_of, is_through}
use Rattle.sh_types.specs.Fetch.{InCopy, word_in}
use Rattle.rv_table.specs.Decoding.{decoded}
use Rattle.sh_types.specs.Image.{site_at, word_at}
use Rattle.sh_types.specs.Place.{WellPlaced, IsPair, place_of, whose_of, cell_start}
use Rattle.sh_types.proofs.Placing.{whose_place}

-- ---- one address

pub none_is : (image : Image) (l : Layout) (a : ℕ) → whose_of l a ≡ None → copied image l a ≡ 0
unfolding copied
none_is image l a e = ap (word_for image l) e

pub guard_is : (image : Image) (l : Layout) (a : ℕ) (p : Pair) → whose_of l a ≡ Some p → p.off ≡ slice_index l.sizes p.func → copied image l a ≡ 0
unfolding copied
guard_is image l a p e g =
    let t : (p.off == slice_index l.sizes p.func) ≡ true = grind (arith, nat_tests) in
    ap (word_for image l) e ∙ rw t refl

pub word_is : (image : Image) (l : Layout) (a : ℕ) (p : Pair) → whose_of l a ≡ Some p → p.off ≢ slice_index l.sizes p.func → copied image l a ≡ moved_word image l p
unfolding copied
word_is image l a p e g =
    let t : (p.off == slice_index l.sizes p.func) ≡ false = grind (arith, nat_tests) in
    ap (word_for image l) e ∙ rw t refl

-- ---- the words of the cell

pub cell_length : (image : Image) (l : Layout) → length (cell_words image l) ≡ 262144
unfolding cell_words
cell_length image l = length-map-range_with_len (λ k. copied image l (cell_start l.cell + 4 * k)) 0 262144

pub copied_at : (image : Image) (l : Layout) (k : ℕ) → k < 262144 → slice_index (cell_words image l) k ≡ copied image l (cell_start l.cell + 4 * k)
unfolding cell_words
copied_at image l k h = get_or-map-range_with_len (λ k. copied image l (cell_start l.cell + 4 * k)) 0 262144 k k 0 h (omega arith)

-- the address of a pair is that of a word of the copy
pub place_in_copy : (image : Image) (l : Layout) (p : Pair) → WellPlaced l → IsPair l.sizes p → InCopy (copy_of image l) (place_of l p)
place_in_copy image l p w ip =
    let b = w.inside p.func (omega (arith, ip.func, w.many)) in
    let m = w.whole p.func in
    record {
      from = omega (arith, b.0);
      whole = omega (arith, b.0, m, ip.whole);
      below = omega (arith, b.0, b.1, ip.off, cell_length image l);
    }

at_place : (image : Image) (l : Layout) (p : Pair) → WellPlaced l → IsPair l.sizes p → word_in (copy_of image l) (place_of l p) ≡ copied image l (place_of l p)
at_place image l p w ip =
    let b = w.inside p.func (omega (arith, ip.func, w.many)) in
    let m = w.whole p.func in
    let k : (place_of l p - cell_start l.cell) / 4 < 262144 = omega (arith, b.0, b.1, ip.off) in
    let back : cell_start l.cell + 4 * ((place_of l p - cell_start l.cell) / 4) ≡ place_of l p = omega (arith, b.0, m, ip.whole) in
    copied_at image l ((place_of l p - cell_start l.cell) / 4) k ∙ ap (copied image l) back

-- the word at the place of a pair is the pair's
pub copied_place : (image : Image) (l : Layout) (p : Pair) → WellPlaced l → IsPair l.sizes p → p.off < slice_index l.sizes p.func → word_in (copy_of image l) (place_of l p) ≡ moved_word image l p
copied_place image l p w ip lt = at_place image l p w ip ∙ word_is image l (place_of l p) p (whose_place l p w ip) (λ e. absurd (omega (arith, e)))

-- and the word behind a function is 0
pub copied_guard : (image : Image) (l : Layout) (p : Pair) → WellPlaced l → IsPair l.sizes p → p.off ≡ slice_index l.sizes p.func → word_in (copy_of image l) (place_of l p) ≡ 0
copied_guard image l p w ip e = at_place image l p w ip ∙ guard_is image l (place_of l p) p (whose_place l p w ip) e

-- ---- images without indirect calls and jumps

abbrev pub is_direct : Site → Bool
is_direct site = not (is_through site)

both : (a b : Bool) → (a && b) ≡ true → (a ≡ true) × (b ≡ true)
both true true e = (refl, refl)
both true false e = absurd cc
both false b e = absurd cc

not_through : (site : Site) → is_direct site ≡ true → is_through site ≡ true → ⊥
not_through site d t = true≢false (sym d ∙ ap not t)

one_direct : (sites : List Site) (i : ℕ) → list_all is_direct sites ≡ true → is_through (slice_index_or sites i Plain) ≡ true → ⊥
one_direct [] i e t = absurd cc
one_direct (s ∷ ss) zero e t = not_through s (both (is_direct s) (list_all is_direct ss) e).0 t
one_direct (s ∷ ss) (suc i) e t = one_direct ss i (both (is_direct s) (list_all is_direct ss) e).1 t

all_direct : (sites : List (List Site)) (f i : ℕ) → list_all (λ sites. list_all is_direct sites) sites ≡ true → is_through (slice_index_or (slice_index_or sites f []) i Plain) ≡ true → ⊥
all_direct [] f i e t = absurd cc
all_direct (s ∷ ss) zero i e t = one_direct s i (both (list_all is_direct s) (list_all (λ sites. list_all is_direct sites) ss) e).0 t
all_direct (s ∷ ss) (suc f) i e t = all_direct ss f i (both (list_all is_direct s) (list_all (λ sites. list_all is_direct sites) ss) e).1 t

-- an image whose sites are all direct has none that needs to be a JALR
pub direct_through : (image : Image) → list_all (λ sites. list_all is_direct sites) image.sites ≡ true → (p : Pair) (i : Instr) → is_through (site_at image p) ≡ true → decoded (word_at image p) ≡ Some i → i.op ≡ Jalr
direct_through image e p i t d = absurd (all_direct image.sites p.func (p.off / 4) e t)
