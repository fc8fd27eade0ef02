-- SPDX-License-Identifier: Apache-2.0
-- The sizes of an image's functions.
use Rattle.std.proofs.Common.{◌≡◌, ℕ, ◌<◌, ◌≤◌, List, length, get_or, map, sym, ap, ◌∙◌, arith}
use Rattle.std.specs.Prelude.{slice_index}
use Rattle.std.proofs.lemmas.List.{get_or-map, get_or_past, length-map}
use Rattle.sh_types.specs.declared.code.Function.{Function}
use Rattle.sh_types.specs.declared.code.Image.{Image}
use Rattle.sh_types.specs.Image.{sizes_of}

pub sizes_many : (image : Image) → length (sizes_of image) ≡ length image.functions
unfolding sizes_of
sizes_many image = length-map image.functions (λ (f : Function). f.size)

-- the size of a function that is there, and of one that is not
pub size_got : (image : Image) (fs : List Function) (f : ℕ) (x : Function) → fs ≡ image.functions → x ≡ get_or fs f x → f < length fs → x.size ≡ slice_index (sizes_of image) f
unfolding sizes_of
size_got image fs f x same e lt =
    ap (λ (g : Function). g.size) e ∙ sym (get_or-map (λ (g : Function). g.size) fs f x 0 lt) ∙ ap (λ (gs : List Function). slice_index (map (λ (g : Function). g.size) gs) f) same

pub size_past : (image : Image) (fs : List Function) (f : ℕ) → fs ≡ image.functions → length fs ≤ f → 0 ≡ slice_index (sizes_of image) f
unfolding sizes_of
size_past image fs f same le =
    sym (get_or_past (map (λ (g : Function). g.size) fs) f 0 (omega (arith, le, length-map fs (λ (g : Function). g.size)))) ∙ ap (λ (gs : List Function). slice_index (map (λ (g : Function). g.size) gs) f) same
