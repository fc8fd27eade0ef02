-- SPDX-License-Identifier: Apache-2.0
-- The numbers that words have as literals, word by word.
use Rattle.std.proofs.Common.{◌≡◌, ℕ, zero, suc, ◌+◌, ◌-◌, ◌*◌, ◌/◌, ◌^◌, ◌<◌, ◌≤◌, Bool, true, false, Option, List, [], ◌∷◌, ◌++◌, length, length-append, get_or, refl, sym, ap, ◌∙◌, arith, add-one}
use Rattle.std.specs.Prelude.{◌==◌, slice_index, if◌then◌else◌}
use Rattle.std.proofs.Math.ListN.{get_or-append}
use Rattle.std.proofs.Math.Seq.{get_or-append_seam}
use Rattle.std.proofs.lemmas.Bool.Decides.{nat_tests}
use Rattle.std.proofs.lemmas.List.{length-map}
use Rattle.sh_machines.specs.Copy.{is_literal, literal_at, literal_number, literals_below, literals_in}
use Rattle.sh_types.specs.declared.code.Function.{Function}
use Rattle.sh_types.specs.declared.code.Image.{Image}
use Rattle.sh_types.specs.declared.code.FrameState.{FrameState}
use Rattle.sh_types.specs.declared.code.Site.{Site}
use Rattle.sh_types.specs.Image.{row_at, site_at, sizes_of}
use Rattle.sh_types.specs.Place.{pair}
use Rattle.thread_step.specs.Numbered.{AreNumbered, AreNumbers}

-- ---- counting

literals_none : (image : Image) (f : ℕ) → literals_in image f 0 ≡ 0
unfolding literals_in
literals_none image f = refl

literals_more : (image : Image) (f i : ℕ) → literals_in image f (i + 1) ≡ literals_in image f i + (if literal_at image f i then 1 else 0)
unfolding literals_in
literals_more image f i = rw add-one refl

pub below_none : (image : Image) → literals_below image 0 ≡ 0
unfolding literals_below
below_none image = refl

pub below_next : (image : Image) (f : ℕ) → literals_below image (f + 1) ≡ literals_below image f + literals_in image f (slice_index (sizes_of image) f / 4)
unfolding literals_below
below_next image f = rw add-one refl

in_up : (image : Image) (f i j : ℕ) → literals_in image f i ≤ literals_in image f (i + j)
in_up image f i zero = let z : i + 0 ≡ i = omega arith in rw z (omega arith)
in_up image f i (suc j) =
    let z : i + suc j ≡ i + j + 1 = omega arith in
    rw z (omega (arith, in_up image f i j, literals_more image f (i + j)))

below_up : (image : Image) (f j : ℕ) → literals_below image f ≤ literals_below image (f + j)
below_up image f zero = let z : f + 0 ≡ f = omega arith in rw z (omega arith)
below_up image f (suc j) =
    let z : f + suc j ≡ f + j + 1 = omega arith in
    rw z (omega (arith, below_up image f j, below_next image (f + j)))

-- none is above the number of all
pub number_small : (image : Image) (f i : ℕ) → literals_below image (length (sizes_of image)) ≤ 2 ^ 20 → f < length (sizes_of image) → i ≤ slice_index (sizes_of image) f / 4 → literal_number image f i ≤ 2 ^ 20
number_small image f i few hf hi =
    let a : i + (slice_index (sizes_of image) f / 4 - i) ≡ slice_index (sizes_of image) f / 4 = omega arith in
    let b : f + 1 + (length (sizes_of image) - (f + 1)) ≡ length (sizes_of image) = omega arith in
    let x : literals_in image f i ≤ literals_in image f (slice_index (sizes_of image) f / 4) = rw a at (in_up image f i (slice_index (sizes_of image) f / 4 - i)) in
    let y : literals_below image (f + 1) ≤ literals_below image (length (sizes_of image)) = rw b at (below_up image (f + 1) (length (sizes_of image) - (f + 1))) in
    omega (arith, x, y, below_next image f, few)

pub number_first : (image : Image) (f : ℕ) → literal_number image f 0 ≡ literals_below image f
number_first image f = omega (arith, literals_none image f)

-- the number after a word, which counts where the word is a literal
pub number_next : (image : Image) (f i n m : ℕ) (site : Site) (row : Option FrameState) (b : Bool) → site ≡ site_at image (pair f (4 * i)) → row ≡ row_at image (pair f (4 * i)) → b ≡ is_literal site row → n ≡ literal_number image f i → m ≡ n + (if b then 1 else 0) → m ≡ literal_number image f (i + 1)
number_next image f i n m site row b es er eb en em =
    let same : b ≡ literal_at image f i = eb ∙ ap (λ s. is_literal s row) es ∙ ap (λ r. is_literal (site_at image (pair f (4 * i))) r) er in
    let step : m ≡ n + (if literal_at image f i then 1 else 0) = em ∙ ap (λ x. n + (if x then 1 else 0)) same in
    omega (arith, literals_more image f i, en, step)

-- ---- lists of numbers

pub numbers_none : (image : Image) (f : ℕ) → AreNumbers image f 0 []
numbers_none image f = record { many = refl; each = λ i h. absurd (omega (arith, h)) }

pub numbers_more : (image : Image) (f i x : ℕ) (numbers : List ℕ) → AreNumbers image f i numbers → x ≡ literal_number image f i → AreNumbers image f (i + 1) (numbers ++ x ∷ [])
numbers_more image f i x numbers a e =
    record {
      many = omega (arith, length-append numbers (x ∷ []), a.many);
      each = λ j h. by j h (j == i) refl;
    }
  where
    by : (j : ℕ) → j < i + 1 → (b : Bool) → (j == i) ≡ b → slice_index (numbers ++ x ∷ []) j ≡ literal_number image f j
    by j h true t =
        let k : j ≡ i = grind (arith, nat_tests) in
        let n : j ≡ length numbers = k ∙ sym a.many in
        ap (λ m. get_or (numbers ++ x ∷ []) m 0) n ∙ get_or-append_seam numbers x [] 0 ∙ e ∙ ap (literal_number image f) (sym k)
    by j h false t =
        let lt : j < i = grind (arith, nat_tests) in
        get_or-append numbers (x ∷ []) 0 j (omega (arith, lt, a.many)) ∙ a.each j lt

pub numbered_none : (image : Image) → AreNumbered image 0 []
numbered_none image = record { many = refl; each = λ f h. absurd (omega (arith, h)) }

pub sizes_many : (image : Image) → length (sizes_of image) ≡ length image.functions
unfolding sizes_of
sizes_many image = length-map image.functions (λ (f : Function). f.size)
