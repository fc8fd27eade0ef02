-- SPDX-License-Identifier: Apache-2.0
-- What the words of an image are in every copy, word by word and function by function.
use Rattle.std.proofs.Common.{◌≡◌, ℕ, zero, suc, ◌+◌, ◌-◌, ◌*◌, ◌/◌, ◌<◌, ◌≤◌, Bool, true, false, Option, List, [], ◌∷◌, ◌++◌, length, length-append, get_or, refl, sym, ap, ◌∙◌, subst, arith, add-one}
use Rattle.std.specs.Prelude.{◌==◌, slice_index, slice_index_or, if◌then◌else◌}
use Rattle.std.proofs.Math.ListN.{get_or-append}
use Rattle.std.proofs.Math.Seq.{get_or-append_seam}
use Rattle.std.proofs.lemmas.Bool.Decides.{nat_tests}
use Rattle.sh_machines.specs.Copy.{IsCopyable, is_literal, literal_at, literal_number, literals_below, literals_in}
use Rattle.sh_types.specs.declared.code.FrameState.{FrameState}
use Rattle.sh_types.specs.declared.code.Image.{Image}
use Rattle.sh_types.specs.declared.code.Site.{Site}
use Rattle.sh_types.specs.declared.layouts.Layout.{Layout}
use Rattle.sh_types.specs.Image.{row_at, site_at, sizes_of}
use Rattle.sh_types.specs.Place.{IsPair, pair}
use Rattle.code_copier.specs.declared.template.Template.{Template}
use Rattle.code_copier.specs.declared.words.CopiedWord.{CopiedWord}
use Rattle.code_copier.specs.declared.words.CopiedWord.TheVariants.{Fixed}
use Rattle.code_copier.specs.Template.{AreCopied, FunctionsAreCopied, IsCopied, IsTemplate, Leads}
use Rattle.code_copier.proofs.Sizes.{sizes_many}

-- ---- the numbers of literals

literals_none : (image : Image) (f : ℕ) → literals_in image f 0 ≡ 0
unfolding literals_in
literals_none image f = refl

literals_more : (image : Image) (f i : ℕ) → literals_in image f (i + 1) ≡ literals_in image f i + (if literal_at image f i then 1 else 0)
unfolding literals_in
literals_more image f i = rw add-one refl

pub below_none : (image : Image) → literals_below image 0 ≡ 0
unfolding literals_below
below_none image = refl

pub below_next : (image : Image) (f : ℕ) → literals_below image (f + 1) ≡ literals_below image f + literals_in image f (slice_index (sizes_of image) f / 4)
unfolding literals_below
below_next image f = rw add-one refl

in_up : (image : Image) (f i j : ℕ) → literals_in image f i ≤ literals_in image f (i + j)
in_up image f i zero = let z : i + 0 ≡ i = omega arith in rw z (omega arith)
in_up image f i (suc j) =
    let z : i + suc j ≡ i + j + 1 = omega arith in
    rw z (omega (arith, in_up image f i j, literals_more image f (i + j)))

below_up : (image : Image) (f j : ℕ) → literals_below image f ≤ literals_below image (f + j)
below_up image f zero = let z : f + 0 ≡ f = omega arith in rw z (omega arith)
below_up image f (suc j) =
    let z : f + suc j ≡ f + j + 1 = omega arith in
    rw z (omega (arith, below_up image f j, below_next image (f + j)))

pub number_small : (image : Image) (f i : ℕ) → IsCopyable image → f < length (sizes_of image) → i ≤ slice_index (sizes_of image) f / 4 → literal_number image f i ≤ 131072
number_small image f i c hf hi =
    let all : literals_below image (length (sizes_of image)) ≤ 131072 = rw (sizes_many image) c.literals in
    let a : i + (slice_index (sizes_of image) f / 4 - i) ≡ slice_index (sizes_of image) f / 4 = omega arith in
    let b : f + 1 + (length (sizes_of image) - (f + 1)) ≡ length (sizes_of image) = omega arith in
    let x : literals_in image f i ≤ literals_in image f (slice_index (sizes_of image) f / 4) = rw a at (in_up image f i (slice_index (sizes_of image) f / 4 - i)) in
    let y : literals_below image (f + 1) ≤ literals_below image (length (sizes_of image)) = rw b at (below_up image (f + 1) (length (sizes_of image) - (f + 1))) in
    omega (arith, x, y, below_next image f, all)

pub number_first : (image : Image) (f : ℕ) → literal_number image f 0 ≡ literals_below image f
number_first image f = omega (arith, literals_none image f)

pub number_again : (image : Image) (f i : ℕ) → literal_number image f (4 * i / 4) ≡ literal_number image f i
number_again image f i = ap (literal_number image f) {x = 4 * i / 4} {y = i} (omega arith)

-- the number after a word, which counts where the word is a literal
pub number_next : (image : Image) (f i n m : ℕ) (site : Site) (row : Option FrameState) (b : Bool) → site ≡ site_at image (pair f (4 * i)) → row ≡ row_at image (pair f (4 * i)) → b ≡ is_literal site row → n ≡ literal_number image f i → m ≡ n + (if b then 1 else 0) → m ≡ literal_number image f (i + 1)
number_next image f i n m site row b es er eb en em =
    let same : b ≡ literal_at image f i = eb ∙ ap (λ s. is_literal s row) es ∙ ap (λ r. is_literal (site_at image (pair f (4 * i))) r) er in
    let step : m ≡ n + (if literal_at image f i then 1 else 0) = em ∙ ap (λ x. n + (if x then 1 else 0)) same in
    omega (arith, literals_more image f i, en, step)

-- ---- the words of a function

pub words_none : (image : Image) (f : ℕ) → AreCopied image f 0 []
words_none image f = record { many = refl; each = λ i h. absurd (omega (arith, h)) }

pub words_more : (image : Image) (f i : ℕ) (w : CopiedWord) (words : List CopiedWord) → AreCopied image f i words → IsCopied image (pair f (4 * i)) w → AreCopied image f (i + 1) (words ++ w ∷ [])
words_more image f i w words a is =
    record {
      many = omega (arith, length-append words (w ∷ []), a.many);
      each = λ j h. by j h (j == i) refl;
    }
  where
    by : (j : ℕ) → j < i + 1 → (b : Bool) → (j == i) ≡ b → IsCopied image (pair f (4 * j)) (slice_index_or (words ++ w ∷ []) j (Fixed 0))
    by j h true t =
        let k : j ≡ i = grind (arith, nat_tests) in
        let at : get_or (words ++ w ∷ []) i (Fixed 0) ≡ w = ap (λ m. get_or (words ++ w ∷ []) m (Fixed 0)) (sym a.many) ∙ get_or-append_seam words w [] (Fixed 0) in
        subst (λ n. IsCopied image (pair f (4 * n)) (get_or (words ++ w ∷ []) n (Fixed 0))) (sym k)
        (subst (λ x. IsCopied image (pair f (4 * i)) x) (sym at) is)
    by j h false t =
        let lt : j < i = grind (arith, nat_tests) in
        let at : get_or (words ++ w ∷ []) j (Fixed 0) ≡ get_or words j (Fixed 0) = get_or-append words (w ∷ []) (Fixed 0) j (omega (arith, lt, a.many)) in
        subst (λ x. IsCopied image (pair f (4 * j)) x) (sym at) (a.each j lt)

-- ---- the words of all functions

pub functions_none : (image : Image) → FunctionsAreCopied image 0 []
functions_none image = record { many = refl; each = λ f h. absurd (omega (arith, h)) }

pub functions_more : (image : Image) (n : ℕ) (words : List CopiedWord) (functions : List (List CopiedWord)) → FunctionsAreCopied image n functions → AreCopied image n (slice_index (sizes_of image) n / 4) words → FunctionsAreCopied image (n + 1) (functions ++ words ∷ [])
functions_more image n words functions a here =
    record {
      many = omega (arith, length-append functions (words ∷ []), a.many);
      each = λ f h. by f h (f == n) refl;
    }
  where
    by : (f : ℕ) → f < n + 1 → (b : Bool) → (f == n) ≡ b → AreCopied image f (slice_index (sizes_of image) f / 4) (slice_index_or (functions ++ words ∷ []) f [])
    by f h true t =
        let k : f ≡ n = grind (arith, nat_tests) in
        let at : get_or (functions ++ words ∷ []) n [] ≡ words = ap (λ m. get_or (functions ++ words ∷ []) m []) (sym a.many) ∙ get_or-append_seam functions words [] [] in
        subst (λ g. AreCopied image g (slice_index (sizes_of image) g / 4) (get_or (functions ++ words ∷ []) g [])) (sym k)
        (subst (λ ws. AreCopied image n (slice_index (sizes_of image) n / 4) ws) (sym at) here)
    by f h false t =
        let lt : f < n = grind (arith, nat_tests) in
        let at : get_or (functions ++ words ∷ []) f [] ≡ get_or functions f [] = get_or-append functions (words ∷ []) [] f (omega (arith, lt, a.many)) in
        subst (λ ws. AreCopied image f (slice_index (sizes_of image) f / 4) ws) (sym at) (a.each f lt)

-- ---- a layout of the image's sizes

-- the word with this number is one of the function's
pub word_there : (image : Image) (l : Layout) (f i size : ℕ) → l.sizes ≡ sizes_of image → size ≡ slice_index (sizes_of image) f → i < size / 4 → i < slice_index l.sizes f / 4
word_there image l f i size e es h =
    let same : slice_index l.sizes f ≡ slice_index (sizes_of image) f = ap (λ (xs : List ℕ). slice_index xs f) e in
    omega (arith, h, es, same)

pub pair_there : (l : Layout) (f i : ℕ) → f < length l.sizes → i < slice_index l.sizes f / 4 → IsPair l.sizes (pair f (4 * i))
pair_there l f i hf hi = record { func = hf; off = omega (arith, hi); whole = omega arith }

-- the template has the words of each function
pub template_many : (image : Image) (t : Template) (l : Layout) (f : ℕ) → IsTemplate image t → l.sizes ≡ sizes_of image → f < length l.sizes → length (slice_index_or t.functions f []) ≡ slice_index l.sizes f / 4
template_many image t l f is e hf =
    (is.each f (subst (λ (xs : List ℕ). f < length xs) e hf)).many ∙ ap (λ (xs : List ℕ). slice_index xs f / 4) (sym e)

pub template_word : (image : Image) (t : Template) (l : Layout) (f i : ℕ) → IsTemplate image t → l.sizes ≡ sizes_of image → f < length l.sizes → i < slice_index l.sizes f / 4 → IsCopied image (pair f (4 * i)) (slice_index_or (slice_index_or t.functions f []) i (Fixed 0))
template_word image t l f i is e hf hi =
    (is.each f (subst (λ (xs : List ℕ). f < length xs) e hf)).each i (subst (λ (xs : List ℕ). i < slice_index xs f / 4) e hi)

pub template_leads : (image : Image) (t : Template) (l : Layout) (f i : ℕ) → IsTemplate image t → l.sizes ≡ sizes_of image → f < length l.sizes → i < slice_index l.sizes f / 4 → Leads (length l.sizes) (slice_index_or (slice_index_or t.functions f []) i (Fixed 0))
template_leads image t l f i is e hf hi =
    subst (λ (xs : List ℕ). Leads (length xs) (slice_index_or (slice_index_or t.functions f []) i (Fixed 0))) (sym e) (template_word image t l f i is e hf hi).leads
