-- SPDX-License-Identifier: Apache-2.0
-- The numbers of functions, one more at a time.
use Rattle.std.proofs.Common.{◌≡◌, ℕ, zero, suc, ◌+◌, ◌*◌, ◌/◌, ◌%◌, ◌<◌, Bool, true, false, Option, Some, None, List, [], ◌∷◌, ◌++◌, length, drop, refl, sym, ap, ◌∙◌, arith, add-one, append_assoc}
use Rattle.std.specs.Prelude.{◌==◌, slice_index_or, if◌then◌else◌}
use Rattle.std.proofs.lemmas.Bool.{cond-true, cond-false, eq-eqb}
use Rattle.sh_types.specs.declared.code.FrameState.{FrameState}
use Rattle.sh_types.specs.declared.code.FrameTable.{FrameTable}
use Rattle.sh_types.specs.declared.code.Function.{Function}
use Rattle.sh_types.specs.declared.code.Image.{Image}
use Rattle.sh_types.specs.declared.code.Site.{Site}
use Rattle.sh_types.specs.declared.code.Site.TheVariants.{Plain}
use Rattle.sh_types.specs.declared.relocs.Reloc.{Reloc}
use Rattle.sh_types.specs.Image.{no_rows, row_at, row_in, site_at}
use Rattle.sh_types.specs.Place.{pair}
use Rattle.fn_lookup.specs.Apart.{home_in}
use Rattle.fn_lookup.proofs.Holding.{home_is}
use Rattle.image_binding.specs.declared.bound.BoundFile.{BoundFile}
use Rattle.image_rules.specs.Binding.{literal_of}
use Rattle.image_rules.specs.Framed.{all_literals, literals_from}
use Rattle.sh_machines.specs.Copy.{is_literal, literal_at}
use Rattle.guest_image.specs.Records.{no_function}
use Rattle.guest_image.specs.Literals.{framed, literals_by, literals_in}

-- ---- the words of a function

split_words : (k : ℕ) (ws : List ℕ) → k < length ws → drop k ws ≡ slice_index_or ws k 0 ∷ drop (suc k) ws
split_words k [] l = absurd (omega (arith, l))
split_words zero (w ∷ ws) l = refl
split_words (suc k) (w ∷ ws) l = split_words k ws (omega (arith, l))

module _ (functions : List Function) (relocs : List Reloc) (sites : List Site) (rows : List (Option FrameState)) where
  taken : (address k w : ℕ) (ws : List ℕ) → is_literal (slice_index_or sites k Plain) (slice_index_or rows k None) ≡ true → literals_by functions relocs sites rows address k (w ∷ ws) ≡ literal_of functions relocs address w ∷ literals_by functions relocs sites rows (address + 4) (suc k) ws
  taken address k w ws e = cond-true (is_literal (slice_index_or sites k Plain) (slice_index_or rows k None)) _ _ e

  skipped : (address k w : ℕ) (ws : List ℕ) → is_literal (slice_index_or sites k Plain) (slice_index_or rows k None) ≡ false → literals_by functions relocs sites rows address k (w ∷ ws) ≡ literals_by functions relocs sites rows (address + 4) (suc k) ws
  skipped address k w ws e = cond-false (is_literal (slice_index_or sites k Plain) (slice_index_or rows k None)) _ _ e

  next : (address k : ℕ) (ws : List ℕ) → literals_by functions relocs sites rows (address + 4) (suc k) (drop (suc k) ws) ≡ literals_by functions relocs sites rows (address + 4) (k + 1) (drop (k + 1) ws)
  next address k ws = ap (λ j. literals_by functions relocs sites rows (address + 4) j (drop j ws)) (sym (add-one k))

  pub word_taken : (address k w : ℕ) (ws found all : List ℕ) → k < length ws → w ≡ slice_index_or ws k 0 → is_literal (slice_index_or sites k Plain) (slice_index_or rows k None) ≡ true → found ++ literals_by functions relocs sites rows address k (drop k ws) ≡ all → (found ++ literal_of functions relocs address w ∷ []) ++ literals_by functions relocs sites rows (address + 4) (k + 1) (drop (k + 1) ws) ≡ all
  word_taken address k w ws found all l is e h =
      append_assoc found (literal_of functions relocs address w ∷ []) _
      ∙ ap (λ ns. found ++ literal_of functions relocs address w ∷ ns) (sym (next address k ws))
      ∙ ap (λ ns. found ++ ns) (sym (taken address k w (drop (suc k) ws) e))
      ∙ ap (λ v. found ++ literals_by functions relocs sites rows address k (v ∷ drop (suc k) ws)) is
      ∙ ap (λ vs. found ++ literals_by functions relocs sites rows address k vs) (sym (split_words k ws l)) ∙ h

  pub word_skipped : (address k : ℕ) (ws found all : List ℕ) → k < length ws → is_literal (slice_index_or sites k Plain) (slice_index_or rows k None) ≡ false → found ++ literals_by functions relocs sites rows address k (drop k ws) ≡ all → found ++ literals_by functions relocs sites rows (address + 4) (k + 1) (drop (k + 1) ws) ≡ all
  word_skipped address k ws found all l e h =
      ap (λ ns. found ++ ns) (sym (next address k ws) ∙ sym (skipped address k (slice_index_or ws k 0) (drop (suc k) ws) e))
      ∙ ap (λ vs. found ++ literals_by functions relocs sites rows address k vs) (sym (split_words k ws l)) ∙ h

-- ---- functions

module _ (i : Image) (relocs : List Reloc) where
  whole : (k : ℕ) → (4 * k % 4 == 0) ≡ true
  whole k = eq-eqb (4 * k % 4) 0 (omega arith)

  row_is : (f k : ℕ) → row_at i (pair f (4 * k)) ≡ slice_index_or (slice_index_or i.frames f no_rows).rows k None
  unfolding row_in
  row_is f k =
      let quarter : 4 * k / 4 ≡ k = omega arith in
      cond-true (4 * k % 4 == 0) _ None (whole k) ∙ ap (λ (j : ℕ). slice_index_or (slice_index_or i.frames f no_rows).rows j None) quarter

  site_is : (f k : ℕ) → site_at i (pair f (4 * k)) ≡ slice_index_or (slice_index_or i.sites f []) k Plain
  site_is f k = let quarter : 4 * k / 4 ≡ k = omega arith in ap (λ (j : ℕ). slice_index_or (slice_index_or i.sites f []) j Plain) quarter

  literal_is : (f k : ℕ) → is_literal (slice_index_or (slice_index_or i.sites f []) k Plain) (slice_index_or (slice_index_or i.frames f no_rows).rows k None) ≡ literal_at i f k
  literal_is f k = sym (ap (λ s. is_literal s (row_at i (pair f (4 * k)))) (site_is f k) ∙ ap (is_literal (slice_index_or (slice_index_or i.sites f []) k Plain)) (row_is f k))

  words_are : (f address k : ℕ) (ws : List ℕ) → literals_by i.functions relocs (slice_index_or i.sites f []) (slice_index_or i.frames f no_rows).rows address k ws ≡ literals_from i relocs f address k ws
  words_are f address k [] = refl
  words_are f address k (w ∷ ws) =
      ap (λ b. if b then literal_of i.functions relocs address w ∷ literals_by i.functions relocs (slice_index_or i.sites f []) (slice_index_or i.frames f no_rows).rows (address + 4) (suc k) ws else literals_by i.functions relocs (slice_index_or i.sites f []) (slice_index_or i.frames f no_rows).rows (address + 4) (suc k) ws) (literal_is f k)
      ∙ ap (λ ns. if literal_at i f k then literal_of i.functions relocs address w ∷ ns else ns) (words_are f (address + 4) (suc k) ws)

  split_functions : (j f : ℕ) (gs : List Function) → f < length gs → all_literals i relocs j (drop f gs) ≡ literals_from i relocs j (home_in gs f) 0 (slice_index_or i.words j []) ++ all_literals i relocs (suc j) (drop (suc f) gs)
  split_functions j f [] l = absurd (omega (arith, l))
  split_functions j zero (g ∷ gs) l = refl
  split_functions j (suc f) (g ∷ gs) l = split_functions j f gs (omega (arith, l))

-- the numbers of one function more
pub function_more : (b : BoundFile) (frames : List FrameTable) (f : ℕ) (found all : List ℕ) → f < length b.image.functions → found ++ all_literals (framed b.image frames) b.relocs f (drop f b.image.functions) ≡ all → (found ++ literals_in b frames f) ++ all_literals (framed b.image frames) b.relocs (f + 1) (drop (f + 1) b.image.functions) ≡ all
function_more b frames f found all l h =
    let i = framed b.image frames in
    append_assoc found (literals_in b frames f) _
    ∙ ap (λ ns. found ++ (ns ++ all_literals i b.relocs (f + 1) (drop (f + 1) b.image.functions))) (words_are i b.relocs f (home_in b.image.functions f) 0 (slice_index_or b.image.words f []))
    ∙ ap (λ k. found ++ (literals_from i b.relocs f (home_in b.image.functions f) 0 (slice_index_or b.image.words f []) ++ all_literals i b.relocs k (drop k b.image.functions))) (add-one f)
    ∙ ap (λ ns. found ++ ns) (sym (split_functions i b.relocs f f b.image.functions l)) ∙ h
