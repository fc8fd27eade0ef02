-- SPDX-License-Identifier: Apache-2.0
-- What follows a word of a bound image lies in its function or right behind it, so that the walk of each function answers
-- rightly.
use Rattle.std.proofs.Common.{◌≡◌, ℕ, suc, ◌+◌, ◌*◌, ◌/◌, ◌<◌, ◌≤◌, true, Some, List, [], ◌∷◌, length, refl, sym, ap, ◌∙◌, subst, arith}
use Rattle.std.specs.Prelude.{◌==◌, nat_lt, slice_get, slice_index, slice_index_or}
use Rattle.std.specs.List.{AllByRecursion}
use Rattle.std.proofs.lemmas.Bool.{cond_both}
use Rattle.std.proofs.lemmas.Bool.Decides.{nat_tests}
use Rattle.sh_types.specs.declared.code.Pair.{Pair}
use Rattle.sh_types.specs.declared.code.Site.{Site}
use Rattle.sh_types.specs.declared.code.Site.TheVariants.{Plain, Literal, InnerJump, InnerBranch, DirectCall, DirectTail, IndirectCall, IndirectTail, ReturnLike, Environment, Stop}
use Rattle.sh_types.specs.declared.code.Site.TheVariants as site
use Rattle.sh_types.specs.Image.{sizes_of}
use Rattle.elf_rules.specs.Bindable.{IsBindable, file_functions, loaded_image}
use Rattle.elf_rules.specs.Relocs.{relocs_of}
use Rattle.image_rules.specs.Bound.{bound_image, bound_parts, with_sites}
use Rattle.sh_machines.specs.Class.{Source, class_at, size_of, source_of}
use Rattle.sh_machines.specs.Grammar.{IsRight, StaysInside, answer_of, body_of, own_labels, points_behind, rising}
use Rattle.sh_machines.specs.Tokens.{AreInOrder}
use Rattle.bound_law.specs.Targets.{IsTarget}
use Rattle.bound_law.proofs.Coded.{bound_coded}
use Rattle.bound_law.proofs.Sited.{site_is}
use Rattle.bound_law.proofs.Targets.{class_target}
use Rattle.ptr_table.proofs.Order.{in_order}
use Rattle.sh_law.proofs.Answering.{is_right}

-- ---- points of a function of n words

abbrev pub AllLow : ℕ → List ℕ → Type 0
AllLow n ps = AllByRecursion (λ p. p ≤ n) ps

rising_low : (n a b : ℕ) → a ≤ n → b ≤ n → AllLow n (rising a b)
rising_low n a b l m = cond_both (nat_lt b a) (b ∷ a ∷ []) (a ∷ b ∷ []) (AllLow n) (λ e. (m, (l, tt))) (λ e. (l, (m, tt)))

points_low : (b : Source) (n k : ℕ) (labels : List ℕ) (s : Site) → size_of b ≡ 4 * n → k < n → AllLow n labels → IsTarget b s → AllLow n (points_behind labels s k)
points_low b n k labels Plain size l low t = (omega (arith, l), tt)
points_low b n k labels Literal size l low t = (omega (arith, l), tt)
points_low b n k labels (InnerJump to) size l low t = (omega (arith, size, t.0), tt)
points_low b n k labels (InnerBranch to) size l low t = rising_low n (to / 4) (k + 1) (omega (arith, size, t.0)) (omega (arith, l))
points_low b n k labels (DirectCall g) size l low t = (omega (arith, l), tt)
points_low b n k labels (DirectTail g) size l low t = tt
points_low b n k labels IndirectCall size l low t = (omega (arith, l), tt)
points_low b n k labels IndirectTail size l low t = low
points_low b n k labels ReturnLike size l low t = tt
points_low b n k labels Environment size l low t = (omega (arith, l), tt)
points_low b n k labels Stop size l low t = tt
points_low b n k labels (site.Bad rule) size l low t = tt

labels_low : (n f : ℕ) (qs : List Pair) → ((j : ℕ) (q : Pair) → slice_get qs j ≡ Some q → q.func ≡ f → q.off < 4 * n) → AllLow n (own_labels f qs)
labels_low n f [] h = tt
labels_low n f (q ∷ qs) h =
    let rest = labels_low n f qs (λ j. h (suc j)) in
    cond_both (q.func == f) (q.off / 4 ∷ own_labels f qs) (own_labels f qs) (AllLow n) (λ e. (low q.off (h 0 q refl (same e)), rest)) (λ e. rest)
  where
    same : (q.func == f) ≡ true → q.func ≡ f
    same e = grind (arith, nat_tests, e)

    low : (o : ℕ) → o < 4 * n → o / 4 ≤ n
    low o l = omega (arith, l)

-- ---- the functions of a bound image

-- rows rise, and labels lie inside their functions
pub bound_in_order : (b : List ℕ) → AreInOrder (sizes_of (bound_image b)) (bound_image b).rows (bound_image b).labels
unfolding bound_image with_sites bound_parts loaded_image sizes_of
bound_in_order b = in_order (file_functions b) (relocs_of b)

size_is : (b : List ℕ) (f : ℕ) → size_of (source_of (bound_image b) (relocs_of b) f) ≡ slice_index (sizes_of (bound_image b)) f
unfolding sizes_of
size_is b f = refl

module _ (b : List ℕ) (accepts : IsBindable b) (f : ℕ) (l : f < length (bound_image b).functions) where
  abbrev words : List ℕ
  words = slice_index_or (bound_image b).words f []

  abbrev labels : List ℕ
  labels = own_labels f (bound_image b).labels

  size : slice_index (sizes_of (bound_image b)) f ≡ 4 * length words
  size = sym ((bound_coded b accepts).words f l)

  label_low : (j : ℕ) (q : Pair) → slice_get (bound_image b).labels j ≡ Some q → q.func ≡ f → q.off < 4 * length words
  label_low j q e same =
      let inside = ((bound_in_order b).inside j q e).1 in
      let here : slice_index (sizes_of (bound_image b)) q.func ≡ slice_index (sizes_of (bound_image b)) f = ap (λ n. slice_index (sizes_of (bound_image b)) n) same in
      omega (arith, inside, here, size)

  pub stays : StaysInside (body_of (bound_image b) f)
  stays k m =
      let source = source_of (bound_image b) (relocs_of b) f in
      subst (λ s. AllLow (length words) (points_behind labels s k)) (sym (site_is b f k l m))
      (points_low source (length words) k labels (class_at source k) (size_is b f ∙ size) m (labels_low (length words) f (bound_image b).labels label_low) (class_target source k))

  -- the walk's answer is right
  pub answers_right : IsRight (body_of (bound_image b) f) (answer_of (body_of (bound_image b) f))
  answers_right = is_right (body_of (bound_image b) f) stays
