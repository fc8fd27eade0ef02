-- SPDX-License-Identifier: Apache-2.0
-- Literals: there are no more of them than words of code, and each stands under its number.
use Rattle.std.proofs.Common.{◌≡◌, ℕ, zero, suc, ◌+◌, ◌*◌, ◌/◌, ◌<◌, ◌≤◌, Bool, true, false, Some, List, [], ◌∷◌, ◌++◌, length, get_or, take, refl, sym, ap, ◌∙◌, subst, arith, length-append}
use Rattle.std.specs.Prelude.{slice_get, slice_index, if◌then◌else◌}
use Rattle.std.specs.Option.{option_map}
use Rattle.std.proofs.lemmas.Bool.{cond_both}
use Rattle.std.proofs.lemmas.List.{get_or-append-add}
use Rattle.std.proofs.lemmas.Option.{get_or_from_slice_get, slice_get-map}
use Rattle.sh_types.specs.declared.code.Function.{Function}
use Rattle.sh_types.specs.declared.code.Image.{Image}
use Rattle.sh_types.specs.declared.relocs.Reloc.{Reloc}
use Rattle.sh_types.specs.Image.{sizes_of, starts_of, word_at}
use Rattle.sh_types.specs.Place.{pair}
use Rattle.elf_rules.specs.Bindable.{IsBindable, sum_of}
use Rattle.elf_rules.specs.Relocs.{relocs_of}
use Rattle.image_rules.specs.Binding.{literal_of}
use Rattle.image_rules.specs.Bound.{bound_image}
use Rattle.image_rules.specs.Framed.{all_literals, framed_image, literals_from, with_frames, with_literals}
use Rattle.sh_machines.specs.Copy.{literal_at, literal_number, literals_below, literals_in}
use Rattle.bound_law.proofs.Coded.{bound_coded}
use Rattle.loaded_law.proofs.Frames.{found}

-- ---- how many there are

in_few : (i : Image) (f k : ℕ) → literals_in i f k ≤ k
unfolding literals_in
in_few i f zero = omega arith
in_few i f (suc k) =
    let rest = in_few i f k in
    cond_both (literal_at i f k) 1 0 (λ n. literals_in i f k + n ≤ suc k) (λ e. omega (arith, rest)) (λ e. omega (arith, rest))

-- the first of some sizes, and the next
sum_next : (sizes : List ℕ) (f : ℕ) → sum_of (take (suc f) sizes) ≡ sum_of (take f sizes) + slice_index sizes f
sum_next [] zero = refl
sum_next [] (suc f) = refl
sum_next (s ∷ ss) zero = omega arith
sum_next (s ∷ ss) (suc f) = let rest = sum_next ss f in omega (arith, rest)

sum_all : (sizes : List ℕ) → sum_of (take (length sizes) sizes) ≡ sum_of sizes
sum_all [] = refl
sum_all (s ∷ ss) = let rest = sum_all ss in omega (arith, rest)

below_few : (i : Image) (f : ℕ) → 4 * literals_below i f ≤ sum_of (take f (sizes_of i))
unfolding literals_below
below_few i zero = omega arith
below_few i (suc f) =
    let rest = below_few i f in
    let here = in_few i f (slice_index (sizes_of i) f / 4) in
    let sum = sum_next (sizes_of i) f in
    omega (arith, rest, here, sum)

-- no more than words of code
pub few_literals : (i : Image) → 4 * literals_below i (length (sizes_of i)) ≤ sum_of (sizes_of i)
few_literals i = let all = sum_all (sizes_of i) in let few = below_few i (length (sizes_of i)) in omega (arith, all, few)

-- ---- the literals of one function

module _ (i : Image) (f : ℕ) where
  -- those among so many words, from word k on
  abbrev ahead : (k count : ℕ) → ℕ
  ahead k zero = 0
  ahead k (suc n) = if literal_at i f k then suc (ahead (suc k) n) else ahead (suc k) n

  ahead_in : (k n : ℕ) → literals_in i f k + ahead k n ≡ literals_in i f (k + n)
  unfolding literals_in
  ahead_in k zero = let e : k + 0 ≡ k = omega arith in let same = ap (literals_in i f) e in omega (arith, same)
  ahead_in k (suc n) =
      let e : suc k + n ≡ k + suc n = omega arith in
      by (literal_at i f k) (ahead_in (suc k) n ∙ ap (literals_in i f) e)
    where
      by : (t : Bool) → literals_in i f k + (if t then 1 else 0) + ahead (suc k) n ≡ literals_in i f (k + suc n) → literals_in i f k + (if t then suc (ahead (suc k) n) else ahead (suc k) n) ≡ literals_in i f (k + suc n)
      by true e = omega (arith, e)
      by false e = omega (arith, e)

  ahead_all : (n : ℕ) → ahead 0 n ≡ literals_in i f n
  unfolding literals_in
  ahead_all n = let all = ahead_in 0 n in let e : 0 + n ≡ n = omega arith in let same = ap (literals_in i f) e in omega (arith, all, same)

  module _ (relocs : List Reloc) where
    length-from : (address k : ℕ) (ws : List ℕ) → length (literals_from i relocs f address k ws) ≡ ahead k (length ws)
    length-from address k [] = refl
    length-from address k (w ∷ ws) = by (literal_at i f k) (length-from (address + 4) (suc k) ws)
      where
        by : (t : Bool) → length (literals_from i relocs f (address + 4) (suc k) ws) ≡ ahead (suc k) (length ws) → length (if t then literal_of i.functions relocs address w ∷ literals_from i relocs f (address + 4) (suc k) ws else literals_from i relocs f (address + 4) (suc k) ws) ≡ (if t then suc (ahead (suc k) (length ws)) else ahead (suc k) (length ws))
        by true e = ap suc e
        by false e = e

    from_at : (address k m : ℕ) (ws rest : List ℕ) → m < length ws → literal_at i f (k + m) ≡ true → get_or (literals_from i relocs f address k ws ++ rest) (ahead k m) 0 ≡ literal_of i.functions relocs (address + 4 * m) (get_or ws m 0)
    from_at address k m [] rest l t = absurd (omega (arith, l))
    from_at address k zero (w ∷ ws) rest l t =
        let e : k + 0 ≡ k = omega arith in
        let here : literal_at i f k ≡ true = subst (λ n. literal_at i f n ≡ true) e t in
        let a : address ≡ address + 4 * 0 = omega arith in
        ap (λ t. get_or ((if t then literal_of i.functions relocs address w ∷ literals_from i relocs f (address + 4) (suc k) ws else literals_from i relocs f (address + 4) (suc k) ws) ++ rest) 0 0) here
        ∙ ap (λ a. literal_of i.functions relocs a w) a
    from_at address k (suc m) (w ∷ ws) rest l t =
        let e : k + suc m ≡ suc k + m = omega arith in
        let a : address + 4 + 4 * m ≡ address + 4 * suc m = omega arith in
        by (literal_at i f k) (from_at (address + 4) (suc k) m ws rest (omega (arith, l)) (subst (λ n. literal_at i f n ≡ true) e t))
        ∙ ap (λ a. literal_of i.functions relocs a (get_or ws m 0)) a
      where
        value : ℕ
        value = literal_of i.functions relocs (address + 4 + 4 * m) (get_or ws m 0)

        by : (t : Bool) → get_or (literals_from i relocs f (address + 4) (suc k) ws ++ rest) (ahead (suc k) m) 0 ≡ value → get_or ((if t then literal_of i.functions relocs address w ∷ literals_from i relocs f (address + 4) (suc k) ws else literals_from i relocs f (address + 4) (suc k) ws) ++ rest) (if t then suc (ahead (suc k) m) else ahead (suc k) m) 0 ≡ value
        by true e = e
        by false e = e

-- ---- those of all functions

module _ (i : Image) (relocs : List Reloc) where
  abbrev words_in : ℕ → List ℕ
  words_in f = get_or i.words f []

  -- those of so many functions, from function j on
  abbrev before : (j count : ℕ) → ℕ
  before j zero = 0
  before j (suc m) = ahead i j 0 (length (words_in j)) + before (suc j) m

  length-all : (j : ℕ) (gs : List Function) → length (all_literals i relocs j gs) ≡ before j (length gs)
  length-all j [] = refl
  length-all j (g ∷ gs) =
      let rest = length-all (suc j) gs in
      let here = length-from i j relocs g.home 0 (words_in j) in
      omega (arith, rest, here, length-append (literals_from i relocs j g.home 0 (words_in j)) (all_literals i relocs (suc j) gs))

  -- the value under a number
  abbrev IsSaid : (j : ℕ) → List Function → (m f k : ℕ) → Function → Type 0
  IsSaid j gs m f k g = get_or (all_literals i relocs j gs) (before j m + ahead i f 0 k) 0 ≡ literal_of i.functions relocs (g.home + 4 * k) (get_or (words_in f) k 0)

  first_said : (j k : ℕ) (g : Function) (gs : List Function) → k < length (words_in j) → literal_at i j k ≡ true → IsSaid j (g ∷ gs) 0 j k g
  first_said j k g gs l t =
      let e : k ≡ 0 + k = omega arith in
      let n : 0 + ahead i j 0 k ≡ ahead i j 0 k = omega arith in
      ap (λ n. get_or (all_literals i relocs j (g ∷ gs)) n 0) n
      ∙ from_at i j relocs g.home 0 k (words_in j) (all_literals i relocs (suc j) gs) l (subst (λ n. literal_at i j n ≡ true) e t)

  all_said : (j : ℕ) (gs : List Function) (m f k : ℕ) (g : Function) → f ≡ j + m → slice_get gs m ≡ Some g → k < length (words_in f) → literal_at i f k ≡ true → IsSaid j gs m f k g
  all_said j [] m f k g e there l t = absurd (cc)
  all_said j (h ∷ gs) zero f k g e there l t =
      let q : j ≡ f = omega (arith, e) in
      let r : h ≡ g = cc in
      subst (λ g. IsSaid j (h ∷ gs) 0 f k g) r (subst (λ f. k < length (words_in f) → literal_at i f k ≡ true → IsSaid j (h ∷ gs) 0 f k h) q (first_said j k h gs) l t)
  all_said j (h ∷ gs) (suc m) f k g e there l t =
      let here = length-from i j relocs h.home 0 (words_in j) in
      let n : before j (suc m) + ahead i f 0 k ≡ length (literals_from i relocs j h.home 0 (words_in j)) + (before (suc j) m + ahead i f 0 k) = omega (arith, here) in
      ap (λ n. get_or (all_literals i relocs j (h ∷ gs)) n 0) n
      ∙ get_or-append-add (literals_from i relocs j h.home 0 (words_in j)) (all_literals i relocs (suc j) gs) (before (suc j) m + ahead i f 0 k) 0
      ∙ all_said (suc j) gs m f k g (omega (arith, e)) there l t

  -- where each function has its words
  module _ (words : (f : ℕ) → f < length i.functions → slice_index (sizes_of i) f / 4 ≡ length (words_in f)) where
    before_below : (j m : ℕ) → j + m ≤ length i.functions → literals_below i j + before j m ≡ literals_below i (j + m)
    unfolding literals_below
    before_below j zero l = let e : j + 0 ≡ j = omega arith in let same = ap (literals_below i) e in omega (arith, same)
    before_below j (suc m) l =
        let rest = before_below (suc j) m (omega (arith, l)) in
        let here = ap (literals_in i j) (words j (omega (arith, l))) in
        let all = ahead_all i j (length (words_in j)) in
        let e : suc j + m ≡ j + suc m = omega arith in
        let same = ap (literals_below i) e in
        omega (arith, rest, here, all, same)

    before_all : (f : ℕ) → f ≤ length i.functions → before 0 f ≡ literals_below i f
    unfolding literals_below
    before_all f l =
        let below = before_below 0 f (omega (arith, l)) in
        let e : 0 + f ≡ f = omega arith in
        let same = ap (literals_below i) e in
        omega (arith, below, same)

    number_is : (f k : ℕ) → f ≤ length i.functions → before 0 f + ahead i f 0 k ≡ literal_number i f k
    number_is f k l = let below = before_all f l in let all = ahead_all i f k in omega (arith, below, all)

    pub said_at : (f k : ℕ) (g : Function) → slice_get i.functions f ≡ Some g → f < length i.functions → k < length (words_in f) → literal_at i f k ≡ true → get_or (all_literals i relocs 0 i.functions) (literal_number i f k) 0 ≡ literal_of i.functions relocs (g.home + 4 * k) (get_or (words_in f) k 0)
    said_at f k g there l m t =
        ap (λ n. get_or (all_literals i relocs 0 i.functions) n 0) (sym (number_is f k (omega (arith, l)))) ∙ all_said 0 i.functions f f k g (omega arith) there m t

    pub many_all : length (all_literals i relocs 0 i.functions) ≡ literals_below i (length i.functions)
    many_all = length-all 0 i.functions ∙ before_all (length i.functions) (omega arith)

-- ---- the framed image

-- an image's literals have no part in their numbers
same_number : (i : Image) (relocs : List Reloc) (f k : ℕ) → literal_number (with_literals relocs i) f k ≡ literal_number i f k
unfolding with_literals literals_below literals_in sizes_of
same_number i relocs f k = refl

same_count : (i : Image) (relocs : List Reloc) (f : ℕ) → literals_below (with_literals relocs i) f ≡ literals_below i f
unfolding with_literals literals_below literals_in sizes_of
same_count i relocs f = refl

module _ (b : List ℕ) (accepts : IsBindable b) where
  words_of : (f : ℕ) → f < length (bound_image b).functions → slice_index (sizes_of (with_frames (bound_image b))) f / 4 ≡ length (get_or (bound_image b).words f [])
  unfolding with_frames sizes_of
  words_of f l = fourth _ _ ((bound_coded b accepts).words f l)
    where
      fourth : (n size : ℕ) → 4 * n ≡ size → size / 4 ≡ n
      fourth n size e = omega (arith, e)

  pub framed_many : length (framed_image b).literals ≡ literals_below (framed_image b) (length (framed_image b).functions)
  unfolding framed_image with_frames with_literals
  framed_many =
      let i : Image = with_frames (bound_image b) in
      many_all i (relocs_of b) words_of ∙ sym (same_count i (relocs_of b) (length i.functions))

  pub framed_said : (f k : ℕ) → f < length (framed_image b).functions → k < length (get_or (framed_image b).words f []) → literal_at (framed_image b) f k ≡ true → slice_index (framed_image b).literals (literal_number (framed_image b) f k) ≡ literal_of (framed_image b).functions (relocs_of b) (slice_index (starts_of (framed_image b).functions) f + 4 * k) (word_at (framed_image b) (pair f (4 * k)))
  unfolding framed_image with_frames with_literals
  framed_said f k l m t =
      let i : Image = with_frames (bound_image b) in
      let there = found (bound_image b).functions f l in
      let home : slice_index (starts_of (bound_image b).functions) f ≡ there.value.home = get_or_from_slice_get (starts_of (bound_image b).functions) f there.value.home 0 (slice_get-map (λ (g : Function). g.home) (bound_image b).functions f ∙ ap (option_map (λ (g : Function). g.home)) there.there) in
      let at : there.value.home + 4 * k ≡ slice_index (starts_of (bound_image b).functions) f + 4 * k = omega (arith, home) in
      let word : k ≡ 4 * k / 4 = omega arith in
      ap (λ n. slice_index (all_literals i (relocs_of b) 0 i.functions) n) (same_number i (relocs_of b) f k)
      ∙ said_at i (relocs_of b) words_of f k there.value there.there l m t
      ∙ ap (λ a. literal_of (bound_image b).functions (relocs_of b) a (slice_index (get_or (bound_image b).words f []) k)) at
      ∙ ap (λ n. literal_of (bound_image b).functions (relocs_of b) (slice_index (starts_of (bound_image b).functions) f + 4 * k) (slice_index (get_or (bound_image b).words f []) n)) word
