-- SPDX-License-Identifier: Apache-2.0
-- The places of words, one more at the front; and how many there are.
use Rattle.std.proofs.Common.{◌≡◌, ℕ, zero, suc, ◌^◌, length, refl, ◌+◌, ◌-◌, ◌<◌, ◌≤◌, ◌∷◌, ◌*◌, mul-suc, ap, sym, ◌∙◌, ◌++◌, List, [], append_assoc, arith}
use Rattle.std.specs.Prelude.{◌/◌, map}
use Rattle.std.proofs.lemmas.List.{length-map}
use Rattle.sh_types.specs.declared.code.Function.{Function}
use Rattle.elf_rules.specs.declared.elf.Head.{Head}
use Rattle.elf_rules.specs.Bindable.{file_place, function_words}
use Rattle.elf_rules.specs.Elf.{number_at, places}
use Rattle.image_binding.specs.Binds.{EndsInImage}

places_next : (step place count i : ℕ) → i < count → places step place (count - i) ≡ place ∷ places step (place + step) (count - (i + 1))
places_next step place count i h =
    let e : count - i ≡ suc (count - (i + 1)) = omega arith in
    ap (places step place) e

pub fits_more : (place step count i n : ℕ) → i < count → place + step * (count - i) ≤ n → place + step + step * (count - (i + 1)) ≤ n
fits_more place step count i n h le =
    let e : count - i ≡ suc (count - (i + 1)) = omega arith in
    let f : step * (count - i) ≡ step * (count - (i + 1)) + step = ap (λ m. step * m) e ∙ mul-suc step (count - (i + 1)) in
    omega (arith, f, le)

-- one entry goes from what is left to what was read
pub read_more : {X : Type 0} (f : ℕ → X) (found : List X) (step place count i : ℕ) (all : List X) → i < count → found ++ map f (places step place (count - i)) ≡ all → (found ++ f place ∷ []) ++ map f (places step (place + step) (count - (i + 1))) ≡ all
read_more f found step place count i all h e =
    append_assoc found (f place ∷ []) _ ∙ ap (λ ps. found ++ map f ps) (sym (places_next step place count i h)) ∙ e

pub length-places : (step place n : ℕ) → length (places step place n) ≡ n
length-places step place zero = refl
length-places step place (suc n) = grind (arith, length-places step (place + step) n)

many_words : (b : List ℕ) (codes : List Head) (f : Function) → length (function_words b codes f) ≡ f.size / 4
unfolding function_words
many_words b codes f = length-map (places 4 (file_place codes f.home) (f.size / 4)) (number_at 4 b) ∙ length-places 4 (file_place codes f.home) (f.size / 4)

pub low_words : (b : List ℕ) (codes : List Head) (f : Function) (words : List ℕ) → words ≡ function_words b codes f → EndsInImage f → f.home + 4 * length words < 2 ^ 64
low_words b codes f words e low =
    let many : length words ≡ f.size / 4 = ap length e ∙ many_words b codes f in
    omega (arith, many, low)
