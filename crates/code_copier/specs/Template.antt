-- SPDX-License-Identifier: Apache-2.0
-- What the words of an image are in every copy: all but direct calls and jumps are the same wherever the functions lie.
-- This project's own.
use Rattle.std.specs.Prelude.{◌≡◌, ℕ, ◌*◌, ◌/◌, ◌<◌, List, [], length, slice_index, slice_index_or}
use Rattle.sh_types.specs.declared.code.Image.{Image}
use Rattle.sh_types.specs.declared.code.Pair.{Pair}
use Rattle.sh_types.specs.declared.layouts.Layout.{Layout}
use Rattle.sh_types.specs.Image.{sizes_of}
use Rattle.sh_types.specs.Place.{pair, place_of}
use Rattle.sh_machines.specs.Copy.{jal_word, moved_word}
use Rattle.code_copier.specs.declared.template.Template.{Template}
use Rattle.code_copier.specs.declared.words.CopiedWord.{CopiedWord}
use Rattle.code_copier.specs.declared.words.CopiedWord.TheVariants.{Fixed, Jump}

-- the word that stands at a pair of a layout
abbrev pub word_by : Layout → Pair → CopiedWord → ℕ
word_by l p (Fixed w) = w
word_by l p (Jump rd g) = jal_word rd (place_of l p) (place_of l (pair g 0))

-- a jump can be written, and leads to one of n functions
abbrev pub Leads : ℕ → CopiedWord → Type 0
Leads n (Fixed w) = Unit {0}
Leads n (Jump rd g) = (rd < 32) × (g < n)

-- that is what the image's word at a pair is in every copy, and a jump leads to a function
pub record IsCopied (image : Image) (p : Pair) (w : CopiedWord) : Type 0 where
  pub leads : Leads (length (sizes_of image)) w
  pub word : (l : Layout) → word_by l p w ≡ moved_word image l p

-- the first n words of a function are these in every copy
pub record AreCopied (image : Image) (f n : ℕ) (words : List CopiedWord) : Type 0 where
  pub many : length words ≡ n
  pub each : (i : ℕ) → i < n → IsCopied image (pair f (4 * i)) (slice_index_or words i (Fixed 0))

-- and so are all words of the first n functions
pub record FunctionsAreCopied (image : Image) (n : ℕ) (functions : List (List CopiedWord)) : Type 0 where
  pub many : length functions ≡ n
  pub each : (f : ℕ) → f < n → AreCopied image f (slice_index (sizes_of image) f / 4) (slice_index_or functions f [])

-- and all words of the image's functions are those of the template
abbrev pub IsTemplate : Image → Template → Type 0
IsTemplate image t = FunctionsAreCopied image (length (sizes_of image)) t.functions
