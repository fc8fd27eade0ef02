-- SPDX-License-Identifier: Apache-2.0
-- What the code of an image has beside it: for each word the number that it has as a literal. This project's own.
use Rattle.std.specs.Prelude.{◌≡◌, ℕ, ◌*◌, ◌/◌, ◌<◌, List, [], length, slice_index, slice_index_or}
use Rattle.sh_machines.specs.Copy.{literal_number}
use Rattle.sh_types.specs.declared.code.Image.{Image}
use Rattle.sh_types.specs.Image.{sizes_of}
use Rattle.sh_types.specs.Sized.{IsSized}

-- each function has the words that its size says
abbrev pub IsWorded : Image → Type 0
IsWorded image = (f : ℕ) → 4 * length (slice_index_or image.words f []) ≡ slice_index (sizes_of image) f

-- the numbers that the first n words of a function have as literals
pub record AreNumbers (image : Image) (f n : ℕ) (numbers : List ℕ) : Type 0 where
  pub many : length numbers ≡ n
  pub each : (i : ℕ) → i < n → slice_index numbers i ≡ literal_number image f i

-- those of all words of the first n functions
pub record AreNumbered (image : Image) (n : ℕ) (numbers : List (List ℕ)) : Type 0 where
  pub many : length numbers ≡ n
  pub each : (f : ℕ) → f < n → AreNumbers image f (slice_index (sizes_of image) f / 4) (slice_index_or numbers f [])

-- an image whose words can be looked up, with its numbers
pub record IsNumbered (image : Image) (numbers : List (List ℕ)) : Type 0 where
  pub sized : IsSized (sizes_of image)
  pub worded : IsWorded image
  pub listed : AreNumbered image (length (sizes_of image)) numbers
