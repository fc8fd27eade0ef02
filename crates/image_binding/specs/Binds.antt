-- SPDX-License-Identifier: Apache-2.0
-- What binds an image: functions, records and labels, with an index of both; and tokens that are put into bytes. This
-- project's own.
use Rattle.std.specs.Prelude.{◌≡◌, ◌+◌, ◌*◌, ◌<◌, ◌≤◌, ◌^◌, ℕ, List, [], find, length, slice_index, slice_index_or}
use Rattle.std.specs.List.Sorted.{IsNonDecreasingBy}
use Rattle.sh_types.specs.declared.code.Function.{Function}
use Rattle.sh_types.specs.declared.code.Image.{Image}
use Rattle.sh_types.specs.declared.code.Pair.{Pair}
use Rattle.sh_types.specs.declared.code.Region.{Region}
use Rattle.sh_types.specs.declared.code.Site.{Site}
use Rattle.sh_types.specs.Limits.{image_end, most_code, most_functions}
use Rattle.elf_rules.specs.Bindable.{code_by, file_functions}
use Rattle.elf_rules.specs.Relocs.{relocs_of}
use Rattle.fn_lookup.specs.Apart.{AreApart, home_in, size_in}
use Rattle.fn_sites.specs.Index.{Tells}
use Rattle.image_rules.specs.declared.tokens.Token.{Token}
use Rattle.image_rules.specs.Binding.{label_home, labels_of}
use Rattle.image_rules.specs.Bound.{bound_image, byte_by, takes_byte}
use Rattle.sh_machines.specs.Class.{Source}
use Rattle.image_binding.specs.declared.binding.Binding.{Binding}
use Rattle.image_binding.specs.declared.bound.BoundFile.{BoundFile}

-- the functions rise and share no byte, the labels are those of the records, by rising addresses, and the index is that of
-- the records and labels
pub record IsBinding (b : Binding) : Type 0 where
  pub apart : AreApart b.functions
  pub labels : b.labels ≡ labels_of b.functions b.relocs
  pub few : length b.labels < 2 ^ 32
  pub rise : IsNonDecreasingBy (label_home b.functions) b.labels
  pub tells : Tells b.index b.relocs b.labels

-- the functions with these words and this entry, by their numbers, as their classes go by them
abbrev pub source : Binding → List (List ℕ) → (entry func : ℕ) → Source
source b words entry f =
    record { func = f; functions = b.functions; words = slice_index_or words f []; relocs = b.relocs; labels = b.labels; entry = entry }

-- the function ends at image_end or below
abbrev pub EndsInImage : Function → Type 0
EndsInImage f = f.home + f.size ≤ image_end

-- each function has its words
abbrev pub HaveWords : List Function → List (List ℕ) → Type 0
HaveWords functions words = (k : ℕ) → k < length functions → size_in functions k ≡ 4 * length (slice_index_or words k [])

-- each function ends below 2 ^ 64
abbrev pub AreLow : List Function → Type 0
AreLow functions = (k : ℕ) → k < length functions → home_in functions k + size_in functions k < 2 ^ 64

-- a token takes eight bytes at most
abbrev pub IsNarrow : Token → Type 0
IsNarrow t = t.width ≤ 8

-- what stands for a token where there is none
abbrev pub no_token : Token
no_token = record { place = 0; width = 0; value = 0 }

-- some bytes from an address on, and what they are with the bytes of tokens
pub record IsLaid (tokens : List Token) (from : ℕ) (old new : List ℕ) : Type 0 where
  pub many : length new ≡ length old
  pub each : (k : ℕ) → k < length old → slice_index new k ≡ byte_by (from + k) (find (takes_byte (from + k)) tokens) (slice_index old k)

-- what binds the image of a file
pub record IsBindingOf (bytes : List ℕ) (b : Binding) : Type 0 where
  pub functions : b.functions ≡ file_functions bytes
  pub relocs : b.relocs ≡ relocs_of bytes
  pub binds : IsBinding b

-- functions are few, not large, not empty, and rise without a byte in common
pub record AreCoded (functions : List Function) : Type 0 where
  pub few : length functions ≤ most_functions
  pub code : code_by functions ≤ most_code
  pub filled : (k : ℕ) → k < length functions → 0 < size_in functions k
  pub low : (k : ℕ) → k < length functions → home_in functions k + size_in functions k ≤ image_end
  pub apart : (j k : ℕ) → j < k → k < length functions → home_in functions j + size_in functions j ≤ home_in functions k

-- the image with these parts, of which no frame and no literal is known
abbrev pub made_of : List Function → (entry : ℕ) → List (List ℕ) → List (List Site) → (rows : List ℕ) → List Pair → List Region → Image
made_of functions entry words sites rows labels regions =
    record { functions = functions; entry = entry; words = words; sites = sites; frames = []; literals = []; rows = rows; labels = labels; regions = regions }

-- these are the bound image of a file, its relocation records, and an index of these and of the image's labels
pub record IsBoundFile (bytes : List ℕ) (file : BoundFile) : Type 0 where
  pub image : file.image ≡ bound_image bytes
  pub relocs : file.relocs ≡ relocs_of bytes
  pub index : Tells file.index (relocs_of bytes) (bound_image bytes).labels
