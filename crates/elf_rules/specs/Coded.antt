-- SPDX-License-Identifier: Apache-2.0
-- What is true of the functions and words of the image of a file that can be bound. This project's own.
use Rattle.std.specs.Prelude.{◌≡◌, ℕ, ◌+◌, ◌*◌, ◌%◌, ◌<◌, ◌≤◌, [], ◌∷◌, length, slice_index, slice_index_or}
use Rattle.sh_types.specs.declared.code.Image.{Image}
use Rattle.elf_rules.specs.Bindable.{sum_of}
use Rattle.sh_types.specs.Image.{sizes_of, starts_of, first_stack}
use Rattle.sh_types.specs.Limits.{image_end, most_code, most_functions}

pub record IsCoded (i : Image) : Type 0 where
  pub few : length i.functions ≤ most_functions
  pub code : sum_of (sizes_of i) ≤ most_code
  -- there is an entry, at a function's start
  pub entry : i.entry < length i.functions
  -- a function is not empty, has whole words and ends at image_end or below
  pub filled : (k : ℕ) → k < length i.functions → 0 < slice_index (sizes_of i) k
  pub whole : (k : ℕ) → slice_index (sizes_of i) k % 4 ≡ 0
  pub low : (k : ℕ) → k < length i.functions → slice_index (starts_of i.functions) k + slice_index (sizes_of i) k ≤ image_end
  -- functions rise and share no byte
  pub apart : (j k : ℕ) → j < k → k < length i.functions → slice_index (starts_of i.functions) j + slice_index (sizes_of i) j ≤ slice_index (starts_of i.functions) k
  -- each has its words
  pub many : length i.words ≡ length i.functions
  pub words : (k : ℕ) → k < length i.functions → 4 * length (slice_index_or i.words k []) ≡ slice_index (sizes_of i) k
  -- where there is one region, it is the first stack
  pub stack : length i.regions ≡ 1 → i.regions ≡ first_stack ∷ []
