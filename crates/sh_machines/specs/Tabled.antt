-- SPDX-License-Identifier: Apache-2.0
-- What loading finds of an image's words: each function has its words and the rows of its frame, which are the least that
-- the grammar allows, and the classes name fitting targets. This project's own.
use Rattle.std.specs.Prelude.{◌≡◌, ◌≢◌, ◌⊎◌, ℕ, ◌+◌, ◌*◌, ◌%◌, ◌<◌, ◌≤◌, Some, List, [], length, slice_get, slice_index, slice_index_or}
use Rattle.sh_types.specs.declared.code.Image.{Image}
use Rattle.sh_types.specs.declared.code.Pair.{Pair}
use Rattle.sh_types.specs.declared.code.Region.{Region}
use Rattle.sh_types.specs.declared.code.Site.TheVariants.{Plain, InnerJump, InnerBranch, DirectCall, DirectTail}
use Rattle.sh_types.specs.declared.relocs.Reloc.{Reloc}
use Rattle.sh_machines.specs.Class.{class_at, source_of}
use Rattle.sh_machines.specs.Copy.{literals_below}
use Rattle.sh_machines.specs.Grammar.{IsLeastTable, body_of}
use Rattle.sh_types.specs.Image.{sizes_of, starts_of, site_at, no_rows}
use Rattle.sh_types.specs.Limits.{first_cell, image_end, most_literals}
use Rattle.sh_machines.specs.Tokens.{AreInOrder}

-- each function is in the grammar, with the rows of its table
pub record IsTabled (image : Image) : Type 0 where
  pub words : (f : ℕ) → f < length (sizes_of image) → 4 * length (slice_index_or image.words f []) ≡ slice_index (sizes_of image) f
  -- a row for each word, and one for the offset behind the last
  pub rows : (f : ℕ) → f < length (sizes_of image) → length (slice_index_or image.frames f no_rows).rows ≡ length (slice_index_or image.words f []) + 1
  pub none : (f : ℕ) → length (sizes_of image) ≤ f → (slice_index_or image.frames f no_rows).rows ≡ []
  pub least : (f : ℕ) → f < length (sizes_of image) → IsLeastTable (body_of image f) (slice_index_or image.frames f no_rows).rows

-- jumps lead to words, and a call or a tail to the entry function comes from that function's own tail alone
pub record IsClassed (image : Image) : Type 0 where
  pub jumps : (p : Pair) (to : ℕ) → site_at image p ≡ InnerJump to → to % 4 ≡ 0
  pub branches : (p : Pair) (to : ℕ) → site_at image p ≡ InnerBranch to → to % 4 ≡ 0
  pub calls : (p : Pair) (g : ℕ) → site_at image p ≡ DirectCall g → g ≢ image.entry
  pub tails : (p : Pair) (g : ℕ) → site_at image p ≡ DirectTail g → (g ≢ image.entry) ⊎ (g ≡ p.func)
  pub labels : (j : ℕ) (q : Pair) → slice_get image.labels j ≡ Some q → q.off % 4 ≡ 0

-- each word has its class, by the records; functions end at image_end or below, and labels are at words
pub record IsSited (image : Image) (relocs : List Reloc) : Type 0 where
  pub sites : (f k : ℕ) → f < length (sizes_of image) → k < length (slice_index_or image.words f []) → slice_index_or (slice_index_or image.sites f []) k Plain ≡ class_at (source_of image relocs f) k
  pub none : (f k : ℕ) → (length (sizes_of image) ≤ f) ⊎ (length (slice_index_or image.words f []) ≤ k) → slice_index_or (slice_index_or image.sites f []) k Plain ≡ Plain
  pub low : (f : ℕ) → f < length (sizes_of image) → slice_index (starts_of image.functions) f + slice_index (sizes_of image) f ≤ image_end
  pub labels : (j : ℕ) (q : Pair) → slice_get image.labels j ≡ Some q → q.off % 4 ≡ 0

-- what loading gives of an image, by the records of its file
pub record IsLoaded (image : Image) (relocs : List Reloc) : Type 0 where
  pub entry : image.entry < length (sizes_of image)
  pub whole : (f : ℕ) → slice_index (sizes_of image) f % 4 ≡ 0
  pub low : (k : ℕ) (r : Region) → slice_get image.regions k ≡ Some r → r.end ≤ first_cell
  pub rows : (k f : ℕ) → slice_get image.rows k ≡ Some f → (f < length (sizes_of image)) × (f ≢ image.entry)
  pub ordered : AreInOrder (sizes_of image) image.rows image.labels
  pub literals : literals_below image (length (sizes_of image)) ≤ most_literals
  pub tabled : IsTabled image
  pub sited : IsSited image relocs
