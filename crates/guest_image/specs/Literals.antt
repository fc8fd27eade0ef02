-- SPDX-License-Identifier: Apache-2.0
-- The numbers that the words of a function give, and what is known of a bound image that is framed. This project's own.
use Rattle.std.specs.Prelude.{◌≡◌, ℕ, suc, ◌+◌, ◌*◌, ◌<◌, ◌^◌, Option, None, List, [], ◌∷◌, length, slice_index_or, if◌then◌else◌}
use Rattle.sh_types.specs.declared.code.FrameState.{FrameState}
use Rattle.sh_types.specs.declared.code.FrameTable.{FrameTable}
use Rattle.sh_types.specs.declared.code.Function.{Function}
use Rattle.sh_types.specs.declared.code.Image.{Image}
use Rattle.sh_types.specs.declared.code.Site.{Site}
use Rattle.sh_types.specs.declared.code.Site.TheVariants.{Plain}
use Rattle.sh_types.specs.declared.relocs.Reloc.{Reloc}
use Rattle.fn_lookup.specs.Apart.{home_in}
use Rattle.fn_sites.specs.Index.{Tells}
use Rattle.image_binding.specs.declared.bound.BoundFile.{BoundFile}
use Rattle.elf_rules.specs.Relocs.{relocs_of}
use Rattle.image_rules.specs.Binding.{literal_of}
use Rattle.image_rules.specs.Bound.{bound_image}
use Rattle.image_rules.specs.Framed.{AllFit, framed_image}
use Rattle.sh_machines.specs.Copy.{is_literal}
use Rattle.sh_types.specs.Image.{no_rows}
use Rattle.guest_image.specs.Walks.{IsWalkable}

-- the functions can be walked and end below 2 ^ 64, and the index is that of the records and labels
pub record IsFramable (b : BoundFile) : Type 0 where
  pub walkable : IsWalkable b.image
  pub low : (f : ℕ) → f < length b.image.functions → home_in b.image.functions f + 4 * length (slice_index_or b.image.words f []) < 2 ^ 64
  pub tells : Tells b.index b.relocs b.image.labels

-- an image with these rows
abbrev pub framed : Image → List FrameTable → Image
framed i frames = record i { frames = frames }

-- the numbers of words, from word k on, which stands at an address, with their classes and rows
abbrev pub literals_by : List Function → List Reloc → List Site → List (Option FrameState) → (address k : ℕ) → List ℕ → List ℕ
literals_by functions relocs sites rows address k [] = []
literals_by functions relocs sites rows address k (w ∷ ws) =
    if is_literal (slice_index_or sites k Plain) (slice_index_or rows k None) then literal_of functions relocs address w ∷ literals_by functions relocs sites rows (address + 4) (suc k) ws
    else literals_by functions relocs sites rows (address + 4) (suc k) ws

-- those of a function of a bound image with these rows
abbrev pub literals_in : BoundFile → List FrameTable → ℕ → List ℕ
literals_in b frames f =
    literals_by b.image.functions b.relocs (slice_index_or b.image.sites f []) (slice_index_or frames f no_rows).rows (home_in b.image.functions f) 0 (slice_index_or b.image.words f [])

-- the framed image of a file in which no function is refused
pub record IsFramedFile (bytes : List ℕ) (i : Image) : Type 0 where
  pub image : i ≡ framed_image bytes
  pub fit : AllFit (bound_image bytes) (relocs_of bytes)
