-- SPDX-License-Identifier: Apache-2.0
-- The image of a file that is accepted.
use Rattle.std.specs.Prelude.{◌≡◌, List, ℕ, None}
use Rattle.image_rules.specs.Framed.{framed_image, refusal_of}
use Rattle.sh_machines.specs.Copy.{IsCopyable}
use Rattle.sh_machines.specs.Fine.{IsFine}
use Rattle.load_law.specs.Readable.{IsFull}
use Rattle.plain_memory.specs.Laid.{AreApart}
use Rattle.sh_types.specs.declared.code.Image.{Image}
use Rattle.std.specs.List.{All}
use Rattle.thread_step.specs.Numbered.{IsWorded}
use Rattle.sh_types.specs.Image.{sizes_of}
use Rattle.sh_types.specs.Sized.{IsSized}

-- the image of an accepted file, and what a machine asks of it
pub record IsImageOf (file : List ℕ) (image : Image) : Type 0 where
  pub accepted : refusal_of file ≡ None
  pub framed : image ≡ framed_image file
  pub fine : IsFine image
  pub sized : IsSized (sizes_of image)
  pub copyable : IsCopyable image
  pub worded : IsWorded image
  pub apart : AreApart image.regions
  pub full : All IsFull image.regions
