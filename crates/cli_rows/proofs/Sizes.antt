-- SPDX-License-Identifier: Apache-2.0
-- How many functions an image has whose layouts fit into cells.
use Rattle.std.proofs.Common.{◌≡◌, ◌≤◌, length, arith}
use Rattle.std.proofs.lemmas.List.{length-map}
use Rattle.sh_types.specs.declared.code.Function.{Function}
use Rattle.sh_types.specs.declared.code.Image.{Image}
use Rattle.sh_types.specs.Image.{sizes_of}
use Rattle.sh_types.specs.Sized.{IsSized}

pub few_functions : (image : Image) → IsSized (sizes_of image) → length image.functions ≤ 16384
unfolding sizes_of
few_functions image sized =
    let many : length (sizes_of image) ≡ length image.functions = length-map image.functions (λ (f : Function). f.size) in
    omega (arith, sized.few, many)
