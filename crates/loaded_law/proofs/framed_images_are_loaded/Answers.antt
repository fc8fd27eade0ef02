-- SPDX-License-Identifier: Apache-2.0
use Rattle.loaded_law.proofs.Loaded.{loaded}
use Rattle.loaded_law.proofs.framed_images_are_loaded.Goals as goal

pub returns : goal.returns
returns c = loaded
