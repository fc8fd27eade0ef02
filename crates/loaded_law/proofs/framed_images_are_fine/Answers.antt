-- SPDX-License-Identifier: Apache-2.0
use Rattle.elf_rules.specs.Relocs.{relocs_of}
use Rattle.image_rules.specs.Framed.{framed_image}
use Rattle.loaded_law.proofs.Loaded.{loaded}
use Rattle.loaded_law.proofs.framed_images_are_fine.Goals as goal
use Rattle.sh_law.proofs.Siting.{loaded_fine}

pub returns : goal.returns
returns c = λ b accepts fit. loaded_fine (framed_image b) (relocs_of b) (loaded b accepts fit)
