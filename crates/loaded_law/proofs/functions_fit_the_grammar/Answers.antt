-- SPDX-License-Identifier: Apache-2.0
use Rattle.std.proofs.lemmas.Option.{slice_get_within}
use Rattle.elf_rules.specs.Relocs.{relocs_of}
use Rattle.image_rules.specs.Bound.{bound_image}
use Rattle.loaded_law.proofs.Frames.{fitted_at, no_record, outside_at, unrefused_at}
use Rattle.loaded_law.proofs.functions_fit_the_grammar.Goals as goal

pub returns : goal.returns
returns c =
    record {
      records = λ b f g fit there. no_record (bound_image b) (relocs_of b) fit f g there;
      rows = λ b f accepts fit l. (fitted_at b accepts f l fit).least;
      outside = λ b f refusal accepts l some. outside_at b accepts f l refusal some;
      inside = λ b f g accepts there none inside. unrefused_at b accepts f (slice_get_within (bound_image b).functions f g there) g none inside;
    }
