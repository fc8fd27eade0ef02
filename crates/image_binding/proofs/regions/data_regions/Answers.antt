-- SPDX-License-Identifier: Apache-2.0
use Rattle.std.proofs.lemmas.List.Elements.{All-filter}
use Rattle.image_binding.specs.Order.{EndsLow}
use Rattle.image_binding.proofs.regions.data_regions.Goals as goal

pub add_pieces-requires-clause-low : goal.add_pieces-requires-clause-low
add_pieces-requires-clause-low c = rw c.codes_within-inside.ensures.within (All-filter _ EndsLow c.args.codes.now c.requires.low)
