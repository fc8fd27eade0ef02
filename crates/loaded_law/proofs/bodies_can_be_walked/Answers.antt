-- SPDX-License-Identifier: Apache-2.0
use Rattle.loaded_law.proofs.Bodies.{stays}
use Rattle.loaded_law.proofs.Walked.{labels_rise, sites_many, words_few}
use Rattle.loaded_law.proofs.bodies_can_be_walked.Goals as goal

pub returns : goal.returns
returns c = record { words = words_few; sites = sites_many; inside = λ b f accepts l. stays b accepts f l; labels = labels_rise }
