-- SPDX-License-Identifier: Apache-2.0
use Rattle.loaded_law.proofs.Whole.{framed_apart, framed_full, framed_words}
use Rattle.loaded_law.proofs.framed_images_are_whole.Goals as goal

pub returns : goal.returns
returns c = record {
  words = λ b f accepts. framed_words b accepts f;
  apart = λ b j k d accepts. framed_apart b accepts j k d;
  full = framed_full;
}
