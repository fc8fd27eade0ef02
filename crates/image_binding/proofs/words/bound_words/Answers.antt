-- SPDX-License-Identifier: Apache-2.0
use Rattle.std.proofs.Common.{◌∙◌}
use Rattle.image_binding.proofs.Places.{low_words}
use Rattle.image_binding.proofs.words.bound_words.Goals as goal

pub words_by-requires-clause-low : goal.words_by-requires-clause-low
words_by-requires-clause-low c = low_words c.args.bytes.now c.args.codes.now c.args.function.now _ (c.as_slice.ensures ∙ c.in_ok-words.ensures) c.requires.low
