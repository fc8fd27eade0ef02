-- SPDX-License-Identifier: Apache-2.0
use Rattle.image_binding.proofs.Bounds.{end_in_image}
use Rattle.image_binding.proofs.image.file_words.Goals as goal

pub all_words-requires-clause-words : goal.all_words-requires-clause-words
all_words-requires-clause-words c =
    rw c.requires.binding.functions (c.function_words_lie_in_files.ensures c.args.bytes.now c.requires.fine c.requires.split)

pub all_words-requires-clause-low : goal.all_words-requires-clause-low
all_words-requires-clause-low c = end_in_image c.args.binding.now.functions c.requires.coded
