-- SPDX-License-Identifier: Apache-2.0
use Rattle.image_binding.proofs.Bounds.{as_low, coded_functions, have_bound_words}
use Rattle.image_binding.proofs.Whole.{sites_are}
use Rattle.image_binding.proofs.image.file_sites.Goals as goal

pub all_sites-requires-clause-words : goal.all_sites-requires-clause-words
all_sites-requires-clause-words c =
    rw c.requires.binding.functions (have_bound_words c.args.bytes.now _ c.requires.coded c.requires.words)

pub all_sites-requires-clause-low : goal.all_sites-requires-clause-low
all_sites-requires-clause-low c =
    rw c.requires.binding.functions (as_low _ (coded_functions c.args.bytes.now c.requires.coded))

pub returns : goal.returns
returns c = rw (sites_are c.args.bytes.now c.args.binding.now c.args.words.now c.args.entry c.requires.binding c.requires.words c.requires.entry) at c.in_ok-sites.ensures
