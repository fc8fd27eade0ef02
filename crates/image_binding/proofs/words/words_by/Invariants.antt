-- SPDX-License-Identifier: Apache-2.0
use Rattle.std.proofs.Common.{◌≡◌, ◌+◌, ◌*◌, ◌++◌, drop}
use Rattle.image_rules.specs.Bound.{words_by}
use Rattle.image_binding.proofs.words.words_by.Given as goal

abbrev pub invariant-loop-word : goal.invariant-loop-word
invariant-loop-word l =
    record {
      bound : l.found.items ++ words_by l.binding.functions l.binding.relocs l.address (drop l.word-index l.words) ≡ words_by l.binding.functions l.binding.relocs l.start l.words;
      place : l.address ≡ l.start + 4 * l.word-index;
    }
