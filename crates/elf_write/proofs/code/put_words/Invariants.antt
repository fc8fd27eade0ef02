-- SPDX-License-Identifier: Apache-2.0
use Rattle.std.proofs.Common.{◌≡◌, ◌++◌, drop}
use Rattle.std.specs.List.{flat_map}
use Rattle.elf_write.specs.Fields.{little}
use Rattle.elf_write.proofs.code.put_words.Given as goal

abbrev pub invariant-loop-word : goal.invariant-loop-word
invariant-loop-word l = l.file.items ++ flat_map (little 4) (drop l.word-index l.words) ≡ l.fn.file.items ++ flat_map (little 4) l.words
