-- SPDX-License-Identifier: Apache-2.0
use Rattle.std.proofs.Common.{◌≡◌, drop}
use Rattle.std.specs.List.{list_any}
use Rattle.asm_words.specs.Characters.{is_foreign}
use Rattle.asm_words.proofs.characters.has_foreign.Given as goal

abbrev pub invariant-loop-c : goal.invariant-loop-c
invariant-loop-c l = list_any is_foreign (drop l.c-index l.line) ≡ list_any is_foreign l.line
