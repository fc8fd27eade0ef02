-- SPDX-License-Identifier: Apache-2.0
use Rattle.std.proofs.Common.{◌≡◌, string_bytes, take}
use Rattle.guest_mem.specs.Held.{words_of}
use Rattle.period_report.specs.Full.{words_text}
use Rattle.period_report.proofs.moves.words.Given as goal

abbrev pub invariant-loop-one : goal.invariant-loop-one
invariant-loop-one l = string_bytes l.text ≡ words_text (words_of l.memory) (take l.one-index l.of)
