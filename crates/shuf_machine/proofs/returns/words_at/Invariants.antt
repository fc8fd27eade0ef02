-- SPDX-License-Identifier: Apache-2.0
use Rattle.std.proofs.Common.{◌≡◌, ◌/◌, take, map}
use Rattle.guest_mem.specs.Held.{words_of}
use Rattle.shuf_machine.specs.Returns.{return_word}
use Rattle.shuf_machine.proofs.returns.words_at.Given as goal

abbrev pub invariant-loop-slot : goal.invariant-loop-slot
invariant-loop-slot l = l.words.items ≡ map (λ a. return_word l.layout l.hart (words_of l.memory) (a / 8)) (take l.slot-index l.slots)
