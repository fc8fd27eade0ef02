-- SPDX-License-Identifier: Apache-2.0
use Rattle.std.proofs.Common.{ℕ, ◌/◌, ◌≤◌, List, ◌++◌, ◌∷◌, [], map, take, length, sym, ap, ◌∙◌, arith}
use Rattle.std.specs.Prelude.{slice_index}
use Rattle.std.proofs.lemmas.Bool.Decides.{nat_tests}
use Rattle.std.proofs.lemmas.List.{map_more, take_all}
use Rattle.guest_mem.specs.Held.{words_of}
use Rattle.hart_unwinder.specs.Words.{owned_words}
use Rattle.hart_unwinder.proofs.Resealing.{whole_slot}
use Rattle.shuf_machine.specs.Returns.{return_word}
use Rattle.shuf_machine.proofs.Living.{same_words}
use Rattle.shuf_machine.proofs.returns.words_at.Goals as goal

pub loop-slot-init : goal.loop-slot-init
loop-slot-init c = c.in_ok-words.ensures.items

pub return_at-requires-clause-slot : goal.return_at-requires-clause-slot
return_at-requires-clause-slot c =
    let i = c.loop-slot.slot-index in
    whole_slot (owned_words (words_of c.args.memory.now) c.args.hart) (slice_index c.args.slots.now i) i (ap (λ (xs : List ℕ). slice_index xs i) c.requires.slots)

pub loop-slot-preserved : goal.loop-slot-preserved
loop-slot-preserved c =
    let i = c.loop-slot.slot-index in
    c.in_ok-push.ensures.items ∙ ap (λ xs. xs ++ c.return_at.result ∷ []) c.loop-slot.invariant
    ∙ ap (λ x. map (λ a. return_word c.args.layout.now c.args.hart (words_of c.args.memory.now) (a / 8)) (take i c.args.slots.now) ++ x ∷ []) c.return_at.ensures
    ∙ sym (map_more (λ a. return_word c.args.layout.now c.args.hart (words_of c.args.memory.now) (a / 8)) c.args.slots.now i 0 c.loop-slot-test.true)

pub returns : goal.returns
returns c =
    let l : length c.args.slots.now ≤ c.loop-slot.slot-index = grind (arith, nat_tests, c.loop-slot-test.false) in
    let f = return_word c.args.layout.now c.args.hart (words_of c.args.memory.now) in
    c.loop-slot.invariant ∙ ap (map (λ a. f (a / 8))) (take_all c.loop-slot.slot-index c.args.slots.now l ∙ c.requires.slots)
    ∙ same_words c.args.layout.now c.args.hart (words_of c.args.memory.now) (owned_words (words_of c.args.memory.now) c.args.hart)
