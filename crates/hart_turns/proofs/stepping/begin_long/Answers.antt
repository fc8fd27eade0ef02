-- SPDX-License-Identifier: Apache-2.0
use Rattle.std.proofs.Common.{arith}
use Rattle.guest_mem.specs.Held.{words_of}
use Rattle.hart_step.specs.Task.{tables_with}
use Rattle.hart_turns.specs.Meant.{meant}
use Rattle.hart_turns.proofs.Next.{begun_by_word, read_here, read_there, tables_are, meets_there, guard_there, word_there}
use Rattle.hart_turns.proofs.stepping.begin_long.Goals as goal

pub long_step-requires-clause-guard : goal.long_step-requires-clause-guard
long_step-requires-clause-guard c =
    let s = meant c.args.code.now c.args.state.now in
    let h = c.index_mut.result.now in
    let there = read_there c.args.code.now c.args.from.now s c.args.at h c.requires.next c.index_mut.ensures.value in
    let here = read_here c.args.code.now c.args.from.now s c.args.at h c.requires.next c.index_mut.ensures.value in
    guard_there c.args.code.now c.args.from.now c.layout.result.now s c.args.at h c.args.word c.requires.code here c.layout.ensures.is (word_there c.args.from.now.copy s.harts c.args.at h c.args.word there c.requires.word)

pub long_step-requires-clause-number : goal.long_step-requires-clause-number
long_step-requires-clause-number c =
    let h = read_here c.args.code.now c.args.from.now (meant c.args.code.now c.args.state.now) c.args.at c.index_mut.result.now c.requires.next c.index_mut.ensures.value in
    omega (arith, h.number, h.small)

pub long_step-requires-clause-pc : goal.long_step-requires-clause-pc
long_step-requires-clause-pc c =
    let h = read_here c.args.code.now c.args.from.now (meant c.args.code.now c.args.state.now) c.args.at c.index_mut.result.now c.requires.next c.index_mut.ensures.value in
    omega (arith, h.pc)

pub long_step-requires-clause-meets : goal.long_step-requires-clause-meets
long_step-requires-clause-meets c =
    let s = meant c.args.code.now c.args.state.now in
    let h = c.index_mut.result.now in
    let there = read_there c.args.code.now c.args.from.now s c.args.at h c.requires.next c.index_mut.ensures.value in
    let here = read_here c.args.code.now c.args.from.now s c.args.at h c.requires.next c.index_mut.ensures.value in
    meets_there c.args.code.now c.args.from.now c.layout.result.now s c.args.at h (tables_with c.as_slice.result.now c.as_slice-2.result.now c.as_slice-3.result.now) c.args.word here c.layout.ensures.is
    (tables_are c.args.code.now.image.now c.as_slice.result.now c.as_slice-2.result.now c.as_slice-3.result.now c.as_slice.ensures c.as_slice-2.ensures c.as_slice-3.ensures)
    (word_there c.args.from.now.copy s.harts c.args.at h c.args.word there c.requires.word)

pub returns-clause-begins : goal.returns-clause-begins
returns-clause-begins c =
    let s = meant c.args.code.now c.args.state.now in
    let h = c.index_mut.result.now in
    let there = read_there c.args.code.now c.args.from.now s c.args.at h c.requires.next c.index_mut.ensures.value in
    let here = read_here c.args.code.now c.args.from.now s c.args.at h c.requires.next c.index_mut.ensures.value in
    let word = word_there c.args.from.now.copy s.harts c.args.at h c.args.word there c.requires.word in
    begun_by_word c.args.code.now c.args.from.now c.layout.result.now c.args.state.now.memory s c.args.at h c.long_step.new.hart (words_of c.long_step.new.view) (tables_with c.as_slice.result.now c.as_slice-2.result.now c.as_slice-3.result.now) c.args.word c.long_step.result c.requires.code c.requires.mapped there here c.requires.can c.layout.ensures.is
    (tables_are c.args.code.now.image.now c.as_slice.result.now c.as_slice-2.result.now c.as_slice-3.result.now c.as_slice.ensures c.as_slice-2.ensures c.as_slice-3.ensures)
    word c.long_step.ensures.did c.long_step.ensures.hart c.long_step.ensures.words
