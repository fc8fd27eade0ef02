-- SPDX-License-Identifier: Apache-2.0
use Rattle.std.proofs.Common.{arith}
use Rattle.std.proofs.lemmas.Option.{IfSome_then}
use Rattle.hart_turns.specs.Meant.{meant}
use Rattle.hart_turns.proofs.Next.{begun_short, kept_there, read_here, read_there, word_there, if_none_then}
use Rattle.hart_turns.proofs.stepping.begin_short.Goals as goal

pub short_step-requires : goal.short_step-requires
short_step-requires c =
    let h = read_here c.args.code.now c.args.from.now (meant c.args.code.now c.args.state.now) c.args.at c.index_mut.result.now c.requires.next c.index_mut.ensures.value in
    omega (arith, h.pc)

pub returns-clause-begins : goal.returns-clause-begins
returns-clause-begins c =
    let s = meant c.args.code.now c.args.state.now in
    let h = c.index_mut.result.now in
    let there = read_there c.args.code.now c.args.from.now s c.args.at h c.requires.next c.index_mut.ensures.value in
    let here = read_here c.args.code.now c.args.from.now s c.args.at h c.requires.next c.index_mut.ensures.value in
    let word = word_there c.args.from.now.copy s.harts c.args.at h c.args.word there c.requires.word in
    IfSome_then c.short_step.result c.short_step.ensures.some
    (λ short is. begun_short c.args.code.now c.args.from.now c.args.state.now.memory s c.args.at h c.short_step.new.hart c.args.word short c.requires.code c.requires.mapped there here c.requires.can word is)

pub returns-clause-none : goal.returns-clause-none
returns-clause-none c =
    let s = meant c.args.code.now c.args.state.now in
    let h = c.index_mut.result.now in
    let there = read_there c.args.code.now c.args.from.now s c.args.at h c.requires.next c.index_mut.ensures.value in
    if_none_then c.short_step.result c.short_step.ensures.none (kept_there s c.args.at h c.short_step.new.hart there)
