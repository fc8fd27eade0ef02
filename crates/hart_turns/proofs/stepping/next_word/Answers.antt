-- SPDX-License-Identifier: Apache-2.0
use Rattle.std.proofs.Common.{subst}
use Rattle.sh_types.specs.Fetch.{Tells}
use Rattle.hart_turns.specs.Meant.{meant}
use Rattle.hart_turns.proofs.Next.{asked_is, is_word_of, read_here, read_there}
use Rattle.hart_turns.proofs.stepping.next_word.Goals as goal

pub word-requires : goal.word-requires
word-requires g c =
    let h = read_here c.args.code.now c.args.from.now (meant c.args.code.now c.args.state.now) c.args.at c.index.result.now c.requires.next c.index.ensures in
    h.there

pub returns-clause-word : goal.returns-clause-word
returns-clause-word g c =
    let s = meant c.args.code.now c.args.state.now in
    is_word_of c.args.from.now.copy s.harts c.args.at c.index.result.now c.word.result (read_there c.args.code.now c.args.from.now s c.args.at c.index.result.now c.requires.next c.index.ensures) c.word.ensures.word

pub returns-clause-asked : goal.returns-clause-asked
returns-clause-asked g c =
    subst (λ x. Tells (g.F.Fetch.asked c.args.fetch.now) x (g.F.Fetch.asked c.word.new.self)) (asked_is c.args.code.now c.args.from.now (meant c.args.code.now c.args.state.now) c.args.at c.index.result.now c.requires.next c.index.ensures) c.word.ensures.asked
