-- SPDX-License-Identifier: Apache-2.0
use Rattle.std.proofs.Common.{◌≡◌, ◌%◌, ◌^◌, refl}
use Rattle.hart_step.proofs.ByWord.{short_is}
use Rattle.hart_step.proofs.short_step.Goals as goal

pub returns-in-19-clause-some : goal.returns-in-19-clause-some
returns-in-19-clause-some c =
    let e : c.args.word % 2 ^ 7 ≡ 19 = cc in
    short_is c.args.hart.now c.immediates.new.hart c.args.word 19 c.immediates.result e refl c.immediates.ensures.did c.immediates.ensures.hart c.immediates.ensures.words

pub returns-in-27-clause-some : goal.returns-in-27-clause-some
returns-in-27-clause-some c =
    let e : c.args.word % 2 ^ 7 ≡ 27 = cc in
    short_is c.args.hart.now c.word_immediates.new.hart c.args.word 27 c.word_immediates.result e refl c.word_immediates.ensures.did c.word_immediates.ensures.hart c.word_immediates.ensures.words

pub returns-in-51-clause-some : goal.returns-in-51-clause-some
returns-in-51-clause-some c =
    let e : c.args.word % 2 ^ 7 ≡ 51 = cc in
    short_is c.args.hart.now c.registers.new.hart c.args.word 51 c.registers.result e refl c.registers.ensures.did c.registers.ensures.hart c.registers.ensures.words

pub returns-in-59-clause-some : goal.returns-in-59-clause-some
returns-in-59-clause-some c =
    let e : c.args.word % 2 ^ 7 ≡ 59 = cc in
    short_is c.args.hart.now c.word_registers.new.hart c.args.word 59 c.word_registers.result e refl c.word_registers.ensures.did c.word_registers.ensures.hart c.word_registers.ensures.words

pub returns-in-99-clause-some : goal.returns-in-99-clause-some
returns-in-99-clause-some c =
    let e : c.args.word % 2 ^ 7 ≡ 99 = cc in
    short_is c.args.hart.now c.branch_words.new.hart c.args.word 99 c.branch_words.result e refl c.branch_words.ensures.did c.branch_words.ensures.hart c.branch_words.ensures.words

pub returns-in-111-clause-some : goal.returns-in-111-clause-some
returns-in-111-clause-some c =
    let e : c.args.word % 2 ^ 7 ≡ 111 = cc in
    short_is c.args.hart.now c.jump_words.new.hart c.args.word 111 c.jump_words.result e refl c.jump_words.ensures.did c.jump_words.ensures.hart c.jump_words.ensures.words

pub returns-in-55-clause-some : goal.returns-in-55-clause-some
returns-in-55-clause-some c =
    let e : c.args.word % 2 ^ 7 ≡ 55 = cc in
    short_is c.args.hart.now c.upper_words.new.hart c.args.word 55 c.upper_words.result e refl c.upper_words.ensures.did c.upper_words.ensures.hart c.upper_words.ensures.words
