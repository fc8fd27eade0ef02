-- SPDX-License-Identifier: Apache-2.0
use Rattle.std.proofs.Common.{◌≡◌, ◌%◌, ◌^◌, refl}
use Rattle.hart_step.specs.Task.{tables_with}
use Rattle.hart_step.proofs.ByWord.{common_there}
use Rattle.hart_step.proofs.long_step.Goals as goal

pub returns-in-3-clause-did : goal.returns-in-3-clause-did
returns-in-3-clause-did g c =
    let e : c.args.word % 2 ^ 7 ≡ 3 = cc in
    rw (common_there (tables_with c.args.literals.now c.args.rows.now c.args.labels.now) c.args.layout.now c.args.hart.now.pc c.args.word 3 c.requires.guard e refl) c.load_words.ensures.did

pub returns-in-3-clause-hart : goal.returns-in-3-clause-hart
returns-in-3-clause-hart g c =
    let e : c.args.word % 2 ^ 7 ≡ 3 = cc in
    rw (common_there (tables_with c.args.literals.now c.args.rows.now c.args.labels.now) c.args.layout.now c.args.hart.now.pc c.args.word 3 c.requires.guard e refl) c.load_words.ensures.hart

pub returns-in-3-clause-words : goal.returns-in-3-clause-words
returns-in-3-clause-words g c =
    let e : c.args.word % 2 ^ 7 ≡ 3 = cc in
    rw (common_there (tables_with c.args.literals.now c.args.rows.now c.args.labels.now) c.args.layout.now c.args.hart.now.pc c.args.word 3 c.requires.guard e refl) c.load_words.ensures.words

pub returns-in-35-clause-did : goal.returns-in-35-clause-did
returns-in-35-clause-did g c =
    let e : c.args.word % 2 ^ 7 ≡ 35 = cc in
    rw (common_there (tables_with c.args.literals.now c.args.rows.now c.args.labels.now) c.args.layout.now c.args.hart.now.pc c.args.word 35 c.requires.guard e refl) c.store_words.ensures.did

pub returns-in-35-clause-hart : goal.returns-in-35-clause-hart
returns-in-35-clause-hart g c =
    let e : c.args.word % 2 ^ 7 ≡ 35 = cc in
    rw (common_there (tables_with c.args.literals.now c.args.rows.now c.args.labels.now) c.args.layout.now c.args.hart.now.pc c.args.word 35 c.requires.guard e refl) c.store_words.ensures.hart

pub returns-in-35-clause-words : goal.returns-in-35-clause-words
returns-in-35-clause-words g c =
    let e : c.args.word % 2 ^ 7 ≡ 35 = cc in
    rw (common_there (tables_with c.args.literals.now c.args.rows.now c.args.labels.now) c.args.layout.now c.args.hart.now.pc c.args.word 35 c.requires.guard e refl) c.store_words.ensures.words
