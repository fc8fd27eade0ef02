-- SPDX-License-Identifier: Apache-2.0
use Rattle.std.proofs.lemmas.List.{get_or_read}
use Rattle.guest_image.specs.Records.{no_function}
use Rattle.guest_image.proofs.Recorded.{home_from, last_none, last_some}
use Rattle.guest_image.proofs.records.refused_at.Goals as goal

pub refusal_in-requires-clause-from : goal.refusal_in-requires-clause-from
refusal_in-requires-clause-from c =
    home_from c.args.functions.now c.args.address c.args.number c.index-functions-number.result c.requires.last (get_or_read c.args.functions.now c.args.number _ c.requires.last.bound c.index-functions-number.is no_function)

pub returns-in-None : goal.returns-in-None
returns-in-None c =
    last_none c.args.functions.now c.args.entry c.args.reloc.now c.args.address c.args.number c.index-functions-number.result c.requires.apart c.requires.named c.requires.last (get_or_read c.args.functions.now c.args.number _ c.requires.last.bound c.index-functions-number.is no_function) (cc)

pub returns-in-Some : goal.returns-in-Some
returns-in-Some c =
    last_some c.args.functions.now c.args.entry c.args.reloc.now c.args.address c.args.number c.index-functions-number.result c.in-Some.refusal c.requires.apart c.requires.named c.requires.last (get_or_read c.args.functions.now c.args.number _ c.requires.last.bound c.index-functions-number.is no_function) (cc)
