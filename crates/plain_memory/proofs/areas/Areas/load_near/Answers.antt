-- SPDX-License-Identifier: Apache-2.0
use Rattle.std.proofs.Common.{◌∙◌, ◌<◌, sym, refl, length, arith}
use Rattle.plain_memory.proofs.Places.{number_in, placed_at}
use Rattle.plain_memory.proofs.Stretches.{near_allows}
use Rattle.plain_memory.proofs.Words.{loaded_is}
use Rattle.plain_memory.proofs.areas.Areas.load_near.Goals as goal

pub number-requires-clause-full : goal.number-requires-clause-full
number-requires-clause-full c =
    let l : c.hint-index.result < length c.self.inside.areas.items = omega (arith, c.if-index-len.false, c.len.ensures) in
    (placed_at 0 c.self.inside.areas.items c.hint-index.result c.index-area.result.now c.self.invariant l c.index-area.ensures).full

pub returns-clause-value : goal.returns-clause-value
returns-clause-value c =
    let l : c.hint-index.result < length c.self.inside.areas.items = omega (arith, c.if-index-len.false, c.len.ensures) in
    rw (← c.self.view_is)
    (loaded_is c.self.inside.areas.items c.args.address c.args.width c.number.result c.self.invariant c.requires.width c.requires.aligned
    (c.number.ensures ∙ sym (number_in 0 c.self.inside.areas.items c.hint-index.result c.index-area.result.now c.args.address c.args.width c.self.invariant l c.index-area.ensures (c.if-not-serves.ensures.start refl) (c.if-not-serves.ensures.end refl))))

pub returns-clause-allows : goal.returns-clause-allows
returns-clause-allows c =
    let l : c.hint-index.result < length c.self.inside.areas.items = omega (arith, c.if-index-len.false, c.len.ensures) in
    λ some.
    rw (← c.self.view_is)
    (near_allows c.self.inside.areas.items c.hint-index.result c.index-area.result.now c.args.address c.args.width c.args.writes c.self.invariant l c.index-area.ensures (c.if-not-serves.ensures.start refl) (c.if-not-serves.ensures.end refl) (c.if-not-serves.ensures.writes refl))
