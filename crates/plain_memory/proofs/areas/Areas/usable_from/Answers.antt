-- SPDX-License-Identifier: Apache-2.0
use Rattle.std.proofs.Common.{refl}
use Rattle.plain_memory.proofs.Places.{rest_none, rest_each, rest_low, none_usable}
use Rattle.plain_memory.proofs.areas.Areas.usable_from.Goals as goal

pub returns-in-Some-clause-none : goal.returns-in-Some-clause-none
returns-in-Some-clause-none c =
    let h = rw (← c.self.view_is) at c.in-Some.ensures.some in
    λ z. rw (← c.self.view_is) (rest_none c.self.inside.areas.items c.in-Some.index c.index.result.now c.args.address c.rest.result c.args.writes c.self.invariant h c.index.ensures c.rest.ensures z)

pub returns-in-Some-clause-each : goal.returns-in-Some-clause-each
returns-in-Some-clause-each c =
    let h = rw (← c.self.view_is) at c.in-Some.ensures.some in
    λ x l m. rw (← c.self.view_is) (rest_each c.self.inside.areas.items c.in-Some.index c.index.result.now c.args.address c.rest.result c.args.writes c.self.invariant h c.index.ensures c.rest.ensures x l m)

pub returns-in-Some-clause-low : goal.returns-in-Some-clause-low
returns-in-Some-clause-low c =
    let h = rw (← c.self.view_is) at c.in-Some.ensures.some in
    λ p. rest_low c.self.inside.areas.items c.in-Some.index c.index.result.now c.args.address c.rest.result c.args.writes c.self.invariant h c.index.ensures c.rest.ensures p

pub returns-in-None-clause-none : goal.returns-in-None-clause-none
returns-in-None-clause-none c = λ z. none_usable c.args.self.now c.args.address c.args.writes (c.in-None.ensures.none refl)
