-- SPDX-License-Identifier: Apache-2.0
use Rattle.std.proofs.Common.{◌∙◌, sym, refl}
use Rattle.plain_memory.proofs.Places.{first_at, first_none, found_at, placed_at}
use Rattle.plain_memory.proofs.Words.{byte_loaded}
use Rattle.plain_memory.proofs.areas.Areas.byte.Goals as goal

pub byte-requires-clause-full : goal.byte-requires-clause-full
byte-requires-clause-full c =
    let h = rw (← c.self.view_is) at c.in-Some.ensures.some in
    (placed_at 0 c.self.inside.areas.items c.in-Some.index c.index.result.now c.self.invariant h.0 c.index.ensures).full

pub returns-in-Some-clause-is : goal.returns-in-Some-clause-is
returns-in-Some-clause-is c =
    let h = rw (← c.self.view_is) at c.in-Some.ensures.some in
    rw (← c.self.view_is)
    (c.byte.ensures ∙ sym (first_at 0 c.self.inside.areas.items c.in-Some.index c.index.result.now c.args.address c.self.invariant h.0 c.index.ensures (found_at c.self.inside.areas.items c.in-Some.index c.args.address c.index.result.now h c.index.ensures)))

pub returns-in-Some-clause-part : goal.returns-in-Some-clause-part
returns-in-Some-clause-part c =
    let h = rw (← c.self.view_is) at c.in-Some.ensures.some in
    rw (← c.self.view_is)
    (byte_loaded c.self.inside.areas.items c.args.address c.byte.result c.self.invariant
    (c.byte.ensures ∙ sym (first_at 0 c.self.inside.areas.items c.in-Some.index c.index.result.now c.args.address c.self.invariant h.0 c.index.ensures (found_at c.self.inside.areas.items c.in-Some.index c.args.address c.index.result.now h c.index.ensures))))

pub returns-in-None-clause-is : goal.returns-in-None-clause-is
returns-in-None-clause-is c =
    let none = rw (← c.self.view_is) at (c.in-None.ensures.none refl) in
    rw (← c.self.view_is) (sym (first_none c.self.inside.areas.items c.args.address none))

pub returns-in-None-clause-part : goal.returns-in-None-clause-part
returns-in-None-clause-part c =
    let none = rw (← c.self.view_is) at (c.in-None.ensures.none refl) in
    rw (← c.self.view_is) (byte_loaded c.self.inside.areas.items c.args.address 0 c.self.invariant (sym (first_none c.self.inside.areas.items c.args.address none)))
