-- SPDX-License-Identifier: Apache-2.0
use Rattle.std.proofs.Common.{sym}
use Rattle.fn_lookup.proofs.Holding.{inside_none, inside_start, inside_last}
use Rattle.fn_lookup.proofs.holds_inside.Goals as goal

pub returns-in-None : goal.returns-in-None
returns-in-None c = sym (inside_none c.args.functions.now c.args.address c.in-None.ensures)

pub returns-then-home-address : goal.returns-then-home-address
returns-then-home-address c =
    inside_last c.args.functions.now c.args.address c.in-Some.number _ _ c.requires c.in-Some.ensures c.home_at-home.ensures.home c.size_at.ensures.size c.if-home-address.true

pub returns-else-home-address : goal.returns-else-home-address
returns-else-home-address c =
    inside_start c.args.functions.now c.args.address c.in-Some.number _ c.requires c.in-Some.ensures c.home_at-home.ensures.home c.if-home-address.false
