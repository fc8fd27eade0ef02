-- SPDX-License-Identifier: Apache-2.0
use Rattle.std.proofs.Common.{sym}
use Rattle.fn_lookup.proofs.Holding.{in_none, in_last}
use Rattle.fn_lookup.proofs.holds.Goals as goal

pub returns-in-None : goal.returns-in-None
returns-in-None c = sym (in_none c.args.functions.now c.args.address c.in-None.ensures)

pub returns-in-Some : goal.returns-in-Some
returns-in-Some c =
    let last = in_last c.args.functions.now c.args.address c.in-Some.number c.requires c.in-Some.ensures in
    cc (last, c.home_at.ensures.home, c.size_at.ensures.size)
