-- SPDX-License-Identifier: Apache-2.0
use Rattle.thread_step.proofs.Lookups.{nothing_stands, stands}
use Rattle.thread_step.proofs.listing.listed.Goals as goal

pub returns-in-Some-clause-is : goal.returns-in-Some-clause-is
returns-in-Some-clause-is c =
    stands c.args.tasks.now c.in-Some.list.now c.as_slice.result.now c.args.at c.get-in-Some.result c.if-at-ne0.false c.in-Some.ensures.lookup.3.0 c.in-Some.ensures.lookup.1 c.as_slice.ensures c.get-in-Some.ensures.lookup

pub returns-in-Some-clause-none : goal.returns-in-Some-clause-none
returns-in-Some-clause-none c =
    nothing_stands c.args.tasks.now c.in-Some.list.now c.as_slice.result.now c.args.at c.get-in-Some.result c.in-Some.ensures.lookup.3.0 c.in-Some.ensures.lookup.1 c.as_slice.ensures c.get-in-Some.ensures.lookup
