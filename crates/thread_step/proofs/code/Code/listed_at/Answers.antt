-- SPDX-License-Identifier: Apache-2.0
use Rattle.std.proofs.lemmas.Option.{IfSome_then}
use Rattle.thread_step.proofs.Lookups.{listed_task, listed_next, none_listed}
use Rattle.thread_step.proofs.code.Code.listed_at.Goals as goal

pub returns-clause-kind : goal.returns-clause-kind
returns-clause-kind c =
    IfSome_then c.listed.result c.listed.ensures.is (λ t s. (listed_task c.self.inside.image c.args.self.now c.self.inside.tasks c.as_slice.result.now c.args.at t.now c.as_slice.ensures c.self.view_is c.self.invariant.tasked s).kind)

pub returns-clause-doable : goal.returns-clause-doable
returns-clause-doable c =
    IfSome_then c.listed.result c.listed.ensures.is (λ t s. (listed_task c.self.inside.image c.args.self.now c.self.inside.tasks c.as_slice.result.now c.args.at t.now c.as_slice.ensures c.self.view_is c.self.invariant.tasked s).doable)

pub returns-clause-next : goal.returns-clause-next
returns-clause-next c =
    IfSome_then c.listed.result c.listed.ensures.is (λ t s. listed_next c.self.inside.image c.self.inside.tasks c.as_slice.result.now c.args.at t.now c.as_slice.ensures c.self.invariant.numbered.sized c.self.invariant.tasked s)

pub returns-clause-none : goal.returns-clause-none
returns-clause-none c =
    none_listed c.self.inside.image c.args.self.now c.self.inside.tasks c.as_slice.result.now c.args.at c.listed.result c.as_slice.ensures c.self.view_is c.self.invariant.numbered.sized c.self.invariant.tasked c.listed.ensures.none
