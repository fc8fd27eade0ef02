-- SPDX-License-Identifier: Apache-2.0
use Rattle.std.proofs.Common.{[]}
use Rattle.sh_machines.specs.Kind.{Branches}
use Rattle.sh_machines.specs.Unmoved.{Number}
use Rattle.sh_types.specs.Place.{pair}
use Rattle.thread_step.proofs.Staying.{alone_stops, alone_went, branches_stays, on_false, on_true}
use Rattle.thread_step.proofs.quick.quick_branches.Goals as goal

pub returns-clause-went : goal.returns-clause-went
returns-clause-went c =
    on_true c.is_quiet.result _ _ c.is_quiet.ensures.yes (λ went. alone_went c.args.thread.now c.branch_to.new.thread (Branches c.args.instr (pair c.args.thread.now.at.func c.args.off)) c.branch_to.result went c.branch_to.ensures)

pub returns-clause-stays : goal.returns-clause-stays
returns-clause-stays c =
    on_false c.is_quiet.result _ _ c.is_quiet.ensures.no (λ not. branches_stays [] c.args.thread.now c.branch_to.new.thread c.args.instr _ (λ word. Number 0) c.branch_to.result (c.branch_to.ensures [] (λ word. Number 0)) not)

pub returns-clause-stops : goal.returns-clause-stops
returns-clause-stops c =
    on_false c.is_quiet.result _ _ c.is_quiet.ensures.no (λ not. alone_stops c.args.thread.now c.branch_to.new.thread (Branches c.args.instr (pair c.args.thread.now.at.func c.args.off)) c.branch_to.result not c.branch_to.ensures)
