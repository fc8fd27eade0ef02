-- SPDX-License-Identifier: Apache-2.0
use Rattle.std.proofs.Common.{[]}
use Rattle.sh_machines.specs.Kind.{Computes}
use Rattle.sh_machines.specs.Unmoved.{Number}
use Rattle.thread_step.proofs.Staying.{alone_stops, alone_went, computes_stays, on_false, on_true}
use Rattle.thread_step.proofs.quick.quick_computes.Goals as goal

pub returns-clause-went : goal.returns-clause-went
returns-clause-went c =
    on_true c.is_quiet.result _ _ c.is_quiet.ensures.yes (λ went. alone_went c.args.thread.now c.computes.new.thread (Computes c.args.instr) c.computes.result went c.computes.ensures)

pub returns-clause-stays : goal.returns-clause-stays
returns-clause-stays c =
    on_false c.is_quiet.result _ _ c.is_quiet.ensures.no (λ not. computes_stays [] c.args.thread.now c.computes.new.thread c.args.instr (λ word. Number 0) c.computes.result (c.computes.ensures [] (λ word. Number 0)) not)

pub returns-clause-stops : goal.returns-clause-stops
returns-clause-stops c =
    on_false c.is_quiet.result _ _ c.is_quiet.ensures.no (λ not. alone_stops c.args.thread.now c.computes.new.thread (Computes c.args.instr) c.computes.result not c.computes.ensures)
