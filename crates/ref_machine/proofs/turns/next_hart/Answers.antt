-- SPDX-License-Identifier: Apache-2.0
use Rattle.std.proofs.Common.{◌∙◌, sym}
use Rattle.sh_machines.specs.Pace.{live_from}
use Rattle.sh_machines.specs.Serial.{first_or}
use Rattle.ref_machine.specs.Meant.{threads_of}
use Rattle.ref_machine.proofs.Order.{least_or}
use Rattle.ref_machine.proofs.turns.next_hart.Goals as goal

pub returns-in-None-clause-is : goal.returns-in-None-clause-is
returns-in-None-clause-is c =
    let ns = live_from 0 (threads_of c.args.threads.now) in
    let r = c.live_from-in-None in
    c.unwrap_or.ensures ∙ least_or ns r.result r.ensures.found r.ensures.none ∙ sym (c.in-None.ensures.none (first_or 0 ns))
