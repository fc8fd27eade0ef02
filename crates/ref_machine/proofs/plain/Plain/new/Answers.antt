-- SPDX-License-Identifier: Apache-2.0
use Rattle.ref_machine.proofs.Opening.{plain_opens, opens_so}
use Rattle.ref_machine.proofs.plain.Plain.new.Goals as goal

pub invariant_of-result : goal.invariant_of-result
invariant_of-result c =
    plain_opens c.args.image c.in_ok-code.code c.args.input c.in_ok-state.state c.in_ok-memory.memory c.in_ok-code.ensures c.requires.fine c.requires.sized c.requires.worded c.in_ok-state.ensures.opening c.in_ok-state.ensures.room c.in_ok-memory.ensures.contents (record { reads = c.in_ok-memory.ensures.readable; writes = c.in_ok-memory.ensures.writable })

pub returns : goal.returns
returns c = opens_so c.args.image c.in_ok-code.code c.args.input c.in_ok-state.state c.in_ok-memory.memory c.in_ok-code.ensures c.in_ok-state.ensures.opening c.in_ok-memory.ensures.contents
