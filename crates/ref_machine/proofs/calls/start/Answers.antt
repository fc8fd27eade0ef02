-- SPDX-License-Identifier: Apache-2.0
use Rattle.std.proofs.Common.{◌∙◌}
use Rattle.ref_machine.proofs.Replies.{started}
use Rattle.ref_machine.proofs.calls.start.Goals as goal

pub returns-clause-state : goal.returns-clause-state
returns-clause-state c =
    λ u a0 sp tp e. started c.args.state.now c.reply.new.state c.args.at c.from.result c.len-number.result c.args.func a0 sp tp c.args.thread c.args.regs u c.push_reserved.new.self.items c.push_reserved.ensures.items c.from.ensures (c.len-number.ensures ∙ c.args.state.now.threads.ok.0) e (c.reply.ensures.state u)
