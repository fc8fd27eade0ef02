-- SPDX-License-Identifier: Apache-2.0
use Rattle.ref_machine.proofs.Replies.{replied}
use Rattle.ref_machine.proofs.calls.reply.Goals as goal

pub returns-clause-state : goal.returns-clause-state
returns-clause-state c = λ u. replied c.args.state.now c.args.at c.args.value c.args.thread u c.requires.end
