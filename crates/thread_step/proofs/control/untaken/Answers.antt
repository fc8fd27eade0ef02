-- SPDX-License-Identifier: Apache-2.0
use Rattle.std.proofs.Common.{sym, ◌∙◌}
use Rattle.thread_step.proofs.Acting.{leak_alone, pass_alone}
use Rattle.thread_step.proofs.control.untaken.Goals as goal

pub returns-then-leaks : goal.returns-then-leaks
returns-then-leaks c = λ to. leak_alone c.args.thread.now c.args.instr to (sym c.leaks.ensures ∙ c.if-leaks.true)

pub returns : goal.returns
returns c = λ to. pass_alone c.args.thread.now _ c.args.instr to _ (sym c.leaks.ensures ∙ c.if-leaks.false) c.requires.other c.passes.ensures
