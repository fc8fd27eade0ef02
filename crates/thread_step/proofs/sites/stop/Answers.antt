-- SPDX-License-Identifier: Apache-2.0
use Rattle.std.proofs.Common.{sym}
use Rattle.thread_step.proofs.Grouping.{breaks_kind, stops_kind}
use Rattle.thread_step.proofs.sites.stop.Goals as goal

pub returns-in-Ebreak-clause-kind : goal.returns-in-Ebreak-clause-kind
returns-in-Ebreak-clause-kind c = λ image p. sym (breaks_kind c.args.instr c.in-Ebreak.is)

pub returns-in_default-clause-kind : goal.returns-in_default-clause-kind
returns-in_default-clause-kind c = λ image p. sym (stops_kind c.args.instr c.in_default.not-Ebreak)
