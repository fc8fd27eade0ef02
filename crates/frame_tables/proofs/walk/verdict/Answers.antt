-- SPDX-License-Identifier: Apache-2.0
use Rattle.std.proofs.Common.{None, ◌∙◌}
use Rattle.std.specs.Prelude.{slice_index_or}
use Rattle.frame_tables.specs.Body.{meant}
use Rattle.frame_tables.proofs.Verdicts.{verdict_is}
use Rattle.frame_tables.proofs.walk.verdict.Goals as goal

pub returns : goal.returns
returns c =
    c.state_after.ensures ∙ verdict_is (meant c.args.body.now) c.args.at c.args.state c.args.body.now.own.now c.is_empty.result c.decode.result (slice_index_or c.args.body.now.operands.now c.args.at None) c.requires.body.own c.is_empty.ensures c.decode.ensures.exact (c.requires.body.each c.args.at c.requires.at)
