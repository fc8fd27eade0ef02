-- SPDX-License-Identifier: Apache-2.0
use Rattle.shuf_cli.proofs.Answers.{answer_said}
use Rattle.shuf_cli.proofs.laws.answers_are_said.Goals as goal

pub returns : goal.returns
returns c command seed w done a = answer_said command seed w done a
