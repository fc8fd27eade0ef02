-- SPDX-License-Identifier: Apache-2.0
use Rattle.cli_rows.proofs.Dues.{due_said}
use Rattle.cli_rows.proofs.laws.dues_are_said.Goals as goal

pub returns : goal.returns
returns c command seed loads due is = due_said command seed loads due is
