-- SPDX-License-Identifier: Apache-2.0
use Rattle.cli_words.proofs.Ranging.{command_ranged}
use Rattle.cli_words.proofs.laws.numbers_are_in_range.Goals as goal

pub returns : goal.returns
returns c words command is = command_ranged words command is
