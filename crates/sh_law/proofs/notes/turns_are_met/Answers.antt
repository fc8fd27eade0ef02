-- SPDX-License-Identifier: Apache-2.0
use Rattle.sh_law.proofs.Ahead.{tries_notes, adder_notes}
use Rattle.sh_law.proofs.notes.turns_are_met.Goals as goal

pub returns : goal.returns
returns c = record { tries = tries_notes; adds = adder_notes }
