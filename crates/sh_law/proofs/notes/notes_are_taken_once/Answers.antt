-- SPDX-License-Identifier: Apache-2.0
use Rattle.sh_law.proofs.Noting.{turn_notes}
use Rattle.sh_law.proofs.notes.notes_are_taken_once.Goals as goal

pub returns : goal.returns
returns c = record { here = λ o k h m. (turn_notes o k h m).here; once = λ o k h m. (turn_notes o k h m).once }
