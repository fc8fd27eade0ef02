-- SPDX-License-Identifier: Apache-2.0
use Rattle.sh_law.proofs.Noting.{notes_same, effects_same}
use Rattle.sh_law.proofs.notes.turns_see_what_they_note.Goals as goal

pub returns : goal.returns
returns c = record { notes = notes_same c.instructions_see_one_word.ensures; effects = effects_same c.instructions_see_one_word.ensures }
