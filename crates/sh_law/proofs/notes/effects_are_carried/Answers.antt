-- SPDX-License-Identifier: Apache-2.0
use Rattle.sh_law.proofs.Ciphers.{is_cipher}
use Rattle.sh_law.proofs.Committing.{effects_done, carried as carried_on}
use Rattle.sh_law.proofs.notes.effects_are_carried.Goals as goal

pub returns : goal.returns
returns c = record { here = effects_done is_cipher; carried = carried_on is_cipher c.instructions_see_one_word.ensures }
