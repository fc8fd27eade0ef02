-- SPDX-License-Identifier: Apache-2.0
use Rattle.shuf_machine.proofs.returns.live_words.Given as goal

abbrev pub ghosts-find_slots : goal.ghosts-find_slots
ghosts-find_slots a = record { name = a.blank.name; parts = a.blank.parts }
