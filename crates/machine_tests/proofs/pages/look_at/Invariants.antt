-- SPDX-License-Identifier: Apache-2.0
use Rattle.machine_tests.proofs.pages.look_at.Given as goal

abbrev pub ghosts-look : goal.ghosts-look
ghosts-look a = record { name = a.blank.name; parts = a.blank.parts }
