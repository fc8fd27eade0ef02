-- SPDX-License-Identifier: Apache-2.0
use Rattle.hart_runner.proofs.serial.run_new.Given as goal

abbrev pub ghosts-run_counted : goal.ghosts-run_counted
ghosts-run_counted a = record { name = a.blank.name; parts = a.blank.parts }
