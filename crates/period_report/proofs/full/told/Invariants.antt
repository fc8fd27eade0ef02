-- SPDX-License-Identifier: Apache-2.0
use Rattle.period_report.proofs.full.told.Given as goal

abbrev pub ghosts-replay : goal.ghosts-replay
ghosts-replay a = record { name = a.blank.name; parts = a.blank.parts }
