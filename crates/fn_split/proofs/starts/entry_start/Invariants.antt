-- SPDX-License-Identifier: Apache-2.0
use Rattle.std.proofs.Common.{◌≡◌, drop}
use Rattle.std.specs.Prelude.{find, IsTrue}
use Rattle.std.specs.List.{list_any}
use Rattle.elf_rules.specs.ElfRules as rules
use Rattle.fn_split.proofs.starts.entry_start.Given as goal

abbrev pub invariant-loop-section : goal.invariant-loop-section
invariant-loop-section l = record { rest : find (rules.runs_at l.entry) (drop l.section-index l.sections) ≡ find (rules.runs_at l.entry) l.sections; some : IsTrue (list_any (rules.runs_at l.entry) (drop l.section-index l.sections)) }
