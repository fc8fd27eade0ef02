-- SPDX-License-Identifier: Apache-2.0
use Rattle.pace_law.proofs.Journals.{list_legal}
use Rattle.pace_law.proofs.lists.serial_lists_are_legal.Goals as goal

pub returns : goal.returns
returns c = λ o s fi l. list_legal o s (λ es e. c.paced_events_are_allowed.ensures o s.period es e fi) l
