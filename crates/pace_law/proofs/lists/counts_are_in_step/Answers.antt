-- SPDX-License-Identifier: Apache-2.0
use Rattle.pace_law.proofs.Journals.{steps_keep}
use Rattle.pace_law.proofs.lists.counts_are_in_step.Goals as goal

pub returns : goal.returns
returns c = λ o period es fi l p. steps_keep o period (λ fs e. c.paced_events_are_allowed.ensures o period fs e fi) es l p
