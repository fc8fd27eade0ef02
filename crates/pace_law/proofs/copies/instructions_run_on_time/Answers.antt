-- SPDX-License-Identifier: Apache-2.0
use Rattle.pace_law.proofs.OnTime.{on_time}
use Rattle.pace_law.proofs.copies.instructions_run_on_time.Goals as goal

pub returns : goal.returns
returns c = λ o period before after n k m fi some l p lt. on_time o period some (λ es. c.counts_are_in_step.ensures o period es fi) (λ es. c.paced_harts_are_on_the_newest.ensures.stands o period es fi) before after n k m l p lt
