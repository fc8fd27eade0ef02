-- SPDX-License-Identifier: Apache-2.0
use Rattle.pace_law.proofs.Journals.{on_legal, on_paced, on_few, on_done}
use Rattle.pace_law.proofs.lists.serial_orders_go_on.Goals as goal

pub returns : goal.returns
returns c =
    record {
      legal = λ o s es fi few l p f. on_legal o s (λ fs e. c.paced_events_are_allowed.ensures o s.period fs e fi) few es l p f;
      paced = λ o s es fi few l p f. on_paced o s (λ fs e. c.paced_events_are_allowed.ensures o s.period fs e fi) few es l p f;
      few = λ o s es fi few l p f. on_few o s (λ fs e. c.paced_events_are_allowed.ensures o s.period fs e fi) few es l p f;
      done = λ o s es fi few q l p f. on_done o s (λ fs e. c.paced_events_are_allowed.ensures o s.period fs e fi) few es l p f q;
    }
