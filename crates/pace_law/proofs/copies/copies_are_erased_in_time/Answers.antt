-- SPDX-License-Identifier: Apache-2.0
use Rattle.pace_law.proofs.OnTime.{wiped_before, published_at}
use Rattle.pace_law.proofs.copies.copies_are_erased_in_time.Goals as goal

pub returns : goal.returns
returns c =
    record {
      last = λ o before after k some l. wiped_before o before after k (c.erased_copies_are_zero.ensures.last o) some l;
      zero = c.erased_copies_are_zero.ensures.zero;
      count = λ o period before after k l p. published_at o period before after k (c.instructions_are_counted.ensures.count o before) l p;
    }
