-- SPDX-License-Identifier: Apache-2.0
use Rattle.std.proofs.Common.{◌≡◌, ◌+◌, ◌*◌, ◌^◌, ◌≤◌, drop}
use Rattle.std.specs.List.{sum}
use Rattle.period_report.proofs.sizes.total.Given as goal

abbrev pub invariant-loop-size : goal.invariant-loop-size
invariant-loop-size l =
    record {
      sum : l.bytes + sum (drop l.size-index l.sizes) ≡ sum l.sizes;
      small : l.bytes ≤ l.size-index * (2 ^ 32);
    }
