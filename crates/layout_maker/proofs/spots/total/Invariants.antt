-- SPDX-License-Identifier: Apache-2.0
use Rattle.std.proofs.Common.{◌≡◌, ◌+◌, ◌*◌, ◌^◌, ◌≤◌, drop}
use Rattle.sh_types.specs.Sized.{total}
use Rattle.layout_maker.proofs.spots.total.Given as goal

abbrev pub invariant-loop-size : goal.invariant-loop-size
invariant-loop-size l =
    record {
      sum : l.sum + total (drop l.size-index l.sizes) ≡ total l.sizes;
      small : l.sum ≤ l.size-index * (2 ^ 33);
    }
