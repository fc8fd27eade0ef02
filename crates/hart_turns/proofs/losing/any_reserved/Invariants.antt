-- SPDX-License-Identifier: Apache-2.0
use Rattle.std.proofs.Common.{◌≡◌, drop}
use Rattle.hart_turns.specs.Next.{any_reserved}
use Rattle.hart_turns.proofs.losing.any_reserved.Given as goal

abbrev pub invariant-loop-hart : goal.invariant-loop-hart
invariant-loop-hart l = any_reserved l.at (drop l.hart-index l.harts) ≡ any_reserved l.at l.harts
