-- SPDX-License-Identifier: Apache-2.0
use Rattle.std.proofs.Common.{◌≡◌, ◌++◌, take, drop}
use Rattle.std.specs.Prelude.{map}
use Rattle.sh_machines.specs.Shuffled.{hart_loses}
use Rattle.hart_turns.proofs.losing.lose.Given as goal

abbrev pub invariant-loop-hart : goal.invariant-loop-hart
invariant-loop-hart l = take l.hart-index l.harts ++ map (hart_loses l.at l.stored) (drop l.hart-index l.harts) ≡ map (hart_loses l.at l.stored) l.fn.harts
