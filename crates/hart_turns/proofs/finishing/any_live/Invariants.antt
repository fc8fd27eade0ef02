-- SPDX-License-Identifier: Apache-2.0
use Rattle.std.proofs.Common.{◌≡◌, drop}
use Rattle.sh_machines.specs.Shuffled.{any_live}
use Rattle.hart_turns.proofs.finishing.any_live.Given as goal

abbrev pub invariant-loop-hart : goal.invariant-loop-hart
invariant-loop-hart l = any_live (drop l.hart-index l.harts) ≡ any_live l.harts
