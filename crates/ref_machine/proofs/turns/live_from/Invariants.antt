-- SPDX-License-Identifier: Apache-2.0
use Rattle.std.proofs.Common.{◌≡◌, ℕ}
use Rattle.ref_machine.proofs.Order.{least_from}
use Rattle.ref_machine.proofs.turns.live_from.Given as goal

abbrev pub invariant-loop-hart : goal.invariant-loop-hart
invariant-loop-hart l = (d : ℕ) → least_from l.low 0 l.threads d ≡ least_from l.low l.hart l.threads d
