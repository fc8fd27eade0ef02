-- SPDX-License-Identifier: Apache-2.0
use Rattle.std.proofs.Common.{◌+◌, ◌∙◌, sym, arith}
use Rattle.guest_mem.proofs.Near.{near_same}
use Rattle.guest_mem.proofs.neighbours.near.Goals as goal

pub returns-clause-same : goal.returns-clause-same
returns-clause-same c =
    λ w r g t. near_same c.args.regions.now c.args.at c.saturating_sub-from.result (c.args.at + c.min.result) w r (sym c.requires.rising ∙ c.if-not-rising.false) (omega arith) (omega arith) (λ l. omega (arith, l)) g t
