-- SPDX-License-Identifier: Apache-2.0
use Rattle.std.proofs.Common.{◌≡◌, length, drop, ap, arith}
use Rattle.hart_turns.proofs.calls.read.Goals as goal

pub overflow_add-state : goal.overflow_add-state
overflow_add-state c =
    let n : length c.unread.result.now ≡ length (drop c.args.state.now.read c.args.code.now.input.now) = ap length c.unread.ensures.rest in
    omega (arith, c.requires.can.few, c.unread.ensures.fits, n)
