-- SPDX-License-Identifier: Apache-2.0
use Rattle.std.proofs.Common.{◌≡◌, List, ℕ, length, drop, ap, ◌∙◌, arith}
use Rattle.ref_machine.proofs.Replies.{read_is}
use Rattle.ref_machine.proofs.calls.read.Goals as goal

pub overflow_add-state : goal.overflow_add-state
overflow_add-state g c =
    let n : length c.unread.result.now ≡ length (drop c.args.state.now.read c.args.state.now.input) = ap length c.unread.ensures.rest ∙ ap (λ (v : List ℕ). length (drop c.args.state.now.read v)) c.as_slice.ensures in
    omega (arith, c.requires.can.few, c.unread.ensures.fits, n)

pub returns-clause-state : goal.returns-clause-state
returns-clause-state g c =
    let s = c.args.state.now in
    let x = g.M.Contents.contents c.args.memory.now in
    let y = g.M.Contents.contents c.fill.new.self in
    read_is s c.reply.new.state c.args.at c.args.address c.args.length c.args.thread x y c.unread.result.now c.lose.new.threads
    c.deref_mut.result.now c.lose.ensures c.deref_mut.ensures.value
    (c.unread.ensures.rest ∙ ap (drop s.read) c.as_slice.ensures)
    c.fill.ensures.contents (c.reply.ensures.state y)
