-- SPDX-License-Identifier: Apache-2.0
use Rattle.std.proofs.Common.{◌∙◌, ◌+◌, ◌++◌, [], List, ℕ, ap, arith}
use Rattle.std.specs.Prelude.{unwrap_or}
use Rattle.sh_machines.specs.Memory.{bytes_from}
use Rattle.plain_memory.specs.Access.{plain_in}
use Rattle.plain_memory.specs.Plain.{contents_of}
use Rattle.plain_memory.proofs.Accesses.{plain}
use Rattle.plain_memory.proofs.Spans.{byte_taken, rest_next, rest_last, rest_none}
use Rattle.plain_memory.proofs.memory.PlainMemory.append_to.Goals as goal

pub returns-then-length-eq0-clause-ok : goal.returns-then-length-eq0-clause-ok
returns-then-length-eq0-clause-ok c = rest_none (plain_in (contents_of c.args.self.now)) c.args.address c.args.length c.args.output.now.items c.if-length-eq0.true

pub loop-k-preserved : goal.loop-k-preserved
loop-k-preserved c =
    let some = rw (← c.self.view_is) at c.requires.plain in
    let e = byte_taken (plain c.self.inside.areas c.self.inside.returns) c.args.address c.args.length c.loop-k.k c.byte.result c.loop-k-test.true some c.byte.ensures.part in
    let inv = rw (← c.self.view_is) at c.loop-k.invariant.rest in
    let r = rest_next (plain_in (contents_of (plain c.self.inside.areas c.self.inside.returns))) c.args.address c.args.length c.loop-k.k c.reserve.new.self.items c.loop-k.output.items c.byte.result inv c.loop-k-test.true e in
    record {
      rest = rw (← c.self.view_is, c.push_reserved.ensures.items) r;
      room = omega (arith, c.loop-k.invariant.room, c.push_reserved.ensures.len, c.push_reserved.ensures.capacity, c.loop-k-test.true);
    }

pub returns-clause-ok : goal.returns-clause-ok
returns-clause-ok c =
    rest_last (plain_in (contents_of c.args.self.now)) c.args.address c.args.length c.loop-k.k c.reserve.new.self.items c.loop-k.output.items c.loop-k.invariant.rest c.loop-k-test.false
    ∙ ap (λ (l : List ℕ). l ++ unwrap_or (bytes_from (plain_in (contents_of c.args.self.now)) c.args.address c.args.length) []) c.in_ok-reserve.ensures.items
