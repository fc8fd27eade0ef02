-- SPDX-License-Identifier: Apache-2.0
use Rattle.std.proofs.Common.{◌∙◌, ◌+◌, ◌++◌, ◌∷◌, [], List, ℕ, sym, ap, subst, arith}
use Rattle.std.specs.Prelude.{unwrap_or}
use Rattle.sh_machines.specs.Memory.{bytes_from}
use Rattle.guest_mem.specs.Held.{words_of, plain_of, regions_of}
use Rattle.hart_turns.proofs.Bytes.{IsRest, byte_is, readable_at, rest_next, rest_last, rest_none}
use Rattle.hart_turns.proofs.transfers.append.Goals as goal

pub loop-k-preserved : goal.loop-k-preserved
loop-k-preserved c =
    let m = words_of c.args.memory.now in
    let e = byte_is m c.args.address c.args.length c.loop-k.k _ c.byte.result c.loop-k-test.true c.requires.plain (readable_at (regions_of c.args.memory.now) c.args.address c.args.length c.loop-k.k c.loop-k-test.true c.requires.readable) c.byte.ensures in
    let r = rest_next (plain_of c.args.memory.now) c.args.address c.args.length c.loop-k.k c.reserve.new.self.items c.loop-k.output.items c.byte.result c.loop-k.invariant.rest c.loop-k-test.true e in
    record {
      rest = subst (λ (l : List ℕ). IsRest (plain_of c.args.memory.now) c.args.address c.args.length (c.loop-k.k + 1) c.reserve.new.self.items l) (ap (λ x. c.loop-k.output.items ++ x ∷ []) (sym c.unwrap_or-byte.ensures) ∙ sym c.push_reserved.ensures.items) r;
      room = omega (arith, c.loop-k.invariant.room, c.push_reserved.ensures.len, c.push_reserved.ensures.capacity, c.loop-k-test.true);
    }

pub returns-clause-ok : goal.returns-clause-ok
returns-clause-ok c =
    rest_last (plain_of c.args.memory.now) c.args.address c.args.length c.loop-k.k c.reserve.new.self.items c.loop-k.output.items c.loop-k.invariant.rest c.loop-k-test.false
    ∙ ap (λ (l : List ℕ). l ++ unwrap_or (bytes_from (plain_of c.args.memory.now) c.args.address c.args.length) []) c.in_ok-reserve.ensures.items

pub returns-then-length-eq0-clause-ok : goal.returns-then-length-eq0-clause-ok
returns-then-length-eq0-clause-ok c = rest_none (plain_of c.args.memory.now) c.args.address c.args.length c.args.output.now.items c.if-length-eq0.true
