-- SPDX-License-Identifier: Apache-2.0
use Rattle.std.proofs.Common.{◌≢◌, ◌∙◌, ◌+◌, ◌<◌, ◌≤◌, ap, below_more, get_or-set_other, get_or-set_same, length, length-set, arith}
use Rattle.sh_machines.specs.Memory.{first_byte}
use Rattle.plain_memory.proofs.Words.{width_most}
use Rattle.plain_memory.proofs.areas.Areas.gather.Goals as goal

pub loop-k-preserved : goal.loop-k-preserved
loop-k-preserved c =
    let small : c.args.width ≤ 8 = width_most c.args.width c.requires.width in
    let lt : c.loop-k.k < length c.loop-k.buffer = omega (arith, small, c.loop-k-test.true, c.loop-k.invariant.room) in
    record {
      bytes =
          below_more _ _
          (λ j h. let ne : j ≢ c.loop-k.k = omega arith in get_or-set_other c.loop-k.buffer c.loop-k.k j c.byte.result 0 ne ∙ c.loop-k.invariant.bytes j h)
          (get_or-set_same c.loop-k.buffer c.loop-k.k c.byte.result 0 lt ∙ c.byte.ensures.is ∙ ap (λ x. first_byte c.args.self.now (c.args.address + x)) c.from.ensures);
      room = length-set c.loop-k.buffer c.loop-k.k c.byte.result ∙ c.loop-k.invariant.room;
    }
