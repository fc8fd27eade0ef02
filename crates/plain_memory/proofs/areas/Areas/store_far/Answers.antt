-- SPDX-License-Identifier: Apache-2.0
use Rattle.std.proofs.Common.{◌≡◌, ◌≤◌, ℕ, length, take, length-take-le, get_or-take, arith}
use Rattle.plain_memory.proofs.Stretches.{written_in}
use Rattle.plain_memory.proofs.Words.{width_most, bytes_number_put, stores_is}
use Rattle.plain_memory.proofs.areas.Areas.store_far.Goals as goal

pub put_all-requires : goal.put_all-requires
put_all-requires c =
    let small : c.args.width ≤ 8 = width_most c.args.width c.requires.width in
    let len : length (take c.args.width c.put_at.new.bytes) ≡ c.args.width = length-take-le c.args.width c.put_at.new.bytes (omega (arith, small, c.put_at.auto.bytes)) in
    λ k l. written_in c.args.self.now c.args.address c.args.width k c.requires.writable (omega (arith, len, l))

pub returns : goal.returns
returns c =
    let small : c.args.width ≤ 8 = width_most c.args.width c.requires.width in
    let len : length (take c.args.width c.put_at.new.bytes) ≡ c.args.width = length-take-le c.args.width c.put_at.new.bytes (omega (arith, small, c.put_at.auto.bytes)) in
    stores_is c.args.self.now c.put_all.new.self c.args.address c.args.width c.args.value c.laid.ensures c.requires.width c.requires.aligned
    (bytes_number_put c.args.self.now c.put_all.new.self c.args.address c.args.width _ (take c.args.width c.put_at.new.bytes) c.put_at.new.bytes c.put_all.ensures len (λ k l. get_or-take c.args.width c.put_at.new.bytes k 0 l) c.put_at.ensures.puts.number)
