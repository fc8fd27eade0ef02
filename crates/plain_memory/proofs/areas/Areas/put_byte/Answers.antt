-- SPDX-License-Identifier: Apache-2.0
use Rattle.std.proofs.Common.{◌≡◌, ◌*◌, ◌%◌, ◌^◌, arith}
use Rattle.plain_memory.proofs.Places.{found_at, from_start, to_end, placed_at, set_laid, set_puts, in_low}
use Rattle.plain_memory.proofs.areas.Areas.put_byte.Goals as goal

pub put-requires-clause-full : goal.put-requires-clause-full
put-requires-clause-full c =
    let h = rw (← c.self.view_is) at c.in-Some.ensures.some in
    (placed_at 0 c.self.inside.areas.items c.in-Some.index c.index_mut.result.now c.self.invariant h.0 c.index_mut.ensures.value).full

pub invariant_of-self : goal.invariant_of-self
invariant_of-self c =
    let h = rw (← c.self.view_is) at c.in-Some.ensures.some in
    set_laid 0 c.self.inside.areas.items c.in-Some.index c.index_mut.result.now c.put.new.self c.self.invariant h.0 c.index_mut.ensures.value c.put.ensures.bare c.put.ensures.length c.put.ensures.small

pub returns-clause-puts : goal.returns-clause-puts
returns-clause-puts c =
    let h = rw (← c.self.view_is) at c.in-Some.ensures.some in
    let i = found_at c.self.inside.areas.items c.in-Some.index c.args.address c.index_mut.result.now h c.index_mut.ensures.value in
    let v : c.from.result % 2 ^ (8 * 1) ≡ c.args.byte = omega (arith, c.from.ensures) in
    let p = rw v at c.put.ensures.puts in
    rw (← c.self.view_is)
    (set_puts c.self.inside.areas.items c.in-Some.index c.index_mut.result.now c.put.new.self c.args.address 1 c.args.byte c.self.invariant h.0 c.index_mut.ensures.value c.put.ensures.bare c.put.ensures.length c.put.ensures.small
    (from_start c.index_mut.result.now c.args.address i) (omega (arith, to_end c.index_mut.result.now c.args.address i)) p)

pub returns-clause-low : goal.returns-clause-low
returns-clause-low c =
    let h = rw (← c.self.view_is) at c.requires in
    in_low 0 c.self.inside.areas.items c.args.address c.self.invariant h
