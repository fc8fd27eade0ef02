-- SPDX-License-Identifier: Apache-2.0
use Rattle.std.proofs.Common.{◌≤◌, ◌+◌, ◌<◌, subst, refl, length, arith}
use Rattle.sh_types.specs.declared.code.Region.{Region}
use Rattle.plain_memory.proofs.Places.{placed_at, other_read, set_laid, set_puts}
use Rattle.plain_memory.proofs.Words.{stores_is}
use Rattle.plain_memory.proofs.areas.Areas.store_near.Goals as goal

pub put-requires-clause-full : goal.put-requires-clause-full
put-requires-clause-full c =
    let l : c.hint-index.result < length c.self.inside.areas.items = omega (arith, c.if-index-len.false, c.len.ensures) in
    (placed_at 0 c.self.inside.areas.items c.hint-index.result c.index_mut.result.now c.self.invariant l c.index_mut.ensures.value).full

pub invariant_of-self : goal.invariant_of-self
invariant_of-self c =
    let l : c.hint-index.result < length c.self.inside.areas.items = omega (arith, c.if-index-len.false, c.len.ensures) in
    set_laid 0 c.self.inside.areas.items c.hint-index.result c.index_mut.result.now c.put.new.self c.self.invariant l c.index_mut.ensures.value c.put.ensures.bare c.put.ensures.length c.put.ensures.small

pub returns-clause-done : goal.returns-clause-done
returns-clause-done c =
    let l : c.hint-index.result < length c.self.inside.areas.items = omega (arith, c.if-index-len.false, c.len.ensures) in
    let e = other_read c.self.inside.areas.items c.hint-index.result c.index.result.now c.index_mut.result.now l c.index.ensures c.index_mut.ensures.value in
    let s : c.index_mut.result.now.start ≤ c.args.address = subst (λ (r : Region). r.start ≤ c.args.address) e (c.if-not-serves.ensures.start refl) in
    let t : c.args.address + c.args.width ≤ c.index_mut.result.now.end = subst (λ (r : Region). c.args.address + c.args.width ≤ r.end) e (c.if-not-serves.ensures.end refl) in
    λ done.
    rw (← c.self.view_is)
    (stores_is c.self.inside.areas.items _ c.args.address c.args.width c.args.value c.self.invariant c.requires.width c.requires.aligned
    (set_puts c.self.inside.areas.items c.hint-index.result c.index_mut.result.now c.put.new.self c.args.address c.args.width _ c.self.invariant l c.index_mut.ensures.value c.put.ensures.bare c.put.ensures.length c.put.ensures.small s t c.put.ensures.puts))
