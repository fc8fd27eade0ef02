-- SPDX-License-Identifier: Apache-2.0
use Rattle.std.proofs.Common.{◌≡◌, ℕ, ◌-◌, List, take, drop, IfOk, subst, arith}
use Rattle.std.specs.List.Sorted.{IsNonDecreasingBy}
use Rattle.elf_rules.specs.Elf.{name_at}
use Rattle.elf_symbols.specs.Zeros.{zeros_from}
use Rattle.elf_symbols.proofs.Naming.{rising, first_above, first_within, name_is}
use Rattle.elf_symbols.proofs.strings.Names.name.Goals as goal

pub first_zero-end-requires : goal.first_zero-end-requires
first_zero-end-requires c =
    let e : zeros_from 0 c.self.inside.table ≡ c.deref.result.now = cc (c.self.invariant.1, c.deref.ensures.value) in
    subst (λ (zs : List ℕ). IsNonDecreasingBy (λ (n : ℕ). n) zs) e (rising c.self.inside.table 0)

pub name-requires-clause-order : goal.name-requires-clause-order
name-requires-clause-order c =
    rw c.first_zero-end.ensures (first_above c.deref.result.now c.min-start.result c.self.inside.size (omega arith))

pub name-requires-clause-inside : goal.name-requires-clause-inside
name-requires-clause-inside c =
    let e : zeros_from 0 c.self.inside.table ≡ c.deref.result.now = cc (c.self.invariant.1, c.deref.ensures.value) in
    let h = first_within c.self.inside.table 0 c.min-start.result c.self.inside.size (omega arith) in
    omega (arith, c.first_zero-end.ensures, rw e at h)

pub returns : goal.returns
returns c =
    let e : take (c.first_zero-end.result - c.min-start.result) (drop c.min-start.result c.self.inside.table) ≡ name_at c.args.self.now c.args.place =
    cc (name_is c.self.inside.table c.args.place, c.self.invariant.0, c.self.invariant.1, c.deref.ensures.value, c.first_zero-end.ensures, c.min-start.ensures, c.self.view_is) in
    subst (λ (name : List ℕ). IfOk c.name.result (λ n. n ≡ name)) e c.name.ensures
