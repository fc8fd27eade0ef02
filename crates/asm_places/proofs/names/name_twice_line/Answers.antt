-- SPDX-License-Identifier: Apache-2.0
use Rattle.std.proofs.Common.{◌∙◌, sym, [], false}
use Rattle.asm_places.specs.Names.{name_twice_line}
use Rattle.asm_places.proofs.Naming.{ends, ran_out}
use Rattle.asm_places.proofs.names.name_twice_line.Goals as goal

pub returns-then-not-fresh : goal.returns-then-not-fresh
returns-then-not-fresh c =
    ends c.loop-item.names c.loop-item.inside c.loop-item.functions c.args.items.now c.loop-item.item-index c.item-item.result (name_twice_line false 0 [] c.args.items.now)
    c.loop-item-test.true c.item-item.is (sym c.in_ok-fresh.ensures.fresh ∙ c.if-not-fresh.true) c.loop-item.invariant.held

pub returns : goal.returns
returns c =
    ran_out c.loop-item.names c.loop-item.inside c.loop-item.functions c.args.items.now c.loop-item.item-index (name_twice_line false 0 [] c.args.items.now) c.loop-item-test.false c.loop-item.invariant.held
