-- SPDX-License-Identifier: Apache-2.0
use Rattle.std.proofs.Common.{◌∙◌, ◌≡◌, ◌-◌, ◌≤◌, ap, sym, arith}
use Rattle.sh_machines.specs.Memory.{each_from}
use Rattle.plain_memory.proofs.Stretches.{test_of, allows_is, each_true, each_false, covers_next}
use Rattle.plain_memory.proofs.areas.Areas.covers.Goals as goal

pub returns-then-here-eq0-clause-is : goal.returns-then-here-eq0-clause-is
returns-then-here-eq0-clause-is c =
    sym (allows_is c.args.writes c.args.self.now c.args.address c.args.length ∙ sym c.loop-left.invariant.rest
    ∙ each_false (test_of c.args.writes c.args.self.now) c.loop-left.at c.loop-left.left c.loop-left.at (omega arith) (omega (arith, c.loop-left-test.true)) (c.usable_from-here.ensures.none c.if-here-eq0.true))

pub returns-then-left-here-clause-is : goal.returns-then-left-here-clause-is
returns-then-left-here-clause-is c =
    sym (allows_is c.args.writes c.args.self.now c.args.address c.args.length ∙ sym c.loop-left.invariant.rest
    ∙ each_true (test_of c.args.writes c.args.self.now) c.loop-left.at c.loop-left.left (λ b l m. c.usable_from-here.ensures.each b l (omega (arith, m, c.if-left-here.true))))

pub loop-left-preserved : goal.loop-left-preserved
loop-left-preserved c =
    let le : c.usable_from-here.result ≤ c.loop-left.left = omega (arith, c.if-left-here.false) in
    record {
      rest = covers_next (test_of c.args.writes c.args.self.now) c.loop-left.at c.loop-left.left c.usable_from-here.result le c.usable_from-here.ensures.each ∙ c.loop-left.invariant.rest;
      end = omega (arith, c.loop-left.invariant.end, le);
      some = λ p. omega (arith, c.if-left-here.false);
    }

pub returns-clause-is : goal.returns-clause-is
unfolding each_from
returns-clause-is c =
    let z : c.loop-left.left ≡ 0 = omega (arith, c.loop-left-test.false) in
    sym (allows_is c.args.writes c.args.self.now c.args.address c.args.length ∙ sym c.loop-left.invariant.rest ∙ ap (each_from (test_of c.args.writes c.args.self.now) c.loop-left.at) z)
