-- SPDX-License-Identifier: Apache-2.0
use Rattle.std.proofs.Common.{◌≡◌, ◌+◌, ◌∙◌, None, refl, sym, subst, arith}
use Rattle.sh_machines.specs.Unmoved.{Content, Thread, Unmoved}
use Rattle.thread_acts.specs.Done.{meant}
use Rattle.thread_acts.specs.declared.answers.Did.TheVariants.{Went}
use Rattle.ref_machine.specs.Meant.{IsMapped}
use Rattle.ref_machine.specs.Next.{IsAlone}
use Rattle.ref_machine.proofs.Alone.{alone_first, alone_more}
use Rattle.ref_machine.proofs.Same.{done_is}
use Rattle.ref_machine.proofs.stepping.go_alone.Goals.{then-not-quick_step+in_ok-did+else-not-goes_alone, else-not-quick_step}
use Rattle.ref_machine.proofs.stepping.go_alone.Goals as goal

pub loop-count-init : goal.loop-count-init
loop-count-init g c =
    record {
      alone = λ n u a. alone_first c.args.code.now n c.args.limit c.args.count.now c.args.watched u (meant c.args.thread.now) (g.M.Contents.contents c.args.memory.now) a c.requires.count;
      few = c.requires.count;
      regions = refl;
    }

pub loop-count-preserved : goal.loop-count-preserved
loop-count-preserved g c =
    let i = c.args.code.now in
    let v = c.loop-count.invariant in
    let x = g.M.Contents.contents c.loop-count.memory in
    let im = subst (IsMapped i) (sym v.regions) c.requires.mapped in
    elim c.if-not-quick_step.branch [
      | then-not-quick_step+in_ok-did+else-not-goes_alone w ↦ (let t = c.quick_step.new.thread in
          let d = done_is i (g.M.Contents.regions c.loop-count.memory) t w.step.new.thread x (g.M.Contents.contents w.step.new.memory) w.in_ok-did.did im w.in_ok-did.ensures.done in
          record {
            alone = λ n u a.
                subst (λ z. IsAlone i n c.args.limit c.args.count.now (c.loop-count.count + 1) u (meant z) (g.M.Contents.contents c.if-not-quick_step.memory)) (sym w.thread-is)
                (subst (λ m. IsAlone i n c.args.limit c.args.count.now (c.loop-count.count + 1) u (meant w.step.new.thread) (g.M.Contents.contents m)) (sym w.memory-is)
                (alone_more i n c.args.limit c.args.count.now c.loop-count.count c.args.watched u (meant c.args.thread.now) (meant t) (meant w.step.new.thread) (g.M.Contents.contents c.args.memory.now) x (g.M.Contents.contents w.step.new.memory) w.in_ok-did.did _ a
                (subst (λ z. IsAlone i n c.args.limit c.args.count.now c.loop-count.count u (meant z) x) (sym w.if-not-quick_step.ensures.stays) (v.alone n u a))
                c.loop-count-test.true refl d.did_is d.thread d.contents (sym w.goes_alone.ensures ∙ w.if-not-goes_alone.false)));
            few = omega (arith, c.loop-count-test.true);
            regions = subst (λ m. g.M.Contents.regions m ≡ g.M.Contents.regions c.args.memory.now) (sym w.memory-is) (w.in_ok-did.ensures.regions ∙ v.regions);
          })
      | else-not-quick_step w ↦ (let t = c.loop-count.thread in
          let d = done_is i (g.M.Contents.regions c.loop-count.memory) t c.quick_step.new.thread x x (Went None) im w.if-not-quick_step.ensures.went in
          record {
            alone = λ n u a.
                subst (λ z. IsAlone i n c.args.limit c.args.count.now (c.loop-count.count + 1) u (meant z) (g.M.Contents.contents c.if-not-quick_step.memory)) (sym w.thread-is)
                (subst (λ m. IsAlone i n c.args.limit c.args.count.now (c.loop-count.count + 1) u (meant c.quick_step.new.thread) (g.M.Contents.contents m)) (sym w.memory-is)
                (alone_more i n c.args.limit c.args.count.now c.loop-count.count c.args.watched u (meant c.args.thread.now) (meant t) (meant c.quick_step.new.thread) (g.M.Contents.contents c.args.memory.now) x x (Went None) _ a (v.alone n u a)
                c.loop-count-test.true refl d.did_is d.thread d.contents refl));
            few = omega (arith, c.loop-count-test.true);
            regions = subst (λ m. g.M.Contents.regions m ≡ g.M.Contents.regions c.args.memory.now) (sym w.memory-is) v.regions;
          })
    ]

pub returns-then-not-goes_alone-clause-pauses : goal.returns-then-not-goes_alone-clause-pauses
returns-then-not-goes_alone-clause-pauses g c =
    let i = c.args.code.now in
    let v = c.loop-count.invariant in
    let t = c.quick_step.new.thread in
    let x = g.M.Contents.contents c.loop-count.memory in
    let im = subst (IsMapped i) (sym v.regions) c.requires.mapped in
    let d = done_is i (g.M.Contents.regions c.loop-count.memory) t c.step.new.thread x (g.M.Contents.contents c.step.new.memory) c.in_ok-did.did im c.in_ok-did.ensures.done in
    λ n u a. record {
      before = meant t;
      words = x;
      alone = subst (λ z. IsAlone i n c.args.limit c.args.count.now c.loop-count.count u (meant z) x) (sym c.if-not-quick_step.ensures.stays) (v.alone n u a);
      less = c.loop-count-test.true;
      did_is = d.did_is;
      thread = d.thread;
      contents = d.contents;
    }
