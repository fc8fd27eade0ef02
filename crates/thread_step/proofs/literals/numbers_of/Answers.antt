-- SPDX-License-Identifier: Apache-2.0
use Rattle.std.proofs.Common.{◌≡◌, ◌/◌, ◌+◌, ap, arith, subst, sym, ◌∙◌}
use Rattle.std.specs.Prelude.{slice_index, if◌then◌else◌}
use Rattle.sh_machines.specs.Copy.{literal_number}
use Rattle.sh_types.specs.Image.{sizes_of}
use Rattle.thread_step.specs.Numbered.{AreNumbers}
use Rattle.thread_step.proofs.Numbering.{below_next, number_first, number_next, number_small, numbers_more, numbers_none}
use Rattle.thread_step.proofs.literals.numbers_of.Goals as goal
use Rattle.thread_step.proofs.literals.numbers_of.Goals.{then-is_literal, else-is_literal}

pub loop-word-init : goal.loop-word-init
loop-word-init c =
    record {
      numbers = rw c.in_ok-numbers.ensures.items (numbers_none c.args.image.now c.args.func);
      next = c.requires.first ∙ sym (number_first c.args.image.now c.args.func);
    }

pub overflow_add-next : goal.overflow_add-next
overflow_add-next c =
    let small = number_small c.args.image.now c.args.func c.loop-word.word c.requires.few c.requires.func (omega (arith, c.size-count.ensures)) in
    omega (arith, small, c.loop-word.invariant.next)

pub loop-word-preserved : goal.loop-word-preserved
loop-word-preserved c =
    let word = c.loop-word.word in
    let next = number_next c.args.image.now c.args.func word c.loop-word.next c.if-is_literal.next _ _ c.is_literal.result c.site.ensures c.row.ensures c.is_literal.ensures c.loop-word.invariant.next in
    record {
      numbers = rw c.in_ok-push.ensures.items (numbers_more c.args.image.now c.args.func word c.loop-word.next c.loop-word.numbers.items c.loop-word.invariant.numbers c.loop-word.invariant.next);
      next = elim c.if-is_literal.branch [
        | then-is_literal w ↦ next (w.next-is ∙ ap (λ b. c.loop-word.next + (if b then 1 else 0)) (sym w.if-is_literal.true))
        | else-is_literal w ↦ next (rw w.if-is_literal.false (omega (arith, w.next-is)))
      ];
    }

pub returns-clause-numbers : goal.returns-clause-numbers
returns-clause-numbers c =
    let all : c.loop-word.word ≡ slice_index (sizes_of c.args.image.now) c.args.func / 4 = omega (arith, c.size-count.ensures) in
    rw c.from_vec.ensures (subst (λ n. AreNumbers c.args.image.now c.args.func n c.loop-word.numbers.items) all c.loop-word.invariant.numbers)

pub returns-clause-next : goal.returns-clause-next
returns-clause-next c =
    let all : c.loop-word.word ≡ slice_index (sizes_of c.args.image.now) c.args.func / 4 = omega (arith, c.size-count.ensures) in
    c.loop-word.invariant.next ∙ ap (literal_number c.args.image.now c.args.func) all ∙ sym (below_next c.args.image.now c.args.func)
