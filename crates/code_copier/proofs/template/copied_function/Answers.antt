-- SPDX-License-Identifier: Apache-2.0
use Rattle.std.proofs.Common.{◌≡◌, ◌/◌, ◌+◌, ap, arith, subst, sym, ◌∙◌}
use Rattle.std.specs.Prelude.{slice_index, if◌then◌else◌}
use Rattle.sh_machines.specs.Copy.{literal_number}
use Rattle.sh_types.specs.Image.{sizes_of}
use Rattle.code_copier.specs.Template.{AreCopied}
use Rattle.code_copier.proofs.Templates.{below_next, number_again, number_first, number_next, number_small, words_more, words_none}
use Rattle.code_copier.proofs.template.copied_function.Goals as goal
use Rattle.code_copier.proofs.template.copied_function.Goals.{then-is_literal, else-is_literal}

pub loop-i-init : goal.loop-i-init
loop-i-init c =
    record {
      words = rw c.in_ok-words.ensures.items (words_none c.args.image.now c.args.func);
      next = c.requires.first ∙ sym (number_first c.args.image.now c.args.func);
    }

pub copied_word-requires-clause-number : goal.copied_word-requires-clause-number
copied_word-requires-clause-number c = c.loop-i.invariant.next ∙ sym (number_again c.args.image.now c.args.func c.loop-i.i)

pub copied_word-requires-clause-few : goal.copied_word-requires-clause-few
copied_word-requires-clause-few c =
    let small = number_small c.args.image.now c.args.func c.loop-i.i c.requires.copyable c.requires.func (omega (arith, c.size-count.ensures)) in
    omega (arith, small, c.loop-i.invariant.next)

pub overflow_add-next : goal.overflow_add-next
overflow_add-next c =
    let small = number_small c.args.image.now c.args.func c.loop-i.i c.requires.copyable c.requires.func (omega (arith, c.size-count.ensures)) in
    omega (arith, small, c.loop-i.invariant.next)

pub loop-i-preserved : goal.loop-i-preserved
loop-i-preserved c =
    let i = c.loop-i.i in
    let next = number_next c.args.image.now c.args.func i c.loop-i.next c.if-is_literal.next _ _ c.is_literal.result c.site.ensures c.row.ensures c.is_literal.ensures c.loop-i.invariant.next in
    record {
      words = rw c.in_ok-push.ensures.items (words_more c.args.image.now c.args.func i c.copied_word.result c.loop-i.words.items c.loop-i.invariant.words (record { leads = c.copied_word.ensures.leads; word = c.copied_word.ensures.word }));
      next = elim c.if-is_literal.branch [
        | then-is_literal w ↦ next (w.next-is ∙ ap (λ b. c.loop-i.next + (if b then 1 else 0)) (sym w.if-is_literal.true))
        | else-is_literal w ↦ next (rw w.if-is_literal.false (omega (arith, w.next-is)))
      ];
    }

pub returns-clause-words : goal.returns-clause-words
returns-clause-words c =
    let all : c.loop-i.i ≡ slice_index (sizes_of c.args.image.now) c.args.func / 4 = omega (arith, c.size-count.ensures) in
    rw c.from_vec.ensures (subst (λ n. AreCopied c.args.image.now c.args.func n c.loop-i.words.items) all c.loop-i.invariant.words)

pub returns-clause-next : goal.returns-clause-next
returns-clause-next c =
    let all : c.loop-i.i ≡ slice_index (sizes_of c.args.image.now) c.args.func / 4 = omega (arith, c.size-count.ensures) in
    c.loop-i.invariant.next ∙ ap (literal_number c.args.image.now c.args.func) all ∙ sym (below_next c.args.image.now c.args.func)
