-- SPDX-License-Identifier: Apache-2.0
use Rattle.std.proofs.Common.{arith, sym, refl, ◌∙◌}
use Rattle.std.specs.Prelude.{slice_index_or}
use Rattle.guest_image.proofs.Numbers.{word_skipped, word_taken}
use Rattle.guest_image.proofs.literals.add_literals.Goals as goal
use Rattle.guest_image.proofs.literals.add_literals.Goals.{then-is_literal+in_ok-push, else-is_literal}

pub loop-at-preserved : goal.loop-at-preserved
loop-at-preserved c =
    let at = c.loop-at in
    let functions = c.args.bound.now.image.functions in
    elim c.if-is_literal.branch [
      | then-is_literal+in_ok-push w ↦
          let more = word_taken functions c.args.bound.now.relocs c.args.sites.now c.args.rows.now at.address at.at (slice_index_or c.args.words.now at.at 0) c.args.words.now at.literals.items _ c.loop-at-test.true refl (sym c.is_literal.ensures ∙ w.if-is_literal.true) at.invariant.added in
          record { added = cc (more, w.literals-is, w.in_ok-push.ensures.items, w.literal.ensures); place = omega arith }
      | else-is_literal w ↦
          let more = word_skipped functions c.args.bound.now.relocs c.args.sites.now c.args.rows.now at.address at.at c.args.words.now at.literals.items _ c.loop-at-test.true (sym c.is_literal.ensures ∙ w.if-is_literal.false) at.invariant.added in
          record { added = cc (more, w.literals-is); place = omega arith }
    ]
