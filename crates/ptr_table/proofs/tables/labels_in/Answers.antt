-- SPDX-License-Identifier: Apache-2.0
use Rattle.std.proofs.Common.{◌∙◌, ◌/◌, sym, arith}
use Rattle.ptr_table.specs.Taken.{has_offset}
use Rattle.ptr_table.proofs.Tabling.{kept_more, dropped_more}
use Rattle.ptr_table.proofs.tables.labels_in.Goals as goal
use Rattle.ptr_table.proofs.tables.labels_in.Goals.{then-is_label+in_ok-push, else-is_label}

pub loop-preserved : goal.loop-preserved
loop-preserved c =
    elim c.if-is_label.branch [
      | then-is_label+in_ok-push w ↦
          let more = kept_more c.args.func (has_offset c.args.taken.now c.args.home) c.loop.found.items _ c.loop.off (c.saturating_sub-count.result / 4) c.loop.counter c.loop-test.true (sym c.is_label.ensures ∙ w.if-is_label.true) c.loop.invariant.read in
          record { read = cc (more, w.found-is, w.in_ok-push.ensures.items); off = omega arith }
      | else-is_label w ↦
          let more = dropped_more c.args.func (has_offset c.args.taken.now c.args.home) c.loop.found.items _ c.loop.off (c.saturating_sub-count.result / 4) c.loop.counter c.loop-test.true (sym c.is_label.ensures ∙ w.if-is_label.false) c.loop.invariant.read in
          record { read = cc (more, w.found-is); off = omega arith }
    ]
