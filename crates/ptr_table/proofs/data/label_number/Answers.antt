-- SPDX-License-Identifier: Apache-2.0
use Rattle.std.proofs.Common.{◌≢◌, ◌<◌, ◌∙◌, get_or, length, sym, arith}
use Rattle.sh_types.specs.Place.{pair}
use Rattle.image_rules.specs.Binding.{label_home}
use Rattle.ptr_table.proofs.Standing.{number_found, number_missing}
use Rattle.ptr_table.proofs.data.label_number.Goals as goal

pub returns-then-number-labels : goal.returns-then-number-labels
returns-then-number-labels c =
    sym (number_missing c.args.functions.now c.args.labels.now c.args.address c.labels_before-number.result (pair 0 0) c.labels_before-number.ensures.below (λ k le lt. absurd (omega (arith, le, lt, c.if-number-labels.true))))

pub returns-then-label_home-address : goal.returns-then-label_home-address
returns-then-label_home-address c =
    let lt : c.labels_before-number.result < length c.args.labels.now = omega (arith, c.labels_before-number.ensures.bound, c.if-number-labels.false) in
    sym (number_found c.args.functions.now c.args.labels.now c.args.address c.labels_before-number.result (pair 0 0) lt c.labels_before-number.ensures.below (sym c.label_home.ensures ∙ c.if-label_home-address.true))

pub returns-else-label_home-address : goal.returns-else-label_home-address
returns-else-label_home-address c =
    let lt : c.labels_before-number.result < length c.args.labels.now = omega (arith, c.labels_before-number.ensures.bound, c.if-number-labels.false) in
    let here = c.labels_before-number.ensures.above c.labels_before-number.result (pair 0 0) (omega arith) lt in
    let other : label_home c.args.functions.now (get_or c.args.labels.now c.labels_before-number.result (pair 0 0)) ≢ c.args.address = λ e. c.if-label_home-address.false (c.label_home.ensures ∙ e) in
    sym (number_missing c.args.functions.now c.args.labels.now c.args.address c.labels_before-number.result (pair 0 0) c.labels_before-number.ensures.below
    (λ k le l. let up = c.requires.rise c.labels_before-number.result k (pair 0 0) le l in omega (arith, here, other, up)))
