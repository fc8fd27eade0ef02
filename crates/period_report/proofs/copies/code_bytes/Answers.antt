-- SPDX-License-Identifier: Apache-2.0
use Rattle.std.proofs.Common.{◌≡◌, ◌+◌, ◌-◌, ◌/◌, ◌++◌, take, drop, subst}
use Rattle.std.specs.Prelude.{slice_index}
use Rattle.period_report.specs.Full.{word_bytes, function_words}
use Rattle.period_report.proofs.Coding.{function_more}
use Rattle.period_report.proofs.copies.code_bytes.Goals as goal

pub loop-function-preserved : goal.loop-function-preserved
loop-function-preserved c =
    let f = c.loop-function.function in
    let copy = c.args.copy.now in
    let old = c.loop-function.bytes.items in
    let new = c.push_function.new.bytes.items in
    function_more (λ f. word_bytes (function_words copy c.args.layout.now f)) f old new c.loop-function.invariant
    (subst (λ places. new ≡ old ++ word_bytes (take (slice_index c.args.layout.now.sizes f / 4 + 1) (drop ((slice_index places f - copy.start) / 4) copy.words))) c.as_slice-places.ensures
    (subst (λ sizes. new ≡ old ++ word_bytes (take (slice_index sizes f / 4 + 1) (drop ((slice_index c.as_slice-places.result.now f - copy.start) / 4) copy.words))) c.as_slice-sizes.ensures c.in_ok-push_function.ensures))
