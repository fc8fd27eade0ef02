-- SPDX-License-Identifier: Apache-2.0
use Rattle.std.proofs.Common.{◌≡◌, ◌<◌, ◌^◌, ◌∙◌, ap, sym, true, arith}
use Rattle.std.specs.Prelude.{option_and_then}
use Rattle.cli_words.specs.Numbers.{is_decimal}
use Rattle.cli_words.proofs.Decimals.{kept, number_parsed}
use Rattle.cli_words.proofs.numbers.number_in.Goals as goal

pub returns-in_err-number-clause-value : goal.returns-in_err-number-clause-value
returns-in_err-number-clause-value c =
    let low : c.args.most < 2 ^ 64 = omega arith in
    let decimal : is_decimal c.args.word.now ≡ true = ap is_decimal (sym c.as_bytes.ensures.value) ∙ sym c.is_decimal.ensures ∙ c.if-not-is_decimal.false in
    let parsed = number_parsed c.args.least c.args.most c.args.word.now decimal c.parse.result low c.parse.ensures.value.0 in
    c.from_residual.ensures ∙ sym (parsed ∙ ap (option_and_then (kept c.args.least c.args.most)) (sym c.ok.ensures.value ∙ c.in_err-number.was))
