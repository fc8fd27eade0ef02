-- SPDX-License-Identifier: Apache-2.0
use Rattle.std.proofs.Common.{◌≡◌}
use Rattle.std.specs.List.{flat_map, range_with_len}
use Rattle.period_report.specs.Full.{word_bytes, function_words}
use Rattle.period_report.proofs.copies.code_bytes.Given as goal

abbrev pub invariant-loop-function : goal.invariant-loop-function
invariant-loop-function l = l.bytes.items ≡ flat_map (λ f. word_bytes (function_words l.copy l.layout f)) (range_with_len 0 l.function)
