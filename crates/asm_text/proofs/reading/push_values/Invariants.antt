-- SPDX-License-Identifier: Apache-2.0
use Rattle.std.proofs.Common.{◌≡◌, ℕ, length}
use Rattle.std.specs.Prelude.{◌==◌}
use Rattle.asm_text.specs.Statements.{each, value_of, parts, values_of}
use Rattle.asm_text.specs.Reading.{extended}
use Rattle.asm_text.proofs.reading.push_values.Given as goal

abbrev pub invariant-values : goal.invariant-values
invariant-values l = extended l.items.items l.line (each (value_of l.width l.names) (parts (λ (c : ℕ). c == 44) l.rest)) ≡ extended l.fn.items.items l.line (values_of l.width l.names l.text)

abbrev pub decreases-values : goal.decreases-values
decreases-values l = length l.rest
