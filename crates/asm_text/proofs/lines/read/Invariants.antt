-- SPDX-License-Identifier: Apache-2.0
use Rattle.std.proofs.Common.{◌≡◌, ◌≤◌, ◌+◌, ℕ, length}
use Rattle.std.specs.Prelude.{◌==◌}
use Rattle.asm_text.specs.Statements.{parts}
use Rattle.asm_text.specs.Source.{read_lines, source_of}
use Rattle.asm_text.proofs.lines.read.Given as goal

abbrev pub invariant-lines : goal.invariant-lines
invariant-lines l = record { read : read_lines l.items.items l.line (parts (λ (c : ℕ). c == 10) l.rest) ≡ source_of l.text; small : l.line + length l.rest ≤ length l.text + 1 }

abbrev pub decreases-lines : goal.decreases-lines
decreases-lines l = length l.rest
