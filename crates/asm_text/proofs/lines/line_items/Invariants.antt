-- SPDX-License-Identifier: Apache-2.0
use Rattle.std.proofs.Common.{◌≡◌, [], length}
use Rattle.asm_text.specs.declared.lines.Quote.TheVariants.{Outside}
use Rattle.asm_text.specs.Reading.{extended}
use Rattle.asm_text.specs.Source.{pieces, statements_in, line_of}
use Rattle.asm_text.proofs.lines.line_items.Given as goal

abbrev pub invariant-pieces : goal.invariant-pieces
invariant-pieces l = extended l.items.items l.line (statements_in (pieces Outside l.rest)) ≡ extended [] l.line (line_of l.text)

abbrev pub decreases-pieces : goal.decreases-pieces
decreases-pieces l = length l.rest
