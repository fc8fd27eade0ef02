-- SPDX-License-Identifier: Apache-2.0
use Rattle.std.proofs.Common.{[]}
use Rattle.asm_text.specs.Reading.{extended}
use Rattle.asm_text.specs.Source.{line_of}
use Rattle.asm_text.proofs.Sourcing.{piece_last}
use Rattle.asm_text.proofs.lines.line_items.Goals as goal

pub returns-in-None : goal.returns-in-None
returns-in-None c =
    piece_last c.pieces.items.items c.push_statement-in-None.new.items.items c.args.line c.pieces.rest.now c.first_piece.result.0.now (extended [] c.args.line (line_of c.args.text.now))
    (rw c.in-None.is at c.first_piece.ensures.parts) c.in_ok-push_statement-in-None.ensures c.pieces.invariant
