-- SPDX-License-Identifier: Apache-2.0
use Rattle.asm_text.specs.declared.lines.Quote.TheVariants.{Outside}
use Rattle.asm_text.proofs.Pieces.{begun}
use Rattle.asm_text.proofs.lines.first_piece.Goals as goal

pub loop-i-init : goal.loop-i-init
loop-i-init c = begun Outside c.args.line.now
