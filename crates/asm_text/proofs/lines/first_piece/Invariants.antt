-- SPDX-License-Identifier: Apache-2.0
use Rattle.std.proofs.Common.{◌≡◌, take, drop}
use Rattle.asm_text.specs.declared.lines.Quote.TheVariants.{Outside}
use Rattle.asm_text.specs.Source.{pieces}
use Rattle.asm_text.proofs.Pieces.{fronted}
use Rattle.asm_text.proofs.lines.first_piece.Given as goal

abbrev pub invariant-loop-i : goal.invariant-loop-i
invariant-loop-i l = fronted (take l.i l.line) (pieces l.quote (drop l.i l.line)) ≡ pieces Outside l.line
