-- SPDX-License-Identifier: Apache-2.0
use Rattle.std.proofs.Common.{◌≡◌, ◌∙◌, ℕ, true, false, drop}
use Rattle.std.specs.Prelude.{◌==◌, None}
use Rattle.std.specs.List.{list_any}
use Rattle.asm_words.specs.Characters.{is_foreign}
use Rattle.asm_text.specs.Statements.{parts}
use Rattle.asm_text.specs.Source.{line_of, source_of}
use Rattle.asm_text.proofs.Sourcing.{lines_text, lines_form}
use Rattle.asm_text.proofs.lines.read.Goals as goal

pub returns-then-has_foreign : goal.returns-then-has_foreign
returns-then-has_foreign c =
    let h : list_any is_foreign c.first_line.result.0.now ≡ true = cc in
    c.stopped.ensures ∙ lines_text c.lines.items.items c.lines.line (parts (λ (x : ℕ). x == 10) c.lines.rest.now) c.first_line.result.0.now (drop 1 (parts (λ (x : ℕ). x == 10) c.lines.rest.now)) (source_of c.args.text.now)
    c.first_line.ensures.begins h c.lines.invariant.read

pub returns-in-Err-Form : goal.returns-in-Err-Form
returns-in-Err-Form c =
    let h : list_any is_foreign c.first_line.result.0.now ≡ false = cc in
    let f : line_of c.first_line.result.0.now ≡ None = rw c.in-Err-Form.field-0-is at c.in-Err-Form.ensures in
    c.stopped-in-Err-Form.ensures ∙ lines_form c.lines.items.items c.lines.line (parts (λ (x : ℕ). x == 10) c.lines.rest.now) c.first_line.result.0.now (drop 1 (parts (λ (x : ℕ). x == 10) c.lines.rest.now)) (source_of c.args.text.now)
    c.first_line.ensures.begins h f c.lines.invariant.read
