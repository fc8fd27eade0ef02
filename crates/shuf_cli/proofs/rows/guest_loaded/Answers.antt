-- SPDX-License-Identifier: Apache-2.0
use Rattle.std.proofs.Common.{refl, subst}
use Rattle.image_rules.specs.Framed.{refusal_of}
use Rattle.cli_rows.specs.declared.judging.Judged.TheVariants.{Refused}
use Rattle.cli_rows.specs.Judged.{IsJudged}
use Rattle.cli_rows.specs.Rows.{Row, goes_on, with_input}
use Rattle.guest_dues.specs.Guest.{guest_due}
use Rattle.shuf_cli.specs.Answer.{FilesState}
use Rattle.shuf_cli.specs.Asked.{Stopped}
use Rattle.shuf_cli.proofs.Going.{came_refused}
use Rattle.shuf_cli.proofs.Loading.{on_err, stopped_here}
use Rattle.shuf_cli.proofs.rows.guest_loaded.Goals as goal

pub returns-in_err-image-clause-memory : goal.returns-in_err-image-clause-memory
returns-in_err-image-clause-memory g c =
    let files : FilesState = record { held = g.F.Files.held c.args.files.now; faults = g.F.Files.faults c.args.files.now; answered = g.F.Files.answered c.args.files.now } in
    let row : Row = goes_on (refusal_of c.args.file) (with_input c.args.opts.now.input (guest_due c.args.way c.args.opts.now c.args.file)) in
    on_err c.from_residual.result (Stopped row files files) (stopped_here row files files refl refl)

pub returns-in-Refused-clause-came : goal.returns-in-Refused-clause-came
returns-in-Refused-clause-came g c =
    let files : FilesState = record { held = g.F.Files.held c.args.files.now; faults = g.F.Files.faults c.args.files.now; answered = g.F.Files.answered c.args.files.now } in
    let judged : IsJudged c.as_slice.result.now (Refused c.in-Refused.due) = subst (IsJudged c.as_slice.result.now) c.in-Refused.is c.in_ok-image.ensures in
    came_refused (refusal_of c.args.file) (with_input c.args.opts.now.input (guest_due c.args.way c.args.opts.now c.args.file)) files c.in-Refused.due
    (subst (λ f. IsJudged f (Refused c.in-Refused.due)) c.as_slice.ensures judged)
