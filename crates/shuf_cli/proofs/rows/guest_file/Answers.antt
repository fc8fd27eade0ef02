-- SPDX-License-Identifier: Apache-2.0
use Rattle.std.proofs.Common.{List, ℕ, subst}
use Rattle.image_rules.specs.Framed.{refusal_of}
use Rattle.cli_rows.specs.Limits.{file_limit}
use Rattle.cli_rows.specs.Rows.{Row, goes_on, with_input}
use Rattle.guest_dues.specs.Guest.{guest_due}
use Rattle.shuf_cli.specs.Answer.{FilesState}
use Rattle.shuf_cli.specs.Asked.{Gave, Gives}
use Rattle.shuf_cli.proofs.Going.{came_next, stopped_next}
use Rattle.shuf_cli.proofs.rows.guest_file.Goals as goal

pub returns-in-File-clause-came : goal.returns-in-File-clause-came
returns-in-File-clause-came g c =
    let old : FilesState = record { held = g.F.Files.held c.args.files.now; faults = g.F.Files.faults c.args.files.now; answered = g.F.Files.answered c.args.files.now } in
    let mid : FilesState = record { held = g.F.Files.held c.load_file.new.files; faults = g.F.Files.faults c.load_file.new.files; answered = g.F.Files.answered c.load_file.new.files } in
    let new : FilesState =
    record { held = g.F.Files.held c.guest_loaded.new.files; faults = g.F.Files.faults c.guest_loaded.new.files; answered = g.F.Files.answered c.guest_loaded.new.files } in
    let next : List ℕ → Row = λ file. goes_on (refusal_of file) (with_input c.args.opts.now.input (guest_due c.args.way c.args.opts.now file)) in
    let gave : Gave c.args.name.now file_limit old mid c.in-File.file = subst (Gives c.args.name.now file_limit old mid) c.in-File.is c.in_ok-file.ensures.gives in
    came_next c.args.name.now file_limit next old mid new c.in-File.file gave c.guest_loaded.result c.guest_loaded.ensures.came

pub returns-in-File-clause-memory : goal.returns-in-File-clause-memory
returns-in-File-clause-memory g c =
    let old : FilesState = record { held = g.F.Files.held c.args.files.now; faults = g.F.Files.faults c.args.files.now; answered = g.F.Files.answered c.args.files.now } in
    let mid : FilesState = record { held = g.F.Files.held c.load_file.new.files; faults = g.F.Files.faults c.load_file.new.files; answered = g.F.Files.answered c.load_file.new.files } in
    let new : FilesState =
    record { held = g.F.Files.held c.guest_loaded.new.files; faults = g.F.Files.faults c.guest_loaded.new.files; answered = g.F.Files.answered c.guest_loaded.new.files } in
    let next : List ℕ → Row = λ file. goes_on (refusal_of file) (with_input c.args.opts.now.input (guest_due c.args.way c.args.opts.now file)) in
    let gave : Gave c.args.name.now file_limit old mid c.in-File.file = subst (Gives c.args.name.now file_limit old mid) c.in-File.is c.in_ok-file.ensures.gives in
    stopped_next c.args.name.now file_limit next old mid new c.in-File.file gave c.guest_loaded.result c.guest_loaded.ensures.memory
