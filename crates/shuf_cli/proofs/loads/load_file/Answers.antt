-- SPDX-License-Identifier: Apache-2.0
use Rattle.std.proofs.Common.{List, ℕ, ◌<◌, length, ◌∙◌, ap, sym, subst, arith}
use Rattle.std.specs.Prelude.{Err}
use Rattle.std.proofs.lemmas.Bool.Decides.{nat_tests}
use Rattle.sh_base.specs.Tells.{answered_after}
use Rattle.shuf_cli.specs.Answer.{FilesState}
use Rattle.shuf_cli.specs.Asked.{Came, Stopped}
use Rattle.cli_rows.specs.Rows.{Row, Load}
use Rattle.shuf_cli.proofs.Loading.{came_long, stopped_long, stopped_here, on_err}
use Rattle.shuf_cli.proofs.loads.load_file.Goals as goal

pub returns-in_err-too_long-in-Ok-clause-memory : goal.returns-in_err-too_long-in-Ok-clause-memory
returns-in_err-too_long-in-Ok-clause-memory g c =
    let old : FilesState = record { held = g.F.Files.held c.args.files.now; faults = g.F.Files.faults c.args.files.now; answered = g.F.Files.answered c.args.files.now } in
    let new : FilesState = record { held = g.F.Files.held c.load.new.self; faults = g.F.Files.faults c.load.new.self; answered = g.F.Files.answered c.load.new.self } in
    let long : c.args.limit < length c.in-Ok.file = grind (arith, nat_tests, c.len.ensures, c.if-len-limit.true) in
    let stopped : (next : List ℕ → Row) → Stopped (Load c.args.name.now c.args.limit next) old new =
    λ next. stopped_long c.args.name.now c.args.limit old new c.in-Ok.ensures.cause.adds c.in-Ok.ensures.held c.in-Ok.file c.in-Ok.ensures.bytes c.in-Ok.ensures.answered next long in
    on_err c.from_residual.result ((next : List ℕ → Row) → Stopped (Load c.args.name.now c.args.limit next) old new) stopped

pub returns-in_ok-too_long-in-Ok-clause-gives : goal.returns-in_ok-too_long-in-Ok-clause-gives
returns-in_ok-too_long-in-Ok-clause-gives g c = λ next.
    let old : FilesState = record { held = g.F.Files.held c.args.files.now; faults = g.F.Files.faults c.args.files.now; answered = g.F.Files.answered c.args.files.now } in
    let new : FilesState = record { held = g.F.Files.held c.load.new.self; faults = g.F.Files.faults c.load.new.self; answered = g.F.Files.answered c.load.new.self } in
    let long : c.args.limit < length c.in-Ok.file = grind (arith, nat_tests, c.len.ensures, c.if-len-limit.true) in
    subst (λ due. Came (Load c.args.name.now c.args.limit next) old new due) (sym c.in_ok-too_long-in-Ok.ensures)
    (came_long c.args.name.now c.args.limit old new c.in-Ok.ensures.cause.adds c.in-Ok.ensures.held c.in-Ok.file c.in-Ok.ensures.bytes c.in-Ok.ensures.answered next long)

pub returns-in-Err-NoMemory-clause-memory : goal.returns-in-Err-NoMemory-clause-memory
returns-in-Err-NoMemory-clause-memory g c = λ next.
    let old : FilesState = record { held = g.F.Files.held c.args.files.now; faults = g.F.Files.faults c.args.files.now; answered = g.F.Files.answered c.args.files.now } in
    let new : FilesState = record { held = g.F.Files.held c.load.new.self; faults = g.F.Files.faults c.load.new.self; answered = g.F.Files.answered c.load.new.self } in
    stopped_here (Load c.args.name.now c.args.limit next) old new
    (c.in-Err-NoMemory.ensures.answered ∙ ap (λ e. answered_after (g.F.Files.answered c.args.files.now) c.args.name.now (Err e)) c.in-Err-NoMemory.field-0-is)
    c.in-Err-NoMemory.ensures.held
