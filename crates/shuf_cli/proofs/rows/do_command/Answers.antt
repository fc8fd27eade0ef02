-- SPDX-License-Identifier: Apache-2.0
use Rattle.std.proofs.Common.{ap}
use Rattle.std.specs.Prelude.{Some}
use Rattle.cli_rows.specs.Rows.{demo_due, row_of}
use Rattle.shuf_cli.proofs.Loading.{came_at_once}
use Rattle.shuf_cli.proofs.rows.do_command.Goals as goal

pub returns-in-Demo-clause-came : goal.returns-in-Demo-clause-came
returns-in-Demo-clause-came g c =
    came_at_once (Some c.args.command.now) c.args.seed.now _ (demo_due c.in-Demo.number c.args.seed.now) c.of_demo.result (ap (λ command. row_of (Some command) c.args.seed.now) c.in-Demo.is) c.of_demo.ensures
