-- SPDX-License-Identifier: Apache-2.0
use Rattle.shuf_cli.proofs.Readable.{given}
use Rattle.shuf_cli.proofs.laws.held_files_are_loaded.Goals as goal

pub returns-clause-given : goal.returns-clause-given
returns-clause-given c name limit next files files' loads due file loaded comes readable = given name limit next files files' loads due file loaded comes readable
