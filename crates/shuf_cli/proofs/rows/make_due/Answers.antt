-- SPDX-License-Identifier: Apache-2.0
use Rattle.std.proofs.Common.{ap, refl, rules}
use Rattle.std.specs.Prelude.{Err}
use Rattle.cli_words.specs.Texts.{texts}
use Rattle.shuf_cli.proofs.Loading.{usage_came, stopped_here}
use Rattle.shuf_cli.proofs.rows.make_due.Goals as goal

pub returns-in-Err-Usage-clause-came : goal.returns-in-Err-Usage-clause-came
returns-in-Err-Usage-clause-came g c = usage_came _ _ _ _ (c.in-Err-Usage.ensures.usage (ap Err c.in-Err-Usage.field-0-is)) c.usage.ensures

pub returns-in-Err-NoMemory-clause-memory : goal.returns-in-Err-NoMemory-clause-memory
returns-in-Err-NoMemory-clause-memory g c = stopped_here _ _ _ refl refl

pub do_command-requires : goal.do_command-requires
do_command-requires g c = (search rules, c.numbers_are_in_range.ensures (texts c.args.words.now) c.in-Ok.command c.in-Ok.ensures.command)
