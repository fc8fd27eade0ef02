-- SPDX-License-Identifier: Apache-2.0
use Rattle.cli_words.specs.declared.words.Command.TheVariants.{Run}
use Rattle.guest_dues.specs.Run.{schedule}
use Rattle.guest_dues.proofs.pace.runs_keep_pace.Goals as goal

pub returns-clause-paced : goal.returns-clause-paced
returns-clause-paced c words name opts is image file input seed =
    c.serial_lists_are_paced.ensures.paced image input (schedule opts) (c.numbers_are_in_range.ensures words (Run name opts) is).some_period

pub returns-clause-few : goal.returns-clause-few
returns-clause-few c words name opts is image file input seed =
    c.serial_lists_are_paced.ensures.few image input (schedule opts) (c.numbers_are_in_range.ensures words (Run name opts) is).some_period
