-- SPDX-License-Identifier: Apache-2.0
use Rattle.pace_law.proofs.Journals.{few_written, full_written}
use Rattle.pace_law.proofs.lists.serial_lists_run_to_their_end.Goals as goal

pub returns : goal.returns
returns c = record { few = few_written; full = full_written }
