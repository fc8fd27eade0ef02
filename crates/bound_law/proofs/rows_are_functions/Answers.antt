-- SPDX-License-Identifier: Apache-2.0
use Rattle.bound_law.proofs.Rows.{row_low, row_other}
use Rattle.bound_law.proofs.rows_are_functions.Goals as goal

pub returns : goal.returns
returns c = record { low = row_low; other = row_other }
