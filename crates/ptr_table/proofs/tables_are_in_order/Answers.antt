-- SPDX-License-Identifier: Apache-2.0
use Rattle.ptr_table.proofs.Order.{in_order}
use Rattle.ptr_table.proofs.tables_are_in_order.Goals as goal

pub returns : goal.returns
returns c = in_order
