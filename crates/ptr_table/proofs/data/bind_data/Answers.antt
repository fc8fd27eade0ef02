-- SPDX-License-Identifier: Apache-2.0
use Rattle.ptr_table.proofs.data.bind_data.Goals as goal

pub label_at-requires-clause-rise : goal.label_at-requires-clause-rise
label_at-requires-clause-rise c = rw (c.as_slice-in-None.ensures, c.as_slice-in-None-2.ensures) c.requires.rise
