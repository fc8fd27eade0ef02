-- SPDX-License-Identifier: Apache-2.0
use Rattle.rv_asm.proofs.MarksName.{marks_name}
use Rattle.rv_asm.proofs.Numbering.{marks_named}
use Rattle.rv_asm.proofs.laws.marks_name_symbols.Goals as goal

pub returns : goal.returns
returns c = record { numbers = marks_named; names = marks_name }
