-- SPDX-License-Identifier: Apache-2.0
use Rattle.loaded_law.proofs.Literals.{framed_many, framed_said}
use Rattle.loaded_law.proofs.literals_are_said.Goals as goal

pub returns : goal.returns
returns c = record { many = framed_many; said = λ b f k accepts l m t. framed_said b accepts f k l m t }
