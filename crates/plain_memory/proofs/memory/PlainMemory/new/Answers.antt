-- SPDX-License-Identifier: Apache-2.0
use Rattle.std.proofs.Common.{◌∙◌, ap, List}
use Rattle.sh_types.specs.declared.code.Region.{Region}
use Rattle.sh_machines.specs.Memory.{readable, writable}
use Rattle.plain_memory.proofs.Stretches.{readable_bare, writable_bare}
use Rattle.plain_memory.proofs.memory.PlainMemory.new.Goals as goal

pub returns-clause-readable : goal.returns-clause-readable
returns-clause-readable c = λ a n. readable_bare c.in_ok-areas.areas a n ∙ ap (λ (rs : List Region). readable rs a n) (c.in_ok-areas.ensures ∙ c.as_slice.ensures)

pub returns-clause-writable : goal.returns-clause-writable
returns-clause-writable c = λ a n. writable_bare c.in_ok-areas.areas a n ∙ ap (λ (rs : List Region). writable rs a n) (c.in_ok-areas.ensures ∙ c.as_slice.ensures)
