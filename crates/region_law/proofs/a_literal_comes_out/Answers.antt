-- SPDX-License-Identifier: Apache-2.0
use Rattle.std.proofs.Common.{refl}
use Rattle.elf_rules.specs.Relocs.{modulo}
use Rattle.image_rules.specs.Binding.{literal_by}
use Rattle.region_law.proofs.a_literal_comes_out.Goals as goal

pub returns-clause-literal : goal.returns-clause-literal
unfolding literal_by modulo
returns-clause-literal c = refl
