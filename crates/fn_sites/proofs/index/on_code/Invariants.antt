-- SPDX-License-Identifier: Apache-2.0
use Rattle.std.proofs.Common.{◌≡◌, ◌++◌, drop}
use Rattle.std.specs.Prelude.{filter}
use Rattle.sh_types.specs.declared.relocs.Reloc.{Reloc}
use Rattle.fn_sites.proofs.index.on_code.Given as goal

abbrev pub invariant-loop-reloc : goal.invariant-loop-reloc
invariant-loop-reloc l = l.found.items ++ filter (λ (r : Reloc). r.code) (drop l.reloc-index l.relocs) ≡ filter (λ (r : Reloc). r.code) l.relocs
