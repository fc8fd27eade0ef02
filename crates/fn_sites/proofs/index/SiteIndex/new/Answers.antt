-- SPDX-License-Identifier: Apache-2.0
use Rattle.std.proofs.Common.{◌∙◌, ap, List}
use Rattle.std.specs.Prelude.{filter}
use Rattle.sh_types.specs.declared.code.Pair.{Pair}
use Rattle.sh_types.specs.declared.relocs.Reloc.{Reloc}
use Rattle.sh_machines.specs.Constants.{is_label_at}
use Rattle.elf_rules.specs.Relocs.{record_at}
use Rattle.fn_sites.specs.Index.{label_number}
use Rattle.fn_sites.proofs.Finding.{on_code}
use Rattle.fn_sites.proofs.index.SiteIndex.new.Goals as goal

pub returns : goal.returns
returns c = record {
  on = λ a. c.in_ok-records.ensures a ∙ ap (λ (rs : List Reloc). record_at rs a) c.in_ok-on_code.ensures
      ∙ ap (λ (rs : List Reloc). record_at (filter (λ (r : Reloc). r.code) rs) a) c.as_slice.ensures ∙ on_code c.args.relocs.now a;
  at = λ f o lt. c.in_ok-labels.ensures.same (label_number f o) ∙ c.in_ok-label_numbers.ensures f o lt
      ∙ ap (λ (ls : List Pair). is_label_at ls f o) c.as_slice-2.ensures;
}
