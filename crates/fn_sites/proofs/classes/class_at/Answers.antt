-- SPDX-License-Identifier: Apache-2.0
use Rattle.std.proofs.Common.{◌≡◌, ◌∙◌, ap, ℕ, ◌+◌, ◌*◌, Option}
use Rattle.std.specs.Prelude.{slice_index}
use Rattle.sh_types.specs.declared.relocs.Reloc.{Reloc}
use Rattle.rv_table.specs.Decoding.{decoded}
use Rattle.sh_machines.specs.Class.{Source, class_at, entry_class, home_of, instr_class, record_class, record_on}
use Rattle.fn_sites.specs.Body.{source}
use Rattle.fn_sites.proofs.classes.class_at.Goals as goal

pub returns : goal.returns
unfolding class_at
returns c relocs labels tells =
    let b : Source = source c.args.body.now relocs labels in
    let k = c.args.number in
    let here : c.record-here.result ≡ record_on relocs (home_of b + 4 * k) =
    c.record-here.ensures ∙ tells.on c.address_of.result ∙ ap (λ (a : ℕ). record_on relocs a) c.address_of.ensures
    ∙ ap (λ (h : ℕ). record_on relocs (h + 4 * k)) c.requires.body.home in
    let site : c.entry_site-site.result ≡ entry_class b (instr_class b k (decoded (slice_index b.words k))) =
    c.entry_site-site.ensures relocs labels ∙ ap (entry_class b) (c.word_site.ensures relocs labels tells) in
    c.record_site.ensures relocs labels ∙ ap (λ (r : Option Reloc). record_class b r c.entry_site-site.result) here
    ∙ ap (record_class b (record_on relocs (home_of b + 4 * k))) site
