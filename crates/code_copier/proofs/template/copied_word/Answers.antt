-- SPDX-License-Identifier: Apache-2.0
use Rattle.std.proofs.Common.{length, sym, ap, ◌∙◌}
use Rattle.rv_table.specs.Decoding.{decoded}
use Rattle.sh_machines.specs.Copy.{goes_to, is_through}
use Rattle.sh_types.specs.Image.{sizes_of}
use Rattle.code_copier.proofs.Classing.{goes_at_pair}
use Rattle.code_copier.proofs.template.copied_word.Goals as goal

pub by_class-requires-clause-through : goal.by_class-requires-clause-through
by_class-requires-clause-through c = λ t.
    c.requires.copyable.through c.args.at c.in-Some-decode.instr (ap is_through (sym c.site.ensures) ∙ t) (sym (ap decoded c.word-word.ensures) ∙ sym c.in-Some-decode.ensures.exact)

pub returns-in-Some-decode-clause-leads : goal.returns-in-Some-decode-clause-leads
returns-in-Some-decode-clause-leads c =
    c.by_class.ensures.leads (length (sizes_of c.args.image.now)) (ap (goes_to (length (sizes_of c.args.image.now))) c.site.ensures ∙ goes_at_pair c.args.image.now c.args.at c.requires.copyable)
