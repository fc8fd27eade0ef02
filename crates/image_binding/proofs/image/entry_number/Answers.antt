-- SPDX-License-Identifier: Apache-2.0
use Rattle.std.proofs.Common.{rules, tests, ap, ◌∙◌, ◌==◌}
use Rattle.std.specs.Prelude.{unwrap_or}
use Rattle.std.proofs.lemmas.Iterator.{YieldsList-from_slice}
use Rattle.std.proofs.lemmas.Iterator.Search.{position_from_yields_List}
use Rattle.sh_types.specs.declared.code.Function.{Function}
use Rattle.image_binding.proofs.Entry.{number_is}
use Rattle.image_binding.proofs.image.entry_number.Goals as goal

pub returns : goal.returns
returns c =
    let found = position_from_yields_List (λ (f : Function). f.home == c.args.entry) _ _ c.position.result c.position.ensures.ran (YieldsList-from_slice c.args.functions.now cc) (λ x b q k. search (rules, tests)) in
    c.unwrap_or.ensures ∙ ap (λ o. unwrap_or o 0) (found ∙ number_is c.args.entry c.args.functions.now)
