-- SPDX-License-Identifier: Apache-2.0
use Rattle.image_binding.proofs.Classing.{function_classes}
use Rattle.image_binding.proofs.classes.function_sites.Goals as goal

pub returns : goal.returns
returns c =
    function_classes c.args.binding.now c.args.words.now c.args.entry c.args.func _ _ c.sites_with.result c.requires.binding c.requires.func c.as_slice.ensures c.index-words-func.is c.sites_with.ensures
