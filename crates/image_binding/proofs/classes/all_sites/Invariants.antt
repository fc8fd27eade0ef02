-- SPDX-License-Identifier: Apache-2.0
use Rattle.std.proofs.Common.{◌≡◌, ◌++◌, drop}
use Rattle.image_rules.specs.Bound.{sites_from}
use Rattle.image_binding.specs.Binds.{source}
use Rattle.image_binding.proofs.classes.all_sites.Given as goal

abbrev pub invariant-loop-i : goal.invariant-loop-i
invariant-loop-i l =
    l.sites.items ++ sites_from (source l.binding l.words l.entry) l.i (drop l.i l.binding.functions) ≡ sites_from (source l.binding l.words l.entry) 0 l.binding.functions
