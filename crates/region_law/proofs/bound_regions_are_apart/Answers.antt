-- SPDX-License-Identifier: Apache-2.0
use Rattle.region_law.proofs.Regions.{bound_apart}
use Rattle.region_law.proofs.bound_regions_are_apart.Goals as goal

pub returns : goal.returns
returns c = λ b fine. bound_apart b (c.regions_are_apart.ensures b fine)
