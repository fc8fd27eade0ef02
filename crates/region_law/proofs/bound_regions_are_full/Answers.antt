-- SPDX-License-Identifier: Apache-2.0
use Rattle.region_law.proofs.Regions.{bound_full}
use Rattle.region_law.proofs.bound_regions_are_full.Goals as goal

pub returns : goal.returns
returns c = λ b fine. bound_full b (c.regions_are_full.ensures b fine)
