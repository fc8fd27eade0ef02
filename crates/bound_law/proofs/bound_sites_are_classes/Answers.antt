-- SPDX-License-Identifier: Apache-2.0
use Rattle.bound_law.proofs.Sited.{no_site, site_is}
use Rattle.bound_law.proofs.bound_sites_are_classes.Goals as goal

pub returns : goal.returns
returns c = record { sites = site_is; none = no_site }
