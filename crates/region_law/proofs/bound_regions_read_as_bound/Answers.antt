-- SPDX-License-Identifier: Apache-2.0
use Rattle.region_law.proofs.Regions.{bound_reads}
use Rattle.region_law.proofs.bound_regions_read_as_bound.Goals as goal

pub returns : goal.returns
returns c = λ b fine records a. bound_reads b a fine (c.record_bytes_lie_in_files.ensures b fine records) (c.regions_are_full.ensures b fine) (c.regions_read_as_segments.ensures b fine a)
