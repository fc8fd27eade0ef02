-- SPDX-License-Identifier: Apache-2.0
use Rattle.std.proofs.Common.{◌≡◌, ℕ, ◌<◌, take, length}
use Rattle.std.specs.Prelude.{slice_index, slice_index_or}
use Rattle.sh_types.specs.declared.code.Region.{Region}
use Rattle.plain_memory.proofs.making.copied.Given as goal

abbrev pub invariant-loop-region : goal.invariant-loop-region
invariant-loop-region l =
    record {
      is : l.areas.items ≡ take l.region-index l.regions;
      small : (k : ℕ) (d : Region) → k < length l.areas.items → (i : ℕ) → slice_index (slice_index_or l.areas.items k d).bytes i < 256;
    }
