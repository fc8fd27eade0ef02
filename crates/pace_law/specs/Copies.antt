-- SPDX-License-Identifier: Apache-2.0
-- From which copy an instruction of a paced journal runs. This project's own.
use Rattle.std.specs.Prelude.{◌≡◌, ℕ, ◌+◌, ◌*◌, ◌/◌, ◌<◌, true, Some, slice_get}
use Rattle.sh_types.specs.declared.runs.Hart.{Hart}
use Rattle.sh_machines.specs.Shuffled.{Shuffled}

-- The hart's next instruction, before which the state stands, is in the copy of the layout of the count: that of a count
-- c is c / period + 1. So it is not once the copy's period is over.
pub record RunsOnTime (period : ℕ) (n : ℕ) (s : Shuffled) : Type 0 where
  pub hart : Hart
  pub is : slice_get s.harts n ≡ Some hart
  pub live : hart.live ≡ true
  pub layout : hart.layout ≡ s.count / period + 1
  pub in_time : s.count < period * hart.layout
