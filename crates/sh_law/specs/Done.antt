-- SPDX-License-Identifier: Apache-2.0
-- When effects are those of instructions. This project's own.
use Rattle.std.specs.Prelude.{◌≡◌, ℕ, true}
use Rattle.sh_machines.specs.Event.{instructions, can_all}
use Rattle.sh_machines.specs.Notes.{Effects, with_effects}
use Rattle.sh_machines.specs.Shuffled.{Setting, Shuffled}

-- as many instructions of the hart as the effects have can be executed, and leave the state with these effects
pub record AreDone (o : Setting) (n : ℕ) (s : Shuffled) (e : Effects) : Type 0 where
  pub can : can_all o n e.count s ≡ true
  pub state : instructions o n e.count s ≡ with_effects n e s
