-- SPDX-License-Identifier: Apache-2.0
-- What the top call promises.
use Rattle.std.specs.Prelude.{◌≡◌, ◌≢◌, ℕ, List, Option, Some}
use Rattle.sh_base.specs.Told.{FileAnswer}
use Rattle.cli_words.specs.declared.words.Command.{Command}
use Rattle.guest_dues.specs.declared.due.Due.{Due}
use Rattle.shuf_cli.specs.declared.due.Done.{Done}
use Rattle.shuf_cli.specs.Answer.{World, Delivered, OutOfMemory}
use Rattle.shuf_cli.specs.Asked.{Loaded}
use Rattle.cli_rows.specs.Rows.{row_of, comes_to}

-- the answer to a command
pub record Answered (command : Option Command) (seed : List ℕ) (w : World) (done : Done) : Type 0 where
  -- the loads of this call, in their order: those for which the command's row asks, of what is held where it is told,
  -- and one that failed has its cause
  pub loads : List FileAnswer
  pub loaded : Loaded (row_of command seed) w.files w.files' loads
  -- what the row comes to by them was delivered, unless memory was refused
  pub delivered : done.status ≢ 14 → (due : Due) × (comes_to (row_of command seed) loads ≡ Some due) × Delivered due w done
  -- nothing was written or stored
  pub memory : done.status ≡ 14 → OutOfMemory w done
