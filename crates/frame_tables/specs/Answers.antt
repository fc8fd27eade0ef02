-- SPDX-License-Identifier: Apache-2.0
-- What the table of a function, or its refusal, says: in the words of the frame grammar. This project's own.
use Rattle.std.specs.Prelude.{◌≡◌, ℕ, ◌+◌, ◌*◌, ◌==◌, Option, List, [], length}
use Rattle.sh_types.specs.declared.code.FrameState.{FrameState}
use Rattle.sh_types.specs.declared.code.Pair.{Pair}
use Rattle.sh_types.specs.declared.code.Rule.{Rule}
use Rattle.sh_types.specs.declared.code.Site.{Site}
use Rattle.sh_machines.specs.Grammar.{Body, IsLeastTable, IsOutside, answer_of, walk_of}
use Rattle.sh_machines.specs.Walk.{Walk, Goes, Ends, Fails}
use Rattle.frame_tables.specs.declared.refusals.FrameNo.{FrameNo}
use Rattle.frame_tables.specs.declared.refusals.FrameNo.TheVariants.{NoMemory, Refused}

-- a function by its number, the number of the entry function, its words with their classes, and all labels
abbrev pub body_with : (func entry : ℕ) → List ℕ → List Site → List Pair → Body
body_with func entry words sites labels = record { func = func; entry = func == entry; words = words; sites = sites; labels = labels }

-- the table is the least fit, and the walk ends with it
pub record IsAccepted (b : Body) (table : List (Option FrameState)) : Type 0 where
  pub least : IsLeastTable b table
  pub long : length table ≡ length b.words + 1
  pub walk : answer_of b ≡ Ends table

-- there is no fit, and the walk refuses the word at the offset
pub record IsRefused (b : Body) (off : ℕ) (rule : Rule) : Type 0 where
  pub none : IsOutside b
  pub at : ℕ
  pub place : off ≡ 4 * at
  pub walk : answer_of b ≡ Fails at rule

-- why there is no table
abbrev pub IsCause : Body → FrameNo → Type 0
IsCause b NoMemory = Unit {0}
IsCause b (Refused off rule) = IsRefused b off rule

-- ---- the same, with the number of examinations

-- after so many none waits
pub record IsAcceptedIn (b : Body) (table : List (Option FrameState)) (spent : ℕ) : Type 0 where
  pub accepted : IsAccepted b table
  pub walk : walk_of b spent ≡ Goes (record { table = table; waiting = [] })

-- the last of so many fails, and none before
pub record IsRefusedIn (b : Body) (off : ℕ) (rule : Rule) (spent : ℕ) : Type 0 where
  pub refusal : IsRefused b off rule
  pub turns : ℕ
  pub state : Walk FrameState
  pub before : walk_of b turns ≡ Goes state
  pub count : spent ≡ turns + 1
  pub walk : walk_of b spent ≡ Fails refusal.at rule

-- why there is no table, after so many
abbrev pub IsCauseIn : Body → ℕ → FrameNo → Type 0
IsCauseIn b spent NoMemory = Unit {0}
IsCauseIn b spent (Refused off rule) = IsRefusedIn b off rule spent
