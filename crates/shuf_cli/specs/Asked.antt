-- SPDX-License-Identifier: Apache-2.0
-- The loads of a call, and what is due by them.
use Rattle.std.specs.Prelude.{◌≡◌, List, ℕ, ◌≤◌, length, [], ◌∷◌, ◌++◌, Option, Some, IsSome, MatchOption, ⊤}
use Rattle.sh_base.specs.Told.{FileAnswer}
use Rattle.sh_base.specs.Tells.{gave}
use Rattle.sh_base.specs.Held.{Loads}
use Rattle.guest_dues.specs.declared.due.Due.{Due}
use Rattle.shuf_cli.specs.declared.due.FileOr.{FileOr}
use Rattle.shuf_cli.specs.declared.due.FileOr.TheVariants.{File, Instead}
use Rattle.shuf_cli.specs.Answer.{FilesState, LoadRose, Grows}
use Rattle.cli_rows.specs.Rows.{Row, Load, with_input, comes_to, AreOf}

-- these are loads that the row asks for, in its order: with some more of them it comes to what is due
abbrev pub AreAsked : Row → List FileAnswer → Type 0
AreAsked row loads = (more : List FileAnswer) × IsSome (comes_to row (loads ++ more))

-- each load that failed has its cause
abbrev pub HaveCauses : FilesState → FilesState → List FileAnswer → Type 0
HaveCauses files files' [] = ⊤
HaveCauses files files' (load ∷ rest) = MatchOption load.bytes (LoadRose files files' load.name) (λ _. ⊤) × HaveCauses files files' rest

-- these loads were made, and no other
pub record Loaded (row : Row) (files files' : FilesState) (loads : List FileAnswer) : Type 0 where
  pub answered : files'.answered ≡ files.answered ++ loads
  pub asked : AreAsked row loads
  pub held : AreOf files.held row loads
  pub causes : HaveCauses files files' loads

-- the row was loaded and came to what is due; what is held stands
pub record Came (row : Row) (files files' : FilesState) (due : Due) : Type 0 where
  pub loads : List FileAnswer
  pub loaded : Loaded row files files' loads
  pub comes : comes_to row loads ≡ Some due
  pub stands : files'.held ≡ files.held
  pub grown : Grows files files'

-- memory was refused on the way; what is held stands
pub record Stopped (row : Row) (files files' : FilesState) : Type 0 where
  pub loads : List FileAnswer
  pub loaded : Loaded row files files' loads
  pub stands : files'.held ≡ files.held

-- a load gave these bytes of the name, within the limit
pub record Gave (name : List ℕ) (limit : ℕ) (files files' : FilesState) (bytes : List ℕ) : Type 0 where
  pub short : length bytes ≤ limit
  pub held : Loads files.held name limit bytes
  pub answered : files'.answered ≡ files.answered ++ gave name bytes ∷ []
  pub stands : files'.held ≡ files.held
  pub grown : Grows files files'

-- a load gave a file, or what is due in its place, whatever the command does with it
abbrev pub Gives : (name : List ℕ) (limit : ℕ) → FilesState → FilesState → FileOr → Type 0
Gives name limit files files' (File bytes) = Gave name limit files files' bytes
Gives name limit files files' (Instead due) = (next : List ℕ → Row) → Came (Load name limit next) files files' due

-- the input of a guest is there, or what is due in its place, whatever the guest makes of it
abbrev pub GivesInput : Option (List ℕ) → FilesState → FilesState → FileOr → Type 0
GivesInput name files files' (File bytes) = (made : List ℕ → Due) → Came (with_input name made) files files' (made bytes)
GivesInput name files files' (Instead due) = (made : List ℕ → Due) → Came (with_input name made) files files' due
