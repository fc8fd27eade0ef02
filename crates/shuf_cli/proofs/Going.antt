-- SPDX-License-Identifier: Apache-2.0
-- What a row of two loads comes to, load by load.
use Rattle.std.proofs.Common.{ℕ, List, sym, subst}
use Rattle.std.specs.Prelude.{◌≡◌, Option, Some, None, IsSomeAnd, Result, Ok, Err, IfOk, OnErr}
use Rattle.elf_rules.specs.declared.refusals.LoadFault.{LoadFault}
use Rattle.sh_types.specs.declared.runs.NoMemory.{NoMemory}
use Rattle.guest_dues.specs.declared.due.Due.{Due}
use Rattle.cli_rows.specs.Rows.{Row, Load, Come, refused_due, goes_on}
use Rattle.shuf_cli.specs.Answer.{FilesState}
use Rattle.shuf_cli.specs.Asked.{Came, Stopped, Gave}
use Rattle.shuf_cli.proofs.Loading.{came_here, came_on, stopped_on}

-- behind the first load
module _ (name : List ℕ) (limit : ℕ) (next : List ℕ → Row) (files mid files' : FilesState) (bytes : List ℕ) (first : Gave name limit files mid bytes) where
  pub came_next : (r : Result Due NoMemory) → IfOk r (λ due. Came (next bytes) mid files' due) → IfOk r (λ due. Came (Load name limit next) files files' due)
  came_next (Ok due) came = came_on name limit next files mid files' bytes first due came
  came_next (Err e) came = tt

  pub stopped_next : (r : Result Due NoMemory) → OnErr r (Stopped (next bytes) mid files') → OnErr r (Stopped (Load name limit next) files files')
  stopped_next (Ok due) stopped = tt
  stopped_next (Err e) stopped = stopped_on name limit next files mid files' bytes first stopped

-- a file that is refused
pub came_refused : (refusal : Option LoadFault) (row : Row) (files : FilesState) (due : Due) → IsSomeAnd refusal (λ fault. due ≡ refused_due fault)
    → Came (goes_on refusal row) files files due
came_refused None row files due is = absurd is
came_refused (Some fault) row files due is = subst (λ d. Came (Come (refused_due fault)) files files d) (sym is) (came_here (refused_due fault) files)
