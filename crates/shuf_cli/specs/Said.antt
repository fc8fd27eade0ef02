-- SPDX-License-Identifier: Apache-2.0
-- What is read off every answer.
use Rattle.std.specs.Prelude.{◌≡◌, ◌≢◌, ◌⊎◌, ℕ, ◌<◌, ◌≤◌, ⊤, List, [], ◌∷◌, length, Option, None, Some, Contains, IsSomeAnd, MatchOption}
use Rattle.std.specs.FinMap as map
use Rattle.sh_base.specs.declared.files.FileWord.TheVariants.{Load}
use Rattle.sh_base.specs.Faults.{Rose, fault_count}
use Rattle.sh_base.specs.Held.{FileMap}
use Rattle.cli_words.specs.declared.words.Command.{Command}
use Rattle.shuf_cli.specs.declared.due.Done.{Done}
use Rattle.shuf_cli.specs.Answer.{FilesState, World}

-- an answer has one of these statuses; with 10, 12 and 14 nothing is stored; 10 comes exactly where the words are no
-- command, but for a sink that failed and for want of memory; 13 only where a sink failed in this call; and there is an
-- end and a machine only where a run was made
pub record AnswerIsSaid (command : Option Command) (w : World) (done : Done) : Type 0 where
  pub statuses : Contains (0 ∷ 1 ∷ 2 ∷ 3 ∷ 4 ∷ 10 ∷ 11 ∷ 12 ∷ 13 ∷ 14 ∷ []) done.status
  pub unstored : Contains (10 ∷ 12 ∷ 14 ∷ []) done.status → w.files'.held ≡ w.files.held
  pub usage : done.status ≡ 10 → command ≡ None
  pub no_command : command ≡ None → Contains (10 ∷ 13 ∷ 14 ∷ []) done.status
  pub sink : done.status ≡ 13 → Rose w.out.faults w.out'.faults ⊎ Rose w.report.faults w.report'.faults
  pub unmade : 10 ≤ done.status → done.status ≢ 13 → (done.end ≡ None) × (done.machine ≡ None)

-- it is told that the file, within the limit, is held under the name, and none of its loads failed in this call
pub record IsReadable (files files' : FilesState) (name : List ℕ) (limit : ℕ) (file : List ℕ) : Type 0 where
  pub held : IsSomeAnd files.held (λ all. map.get all name ≡ Some file)
  pub short : length file ≤ limit
  pub steady : fault_count name Load files'.faults ≤ fault_count name Load files.faults

-- it is told that no file within the limit is held under the name
abbrev pub Lacks : Option FileMap → (name : List ℕ) → (limit : ℕ) → Type 0
Lacks held name limit = IsSomeAnd held (λ all. MatchOption (map.get all name) ⊤ (λ file. limit < length file))
