-- SPDX-License-Identifier: Apache-2.0
-- What files in memory stand for, and what a call answers and leaves.
use Rattle.std.specs.Prelude.{◌≡◌, ◌⊎◌, ℕ, List, [], ◌∷◌, ◌++◌, None, Ok, Err, Result, Contains, refl}
use Rattle.std.specs.Coded.{Coded, code_by, coded×, coded_ℕ, coded_list}
use Rattle.std.specs.FinMap as map
use Rattle.sh_base.specs.Faults.{next_count, call_of}
use Rattle.sh_base.specs.Held.{FileMap}
use Rattle.sh_base.specs.Told.{FileAnswer, answers_coded}
use Rattle.sh_base.specs.Tells.{gave, failed}
use Rattle.sh_base.specs.declared.files.FileCall.{FileCall}
use Rattle.sh_base.specs.declared.files.FileFault.{FileFault}
use Rattle.sh_base.specs.declared.files.FileFault.TheVariants.{Failed, NoMemory}
use Rattle.sh_base.specs.declared.files.FileWord.TheVariants.{Load, Store}
use Rattle.sh_base.specs.contracts.files.FileCall as call

-- the contents by name, the calls that failed, how many calls there were, the numbers of those that are to fail, and
-- what the loads gave
pub record FilesValue : Type 0 where
  pub held : FileMap
  pub faults : List FileCall
  pub calls : ℕ
  pub fails : List ℕ
  pub answered : List FileAnswer

abbrev pub files_code : Coded FilesValue
files_code =
    code_by (FileMap × (List FileCall × (ℕ × (List ℕ × List FileAnswer))))
    (coded× (map.code (coded_list coded_ℕ) (coded_list coded_ℕ)) (coded× (coded_list call.the_row.coded) (coded× coded_ℕ (coded× (coded_list coded_ℕ) answers_coded))))
    (λ f. (f.held, (f.faults, (f.calls, (f.fails, f.answered))))) (λ p. record { held = p.0; faults = p.1.0; calls = p.1.1.0; fails = p.1.1.1.0; answered = p.1.1.1.1 }) (λ _. refl)

-- of files of the system: the calls that failed, and what the loads gave
pub record RealFilesValue : Type 0 where
  pub faults : List FileCall
  pub answered : List FileAnswer

abbrev pub real_files_code : Coded RealFilesValue
real_files_code =
    code_by (List FileCall × List FileAnswer) (coded× (coded_list call.the_row.coded) answers_coded)
    (λ f. (f.faults, f.answered)) (λ p. record { faults = p.0; answered = p.1 }) (λ _. refl)

-- the next call is to fail
abbrev pub IsToFail : FilesValue → Type 0
IsToFail files = Contains files.fails files.calls

-- one more call was made
abbrev pub counted : FilesValue → FilesValue
counted files = record files { calls = next_count files.calls }

-- one more call was made, and it failed
abbrev pub faulted : FilesValue → FileCall → FilesValue
faulted files call = record files { calls = next_count files.calls; faults = files.faults ++ call ∷ [] }

-- A load fails exactly where it is to fail or the name is not held, as far as there is memory.
abbrev pub LoadAnswers : FilesValue → FilesValue → List ℕ → Result (List ℕ) FileFault → Type 0
LoadAnswers old new name (Ok bytes) = ¬ IsToFail old × (new ≡ record (counted old) { answered = old.answered ++ gave name bytes ∷ [] })
LoadAnswers old new name (Err Failed) = (IsToFail old ⊎ (map.get old.held name ≡ None)) × (new ≡ record (faulted old (call_of name Load)) { answered = old.answered ++ failed name ∷ [] })
LoadAnswers old new name (Err NoMemory) = new ≡ counted old

-- A store fails exactly where it is to fail, as far as there is memory, and then replaces nothing.
abbrev pub StoreAnswers : FilesValue → FilesValue → List ℕ → List ℕ → Result Unit FileFault → Type 0
StoreAnswers old new name bytes (Ok done) = ¬ IsToFail old × (new ≡ record (counted old) { held = map.insert old.held name bytes })
StoreAnswers old new name bytes (Err Failed) = IsToFail old × (new ≡ faulted old (call_of name Store))
StoreAnswers old new name bytes (Err NoMemory) = new ≡ counted old
