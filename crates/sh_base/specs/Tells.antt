-- SPDX-License-Identifier: Apache-2.0
-- What files and sinks tell after a call.
use Rattle.std.specs.Prelude.{ℕ, List, [], ◌∷◌, ◌++◌, Some, None, Ok, Err, Result}
use Rattle.sh_base.specs.declared.files.FileFault.{FileFault}
use Rattle.sh_base.specs.declared.files.FileFault.TheVariants.{Failed, NoMemory}
use Rattle.sh_base.specs.Told.{FileAnswer}

abbrev pub gave : (name bytes : List ℕ) → FileAnswer
gave name bytes = record { name = name; bytes = Some bytes }

abbrev pub failed : List ℕ → FileAnswer
failed name = record { name = name; bytes = None }

-- the loads that were answered. Where memory was refused there is no answer
abbrev pub answered_after : List FileAnswer → List ℕ → Result (List ℕ) FileFault → List FileAnswer
answered_after before name (Ok bytes) = before ++ gave name bytes ∷ []
answered_after before name (Err Failed) = before ++ failed name ∷ []
answered_after before name (Err NoMemory) = before

-- the pieces that were taken whole
abbrev pub taken_after : {E : Type 0} → List (List ℕ) → List ℕ → Result Unit E → List (List ℕ)
taken_after before piece (Ok done) = before ++ piece ∷ []
taken_after before piece (Err e) = before
