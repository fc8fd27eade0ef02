-- SPDX-License-Identifier: Apache-2.0
-- What a sink in memory stands for, and what a write answers and leaves.
use Rattle.std.specs.Prelude.{◌≡◌, ◌⊎◌, ℕ, ◌+◌, ◌-◌, ◌≤◌, List, [], ◌∷◌, ◌++◌, length, take, Contains, Ok, Err, Result}
use Rattle.sh_base.specs.Faults.{next_count}

-- the bytes written, how often a write failed, how many writes there were, the numbers of those that are to fail,
-- how many bytes there is room for, and the pieces that were taken whole
pub record SinkValue : Type 0 where
  pub written : List ℕ
  pub faults : ℕ
  pub calls : ℕ
  pub fails : List ℕ
  pub room : ℕ
  pub taken : List (List ℕ)

-- how often a write of a sink over the system failed, and the pieces that it took whole
pub record RealSinkValue : Type 0 where
  pub faults : ℕ
  pub taken : List (List ℕ)

-- the next write is to fail
abbrev pub IsToFail : SinkValue → Type 0
IsToFail sink = Contains sink.fails sink.calls

-- there is room for the piece
abbrev pub Fits : SinkValue → List ℕ → Type 0
Fits sink piece = length sink.written + length piece ≤ sink.room

-- the part of the piece that there is room for
abbrev pub fitting : SinkValue → List ℕ → List ℕ
fitting sink piece = take (sink.room - length sink.written) piece

-- one more write was made, and wrote these bytes
abbrev pub counted : SinkValue → List ℕ → SinkValue
counted sink bytes = record sink { written = sink.written ++ bytes; calls = next_count sink.calls }

-- one more write was made, and failed after these bytes
abbrev pub faulted : SinkValue → List ℕ → SinkValue
faulted sink bytes = record (counted sink bytes) { faults = next_count sink.faults }

-- A write fails exactly where it is to fail, and then writes nothing, or where the piece passes the room, and
-- then writes what fits.
abbrev pub WriteAnswers : {E : Type 0} → SinkValue → SinkValue → List ℕ → Result Unit E → Type 0
WriteAnswers old new piece (Ok done) = ¬ IsToFail old × Fits old piece × (new ≡ record (counted old piece) { taken = old.taken ++ piece ∷ [] })
WriteAnswers old new piece (Err failed) =
    (IsToFail old × (new ≡ faulted old []))
    ⊎ (¬ IsToFail old × ¬ Fits old piece × (new ≡ faulted old (fitting old piece)))
