-- SPDX-License-Identifier: Apache-2.0
-- What a call meets and leaves outside, and how what is due is delivered.
use Rattle.std.specs.Prelude.{◌≡◌, ◌≢◌, ◌⊎◌, ℕ, ◌<◌, ◌≤◌, List, [], ◌∷◌, ◌++◌, Bool, true, false, if◌then◌else◌, Option, Some, None, IsSomeAnd, Result, Ok, Err}
use Rattle.sh_base.specs.declared.files.FileCall.{FileCall}
use Rattle.sh_base.specs.declared.files.FileWord.{FileWord}
use Rattle.sh_base.specs.declared.files.FileWord.TheVariants.{Load, Store}
use Rattle.sh_base.specs.Faults.{Rose, fault_count}
use Rattle.sh_base.specs.Held.{FileMap, Stores, OthersStand}
use Rattle.sh_base.specs.Told.{FileAnswer}
use Rattle.sh_base.specs.Written.{Gains, GainsFront}
use Rattle.guest_dues.specs.declared.due.Due.{Due}
use Rattle.shuf_cli.specs.declared.due.Done.{Done}
use Rattle.guest_dues.specs.declared.due.FileStore.{FileStore}
use Rattle.shuf_cli.specs.declared.due.Outcome.{Outcome}
use Rattle.sh_types.specs.declared.runs.NoMemory.{NoMemory}
use Rattle.cli_rows.specs.Dues.{line_due}
use Rattle.cli_rows.specs.Lines.{unwritable_line}

-- what a sink means: the bytes written, where they are told, the pieces that were taken whole, and how often a write
-- failed
pub record SinkState : Type 0 where
  pub written : Option (List ℕ)
  pub taken : List (List ℕ)
  pub faults : ℕ

-- what files mean: what is held by name, told or not, the calls that failed, and what the loads gave
pub record FilesState : Type 0 where
  pub held : Option FileMap
  pub faults : List FileCall
  pub answered : List FileAnswer

-- what a call met and left outside: the files and the two sinks
pub record World : Type 0 where
  pub files : FilesState
  pub files' : FilesState
  pub out : SinkState
  pub out' : SinkState
  pub report : SinkState
  pub report' : SinkState

-- a load of this name failed in this call
abbrev pub LoadRose : FilesState → FilesState → List ℕ → Type 0
LoadRose files files' name = fault_count name Load files.faults < fault_count name Load files'.faults

-- a store of this name failed in this call
abbrev pub StoreRose : FilesState → FilesState → List ℕ → Type 0
StoreRose files files' name = fault_count name Store files.faults < fault_count name Store files'.faults

-- no call has failed less often than before
abbrev pub Grows : FilesState → FilesState → Type 0
Grows files files' = (name : List ℕ) (word : FileWord) → fault_count name word files.faults ≤ fault_count name word files'.faults

-- a sink took the piece whole; where there is none it stands
abbrev pub Took : Option (List ℕ) → SinkState → SinkState → Type 0
Took None old new = new ≡ old
Took (Some bytes) old new = Gains old.written new.written bytes × (new.taken ≡ old.taken ++ bytes ∷ [])

-- a write failed: a front of the piece was taken, and the count of faults rose
abbrev pub Refused : Option (List ℕ) → SinkState → SinkState → Type 0
Refused None old new = ⊥
Refused (Some bytes) old new = GainsFront old.written new.written bytes × (new.taken ≡ old.taken) × Rose old.faults new.faults

-- out refused its piece and report stands, or out took its piece and report refused its own
abbrev pub CutShort : (for_out for_report : Option (List ℕ)) → SinkState → SinkState → SinkState → SinkState → Type 0
CutShort for_out for_report out out' report report' = (Refused for_out out out' × (report' ≡ report)) ⊎ (Took for_out out out' × Refused for_report report report')

-- each sink took its piece and the status is the one that is due, or one of them failed and it is 13
pub record Wrote (for_out for_report : Option (List ℕ)) (due : ℕ) (out out' report report' : SinkState) (status : ℕ) : Type 0 where
  pub whole : status ≢ 13 → (status ≡ due) × Took for_out out out' × Took for_report report report'
  pub short : status ≡ 13 → CutShort for_out for_report out out' report report'

-- what is due to the sinks was written; the end and the machine are those that are due
pub record Given (due : Due) (out out' report report' : SinkState) (done : Done) : Type 0 where
  pub wrote : Wrote due.out due.report due.status out out' report report' done.status
  pub end : done.end ≡ due.end
  pub machine : done.machine ≡ due.machine

-- the store that is due was made; where none is due what is held stands
abbrev pub IsStored : Option FileStore → FilesState → FilesState → Type 0
IsStored None files files' = files'.held ≡ files.held
IsStored (Some store) files files' = Stores files.held files'.held store.name store.bytes

-- the store that is due failed, and left all other names
abbrev pub IsUnstored : FileStore → FilesState → FilesState → Type 0
IsUnstored store files files' = OthersStand files.held files'.held store.name × StoreRose files files' store.name

-- by what the store answered
abbrev pub IsKept : FileStore → Bool → FilesState → FilesState → Type 0
IsKept store true files files' = IsStored (Some store) files files'
IsKept store false files files' = IsUnstored store files files'

-- what is due where a store failed
abbrev pub unstored_due : FileStore → Due
unstored_due store = line_due 11 (unwritable_line store.name)

-- the store was made and the rest was given; or it failed, and its line was given in place of all that is due
abbrev pub Delivered : Due → World → Done → Type 0
Delivered due w done =
    (IsStored due.store w.files w.files' × Given due w.out w.out' w.report w.report' done)
    ⊎ IsSomeAnd due.store (λ (store : FileStore). IsUnstored store w.files w.files' × Given (unstored_due store) w.out w.out' w.report w.report' done)

-- the same by the outcome alone, before the answer is made of it
abbrev pub CameOut : Due → World → Outcome → Type 0
CameOut due w o =
    (IsStored due.store w.files w.files' × (o.stored ≡ true) × Wrote due.out due.report due.status w.out w.out' w.report w.report' o.status)
    ⊎ IsSomeAnd due.store (λ (store : FileStore). IsUnstored store w.files w.files' × (o.stored ≡ false) × Wrote None (Some (unwritable_line store.name)) 11 w.out w.out' w.report w.report' o.status)

-- the answer of an outcome: where the store failed there is no end and no machine
abbrev pub done_by : Due → Outcome → Done
done_by due o =
    record { status = o.status; end = if o.stored then due.end else None; machine = if o.stored then due.machine else None }

-- where memory was refused the status is 14, and there is no end and no machine
abbrev pub done_of : Due → Result Outcome NoMemory → Done
done_of due (Ok o) = done_by due o
done_of due (Err e) = record { status = 14; end = None; machine = None }

-- where memory is refused nothing is written or stored
pub record OutOfMemory (w : World) (done : Done) : Type 0 where
  pub status : done.status ≡ 14
  pub held : w.files'.held ≡ w.files.held
  pub out : w.out' ≡ w.out
  pub report : w.report' ≡ w.report
  pub end : done.end ≡ None
  pub machine : done.machine ≡ None
