-- SPDX-License-Identifier: Apache-2.0
-- The answer, by what came of the loads and how it was delivered.
use Rattle.std.proofs.Common.{false, ◌≡◌, ◌≢◌, ◌≤◌, ℕ, List, sym, ◌∙◌, ap, subst, inl, inr, arith}
use Rattle.std.specs.Prelude.{Option, Some, None, IsSomeAnd, Result, Ok, Err, IfOk, OnErr, if◌then◌else◌}
use Rattle.std.proofs.lemmas.Bool.{cases_eq}
use Rattle.sh_base.specs.Held.{Stores, OthersStand}
use Rattle.sh_base.specs.declared.files.FileWord.TheVariants as words
use Rattle.sh_base.specs.Told.{FileAnswer}
use Rattle.cli_words.specs.declared.words.Command.{Command}
use Rattle.guest_dues.specs.declared.due.Due.{Due}
use Rattle.shuf_cli.specs.declared.due.Done.{Done}
use Rattle.guest_dues.specs.declared.due.FileStore.{FileStore}
use Rattle.shuf_cli.specs.declared.due.Outcome.{Outcome}
use Rattle.sh_types.specs.declared.runs.NoMemory.{NoMemory}
use Rattle.shuf_cli.specs.Answer.{FilesState, World, Grows, Wrote, Given, IsStored, IsUnstored, Delivered, CameOut, done_by, done_of, unstored_due}
use Rattle.cli_rows.specs.Lines.{unwritable_line}
use Rattle.shuf_cli.specs.Asked.{Loaded, Came, Stopped}
use Rattle.shuf_cli.specs.Headline.{Answered}
use Rattle.cli_rows.specs.Rows.{Row, row_of}
use Rattle.cli_rows.proofs.Dues.{due_said, low}
use Rattle.shuf_cli.proofs.Loading.{causes_last}

module _ (row : Row) (files mid files' : FilesState) (same : files'.answered ≡ mid.answered) (grows : Grows mid files') where
  loaded_last : (loads : List FileAnswer) → Loaded row files mid loads → Loaded row files files' loads
  loaded_last loads loaded =
      record { answered = same ∙ loaded.answered; asked = loaded.asked; held = loaded.held; causes = causes_last files mid files' loads grows loaded.causes }

  pub stopped_last : (due : Due) → Came row files mid due → files'.held ≡ mid.held → Stopped row files files'
  stopped_last due came stands = record { loads = came.loads; loaded = loaded_last came.loads came.loaded; stands = stands ∙ came.stands }

stored_from : (store : Option FileStore) (files mid files' : FilesState) → mid.held ≡ files.held → IsStored store mid files' → IsStored store files files'
stored_from None files mid files' stands is = is ∙ stands
stored_from (Some store) files mid files' stands is = subst (λ h. Stores h files'.held store.name store.bytes) stands is

unstored_from : (store : FileStore) (files mid files' : FilesState) → mid.held ≡ files.held → Grows files mid → IsUnstored store mid files' → IsUnstored store files files'
unstored_from store files mid files' stands grows (others, rose) =
    let g = grows store.name words.Store in
    (subst (λ h. OthersStand h files'.held store.name) stands others, omega arith)

module _ (command : Option Command) (seed : List ℕ) (w : World) (mid : FilesState) (due : Due) (done : Done) (came : Came (row_of command seed) w.files mid due) where
  abbrev from_mid : World
  from_mid = record w { files = mid }

  abbrev Gives : Due → Type 0
  Gives given = Given given w.out w.out' w.report w.report' done

  delivered_from : Delivered due from_mid done → Delivered due w done
  delivered_from (inl (stored, given)) = inl (stored_from due.store w.files mid w.files' came.stands stored, given)
  delivered_from (inr unstored) = inr (by due.store unstored)
    where
      by : (o : Option FileStore) → IsSomeAnd o (λ (store : FileStore). IsUnstored store mid w.files' × Gives (unstored_due store))
          → IsSomeAnd o (λ (store : FileStore). IsUnstored store w.files w.files' × Gives (unstored_due store))
      by None u = absurd u
      by (Some store) (u, given) = (unstored_from store w.files mid w.files' came.stands came.grown u, given)

  low_status : (given : Due) → given.status ≤ 12 → Gives given → done.status ≢ 14
  low_status given small g e = elim (cases_eq done.status 13) [
    | inl thirteen ↦ absurd (omega (arith, thirteen, e))
    | inr ne ↦ (let s = (g.wrote.whole ne).0 in absurd (omega (arith, s, e)))
  ]

  never_14 : Delivered due from_mid done → done.status ≢ 14
  never_14 (inl (stored, given)) = low_status due (low due (due_said command seed came.loads due came.comes)) given
  never_14 (inr unstored) = by due.store unstored
    where
      by : (o : Option FileStore) → IsSomeAnd o (λ (store : FileStore). IsUnstored store mid w.files' × Gives (unstored_due store)) → done.status ≢ 14
      by None u = absurd u
      by (Some store) (u, given) = low_status (unstored_due store) (omega arith) given

  pub answered : w.files'.answered ≡ mid.answered → Grows mid w.files' → Delivered due from_mid done → Answered command seed w done
  answered same grows delivered = record {
    loads = came.loads;
    loaded = loaded_last (row_of command seed) w.files mid w.files' same grows came.loads came.loaded;
    delivered = λ ne. (due, came.comes, delivered_from delivered);
    memory = λ e. absurd (never_14 delivered e);
  }

-- the answer where memory was refused
pub refused_memory : (command : Option Command) (seed : List ℕ) (w : World) (done : Done) → done ≡ record { status = 14; end = None; machine = None }
    → Stopped (row_of command seed) w.files w.files' → w.out' ≡ w.out → w.report' ≡ w.report → Answered command seed w done
refused_memory command seed w done is stopped out report = record {
  loads = stopped.loads;
  loaded = stopped.loaded;
  delivered = λ ne. absurd (ne (ap (λ d. d.status) is));
  memory = λ e. record {
    status = e;
    held = stopped.stands;
    out = out;
    report = report;
    end = ap (λ d. d.end) is;
    machine = ap (λ d. d.machine) is;
  };
}

-- a status that is not that of a failed write or of want of memory is that of what is due
pub due_low : (command : Option Command) (seed : List ℕ) (files files' : FilesState) (due : Due) → Came (row_of command seed) files files' due → due.status ≤ 12
due_low command seed files files' due came = low due (due_said command seed came.loads due came.comes)

-- the answer that is made of an outcome
delivered_by : (due : Due) (w : World) (o : Outcome) → CameOut due w o → Delivered due w (done_by due o)
delivered_by due w o (inl (stored, whole, wrote)) =
    inl (stored, record { wrote = wrote; end = ap (λ b. if b then due.end else None) whole; machine = ap (λ b. if b then due.machine else None) whole })
delivered_by due w o (inr unstored) = inr (by due.store unstored)
  where
    by : (s : Option FileStore)
        → IsSomeAnd s (λ (store : FileStore). IsUnstored store w.files w.files' × (o.stored ≡ false) × Wrote None (Some (unwritable_line store.name)) 11 w.out w.out' w.report w.report' o.status)
        → IsSomeAnd s (λ (store : FileStore). IsUnstored store w.files w.files' × Given (unstored_due store) w.out w.out' w.report w.report' (done_by due o))
    by None u = absurd u
    by (Some store) (u, failed, wrote) =
        (u, record { wrote = wrote; end = ap (λ b. if b then due.end else None) failed; machine = ap (λ b. if b then due.machine else None) failed })

-- the answer of a call, by what came of the loads and by the outcome
pub finished : (command : Option Command) (seed : List ℕ) (w : World) (mid : FilesState) (due : Due) (done : Done) (came : Came (row_of command seed) w.files mid due)
    → (outcome : Result Outcome NoMemory) → done ≡ done_of due outcome → IfOk outcome (λ o. CameOut due (record w { files = mid }) o)
    → (Stands : Type 0) → OnErr outcome Stands → (Stands → (w.files'.held ≡ mid.held) × (w.out' ≡ w.out) × (w.report' ≡ w.report))
    → w.files'.answered ≡ mid.answered → Grows mid w.files' → Answered command seed w done
finished command seed w mid due done came (Ok o) is delivered Stands err stands same grows =
    answered command seed w mid due done came same grows
    (subst (Delivered due (record w { files = mid })) (sym is) (delivered_by due (record w { files = mid }) o delivered))
finished command seed w mid due done came (Err e) is delivered Stands err stands same grows =
    let (held, out, report) = stands err in
    refused_memory command seed w done is (stopped_last (row_of command seed) w.files mid w.files' same grows due came held) out report
