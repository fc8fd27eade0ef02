-- SPDX-License-Identifier: Apache-2.0
-- What is said of every answer.
use Rattle.std.proofs.Common.{◌≡◌, ◌≢◌, ◌≤◌, ◌⊎◌, ℕ, zero, suc, List, [], ◌∷◌, refl, sym, ◌∙◌, ap, subst, inl, inr, arith}
use Rattle.std.specs.Prelude.{Option, Some, None, Contains, IsSomeAnd}
use Rattle.std.proofs.lemmas.Bool.{cases_eq}
use Rattle.sh_base.specs.Faults.{Rose}
use Rattle.sh_base.specs.Told.{FileAnswer}
use Rattle.cli_words.specs.declared.words.Command.{Command}
use Rattle.guest_dues.specs.declared.due.Due.{Due}
use Rattle.shuf_cli.specs.declared.due.Done.{Done}
use Rattle.guest_dues.specs.declared.due.FileStore.{FileStore}
use Rattle.shuf_cli.specs.Answer.{SinkState, World, Given, Refused, IsStored, IsUnstored, Delivered, unstored_due}
use Rattle.cli_rows.specs.Dues.{usage_due}
use Rattle.shuf_cli.specs.Headline.{Answered}
use Rattle.cli_rows.specs.Rows.{row_of, comes_to, at_end}
use Rattle.cli_rows.specs.Said.{DueIsSaid}
use Rattle.shuf_cli.specs.Said.{AnswerIsSaid}
use Rattle.cli_rows.proofs.Dues.{due_said, not_usage}

refused_rose : (piece : Option (List ℕ)) (old new : SinkState) → Refused piece old new → Rose old.faults new.faults
refused_rose None old new r = absurd r
refused_rose (Some bytes) old new r = r.2

widen : (s : ℕ) → Contains (0 ∷ 1 ∷ 2 ∷ 3 ∷ 4 ∷ 10 ∷ 11 ∷ 12 ∷ []) s → Contains (0 ∷ 1 ∷ 2 ∷ 3 ∷ 4 ∷ 10 ∷ 11 ∷ 12 ∷ 13 ∷ 14 ∷ []) s
widen s (zero, lt, is) = (0, omega arith, is)
widen s (suc zero, lt, is) = (1, omega arith, is)
widen s (suc (suc zero), lt, is) = (2, omega arith, is)
widen s (suc (suc (suc zero)), lt, is) = (3, omega arith, is)
widen s (suc (suc (suc (suc zero))), lt, is) = (4, omega arith, is)
widen s (suc (suc (suc (suc (suc zero)))), lt, is) = (5, omega arith, is)
widen s (suc (suc (suc (suc (suc (suc zero))))), lt, is) = (6, omega arith, is)
widen s (suc (suc (suc (suc (suc (suc (suc zero)))))), lt, is) = (7, omega arith, is)
widen s (suc (suc (suc (suc (suc (suc (suc (suc k))))))), lt, is) = absurd (omega arith)

-- none of the three is 11, 13 or 0
apart : (s : ℕ) → Contains (10 ∷ 12 ∷ 14 ∷ []) s → (s ≢ 11) × (s ≢ 13) × (s ≢ 0)
apart s (zero, lt, is) = (λ e. absurd (omega (arith, is, e)), λ e. absurd (omega (arith, is, e)), λ e. absurd (omega (arith, is, e)))
apart s (suc zero, lt, is) = (λ e. absurd (omega (arith, is, e)), λ e. absurd (omega (arith, is, e)), λ e. absurd (omega (arith, is, e)))
apart s (suc (suc zero), lt, is) = (λ e. absurd (omega (arith, is, e)), λ e. absurd (omega (arith, is, e)), λ e. absurd (omega (arith, is, e)))
apart s (suc (suc (suc k)), lt, is) = absurd (omega arith)

usage_alone : (loads : List FileAnswer) (due : Due) → at_end loads usage_due ≡ Some due → due ≡ usage_due
usage_alone [] due e = sym (same usage_due due e)
  where
    same : (a b : Due) → Some a ≡ Some b → a ≡ b
    same a b e = cc
usage_alone (load ∷ rest) due e = absurd (cc)

-- what was given in the end: all that is due, or the line on the store that failed
data Ending (w : World) (due : Due) (done : Done) : Type 0 where
  whole : IsStored due.store w.files w.files' → Given due w.out w.out' w.report w.report' done → Ending w due done
  instead : (store : FileStore) → due.store ≡ Some store → Given (unstored_due store) w.out w.out' w.report w.report' done → Ending w due done

ending : (w : World) (due : Due) (done : Done) → Delivered due w done → Ending w due done
ending w due done (inl (stored, given)) = whole stored given
ending w due done (inr unstored) = by due.store refl unstored
  where
    by : (o : Option FileStore) → due.store ≡ o
        → IsSomeAnd o (λ (store : FileStore). IsUnstored store w.files w.files' × Given (unstored_due store) w.out w.out' w.report w.report' done) → Ending w due done
    by None is u = absurd u
    by (Some store) is (u, given) = instead store is given

module _ (command : Option Command) (seed : List ℕ) (w : World) (done : Done) (a : Answered command seed w done) where
  given_sink : (due : Due) → Given due w.out w.out' w.report w.report' done → done.status ≡ 13 → Rose w.out.faults w.out'.faults ⊎ Rose w.report.faults w.report'.faults
  given_sink due given thirteen = elim (given.wrote.short thirteen) [
    | inl s ↦ inl (refused_rose due.out w.out w.out' s.0)
    | inr s ↦ inr (refused_rose due.report w.report w.report' s.1)
  ]

  no_store_fails : (due : Due) (store : FileStore) → due.store ≡ Some store → due ≡ usage_due → ⊥
  no_store_fails due store is same = absurd (cc)

  module _ (due : Due) (comes : comes_to (row_of command seed) a.loads ≡ Some due) (said : DueIsSaid due) where
    statuses_by : Ending w due done → Contains (0 ∷ 1 ∷ 2 ∷ 3 ∷ 4 ∷ 10 ∷ 11 ∷ 12 ∷ 13 ∷ 14 ∷ []) done.status
    statuses_by (whole stored given) = elim (cases_eq done.status 13) [
      | inl thirteen ↦ (8, omega arith, sym thirteen)
      | inr ne ↦ subst (Contains (0 ∷ 1 ∷ 2 ∷ 3 ∷ 4 ∷ 10 ∷ 11 ∷ 12 ∷ 13 ∷ 14 ∷ [])) (sym (given.wrote.whole ne).0) (widen due.status said.statuses)
    ]
    statuses_by (instead store is given) = elim (cases_eq done.status 13) [
      | inl thirteen ↦ (8, omega arith, sym thirteen)
      | inr ne ↦ (6, omega arith, sym (given.wrote.whole ne).0)
    ]

    unstored_by : Ending w due done → Contains (10 ∷ 12 ∷ 14 ∷ []) done.status → w.files'.held ≡ w.files.held
    unstored_by (whole stored given) among =
        let (ne11, ne13, ne0) = apart done.status among in
        subst (λ s. IsStored s w.files w.files') (said.stores (λ e. ne0 ((given.wrote.whole ne13).0 ∙ e))) stored
    unstored_by (instead store is given) among =
        let (ne11, ne13, ne0) = apart done.status among in
        absurd (ne11 (given.wrote.whole ne13).0)

    usage_by : Ending w due done → done.status ≡ 10 → command ≡ None
    usage_by (whole stored given) ten = by command comes
      where
        by : (c : Option Command) → comes_to (row_of c seed) a.loads ≡ Some due → c ≡ None
        by None e = refl
        by (Some c) e = absurd (not_usage c seed a.loads due e (sym (given.wrote.whole (λ thirteen. absurd (omega (arith, ten, thirteen)))).0 ∙ ten))
    usage_by (instead store is given) ten =
        absurd (omega (arith, ten, (given.wrote.whole (λ thirteen. absurd (omega (arith, ten, thirteen)))).0))

    no_command_by : Ending w due done → command ≡ None → Contains (10 ∷ 13 ∷ 14 ∷ []) done.status
    no_command_by ending none = by ending (usage_alone a.loads due (subst (λ c. comes_to (row_of c seed) a.loads ≡ Some due) none comes))
      where
        by : Ending w due done → due ≡ usage_due → Contains (10 ∷ 13 ∷ 14 ∷ []) done.status
        by (whole stored given) is = elim (cases_eq done.status 13) [
          | inl thirteen ↦ (1, omega arith, sym thirteen)
          | inr ne ↦ (0, omega arith, sym ((given.wrote.whole ne).0 ∙ ap (λ d. d.status) is))
        ]
        by (instead store found given) is = absurd (no_store_fails due store found is)

    sink_by : Ending w due done → done.status ≡ 13 → Rose w.out.faults w.out'.faults ⊎ Rose w.report.faults w.report'.faults
    sink_by (whole stored given) thirteen = given_sink due given thirteen
    sink_by (instead store is given) thirteen = given_sink (unstored_due store) given thirteen

    unmade_by : Ending w due done → 10 ≤ done.status → done.status ≢ 13 → (done.end ≡ None) × (done.machine ≡ None)
    unmade_by (whole stored given) high ne =
        let none = said.unmade (omega (arith, high, (given.wrote.whole ne).0)) in
        (given.end ∙ none.0, given.machine ∙ none.1)
    unmade_by (instead store is given) high ne = (given.end, given.machine)

  pub answer_said : AnswerIsSaid command w done
  answer_said = by (cases_eq done.status 14)
    where
      by : (done.status ≡ 14) ⊎ (done.status ≢ 14) → AnswerIsSaid command w done
      by (inl gone) = record {
        statuses = (9, omega arith, sym gone);
        unstored = λ among. (a.memory gone).held;
        usage = λ ten. absurd (omega (arith, gone, ten));
        no_command = λ none. (2, omega arith, sym gone);
        sink = λ thirteen. absurd (omega (arith, gone, thirteen));
        unmade = λ high ne. ((a.memory gone).end, (a.memory gone).machine);
      }
      by (inr ne) =
          let (due, comes, delivered) = a.delivered ne in
          let said = due_said command seed a.loads due comes in
          let e = ending w due done delivered in
          record {
            statuses = statuses_by due comes said e;
            unstored = unstored_by due comes said e;
            usage = usage_by due comes said e;
            no_command = no_command_by due comes said e;
            sink = sink_by due comes said e;
            unmade = unmade_by due comes said e;
          }
