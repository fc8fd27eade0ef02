-- SPDX-License-Identifier: Apache-2.0
-- What is said of all that the commands may come to.
use Rattle.std.proofs.Common.{◌≡◌, ◌≤◌, ℕ, zero, suc, List, [], ◌∷◌, Bool, true, false, length, refl, arith}
use Rattle.std.specs.Prelude.{Option, Some, None, nat_lt, if◌then◌else◌, Contains}
use Rattle.sh_base.specs.Told.{FileAnswer}
use Rattle.elf_rules.specs.declared.refusals.LoadFault.{LoadFault}
use Rattle.sh_types.specs.declared.runs.End.{End}
use Rattle.sh_types.specs.declared.runs.End.TheVariants.{Exit, Trapped, Leak}
use Rattle.elf_rules.specs.Bindable.{mapped_by}
use Rattle.image_rules.specs.Framed.{framed_image, refusal_of}
use Rattle.elf_rules.specs.Elf.{segments_of}
use Rattle.asm_text.specs.declared.faults.LineFault.{LineFault}
use Rattle.rv_asm.specs.Object.{object_of}
use Rattle.rv_asm.specs.Passes.{fault_of}
use Rattle.elf_write.specs.Written.{elf_file}
use Rattle.guest_text.specs.Guest.{guest_text}
use Rattle.image_text.specs.Listing.{listing_of}
use Rattle.sh_machines.specs.Unmoved.{Unmoved}
use Rattle.shuf_machine.specs.Past.{Past, guest_of}
use Rattle.cli_words.specs.declared.options.Opts.{Opts}
use Rattle.cli_words.specs.Options.{default_opts}
use Rattle.cli_words.specs.declared.words.Command.{Command}
use Rattle.cli_words.specs.declared.words.Command.TheVariants.{Run, Plain, Check, Asm, Demo, Help}
use Rattle.guest_dues.specs.declared.due.Due.{Due}
use Rattle.cli_rows.specs.Demo.{demo_input, demo_ran, line_on}
use Rattle.cli_rows.specs.Dues.{line_due, text_due, store_due}
use Rattle.cli_rows.specs.Lines.{usage_line}
use Rattle.guest_dues.specs.declared.way.Way.TheVariants.{Moved}
use Rattle.guest_dues.specs.declared.way.Way.TheVariants as way
use Rattle.guest_dues.specs.Plain.{harts_of, left_by, plain_report, plain_due}
use Rattle.cli_rows.specs.Rows.{Row, demo_due, demo_file_due, row_of, comes_to, unless_refused, goes_on, with_input, unless_faulty}
use Rattle.guest_dues.specs.Guest.{guest_due}
use Rattle.guest_dues.specs.Run.{run_status, ended_due, past_of, seed_for, report_of, accepted_due}
use Rattle.cli_rows.specs.Said.{DueIsSaid}
use Rattle.cli_rows.proofs.Each.{EachDue, each}

-- what is said of all lines, texts, stores and runs is said of all that the commands come to
module _ (P : Due → Type 0) (lines : (line : List ℕ) → P (line_due 12 line)) (text : (t : List ℕ) → P (text_due t))
    (store : (name bytes : List ℕ) → P (store_due name bytes))
    (ended : (out : List ℕ) (report : Option (List ℕ)) (end : Option End) (machine : Option Past) → P (ended_due out report end machine)) where
  of_refusal : (refusal : Option LoadFault) (due : Due) → P due → P (unless_refused refusal due)
  of_refusal None due p = p
  of_refusal (Some fault) due p = lines _

  of_fault : (fault : Option LineFault) (due : Due) → P due → P (unless_faulty fault due)
  of_fault None due p = p
  of_fault (Some fault) due p = lines _

  of_input : (input : Option (List ℕ)) (made : List ℕ → Due) → ((bytes : List ℕ) → P (made bytes)) → EachDue P (with_input input made)
  of_input None made p = p []
  of_input (Some name) made p = λ bytes. p bytes

  of_accepted : (refusal : Option LoadFault) (row : Row) → EachDue P row → EachDue P (goes_on refusal row)
  of_accepted None row p = p
  of_accepted (Some fault) row p = lines _

  of_run : (opts : Opts) (file input seed : List ℕ) → P (accepted_due opts file input seed)
  of_run opts file input seed =
      let m : Past = past_of opts (framed_image file) file input (seed_for opts seed) in
      ended (guest_of m).output (Some (report_of opts m)) (guest_of m).end (Some m)

  of_plain : (opts : Opts) (file input : List ℕ) → P (plain_due opts (framed_image file) input)
  of_plain opts file input =
      let u : Unmoved = left_by opts (framed_image file) input in
      ended u.output (Some (plain_report (length (harts_of opts (framed_image file) input)) u.end)) u.end None

  of_guest : (input : Option (List ℕ)) (file : List ℕ) (made : List ℕ → Due) → ((bytes : List ℕ) → P (made bytes)) → EachDue P (goes_on (refusal_of file) (with_input input made))
  of_guest input file made p = of_accepted (refusal_of file) (with_input input made) (of_input input made p)

  of_demo : (number : ℕ) (seed : List ℕ) → P (demo_due number seed)
  of_demo number seed =
      let file : List ℕ = elf_file (object_of (guest_text number)) in
      let m : Past = past_of default_opts (framed_image file) file demo_input seed in
      of_fault (fault_of (guest_text number)) (demo_file_due number file seed)
      (of_refusal (refusal_of file) (demo_ran number m) (ended (line_on number m) None (guest_of m).end (Some m)))

  pub of_command : (command : Command) (seed : List ℕ) → EachDue P (row_of (Some command) seed)
  of_command (Run name opts) seed = λ file. of_guest opts.input file (guest_due (Moved seed) opts file) (λ input. of_run opts file input seed)
  of_command (Plain name opts) seed = λ file. of_guest opts.input file (guest_due way.Plain opts file) (λ input. of_plain opts file input)
  of_command (Check name) seed = λ file. of_refusal (refusal_of file) (text_due (listing_of (framed_image file) (mapped_by (segments_of file)))) (text _)
  of_command (Asm source target) seed = λ source. of_fault (fault_of source) (store_due target (elf_file (object_of source))) (store target _)
  of_command (Demo number) seed = of_demo number seed
  of_command Help seed = text _

  pub of_row : P (line_due 10 usage_line) → (command : Option Command) (seed : List ℕ) → EachDue P (row_of command seed)
  of_row usage None seed = usage
  of_row usage (Some command) seed = of_command command seed

line_said : (status : ℕ) (line : List ℕ) → Contains (0 ∷ 1 ∷ 2 ∷ 3 ∷ 4 ∷ 10 ∷ 11 ∷ 12 ∷ []) status → DueIsSaid (line_due status line)
line_said status line among = record { statuses = among; stores = λ ne. refl; unmade = λ high. (refl, refl) }

abbrev bit : Bool → ℕ
bit b = if b then 1 else 0

-- a run has one of the first five statuses
run_small : (end : Option End) → Contains (0 ∷ 1 ∷ 2 ∷ 3 ∷ 4 ∷ []) (run_status end)
run_small None = (4, omega arith, refl)
run_small (Some (Exit code)) = by (nat_lt 0 code)
  where
    by : (b : Bool) → Contains (0 ∷ 1 ∷ 2 ∷ 3 ∷ 4 ∷ []) (bit b)
    by true = (1, omega arith, refl)
    by false = (0, omega arith, refl)
run_small (Some (Trapped kind hart pair value)) = (2, omega arith, refl)
run_small (Some (Leak hart pair)) = (3, omega arith, refl)

ended_said : (out : List ℕ) (report : Option (List ℕ)) (end : Option End) (machine : Option Past) → DueIsSaid (ended_due out report end machine)
ended_said out report end machine = said (run_status end) (run_small end)
  where
    said : (s : ℕ) → Contains (0 ∷ 1 ∷ 2 ∷ 3 ∷ 4 ∷ []) s → DueIsSaid (record (ended_due out report end machine) { status = s })
    said s (zero, lt, is) = record { statuses = (0, omega arith, is); stores = λ ne. refl; unmade = λ high. absurd (omega (arith, is)) }
    said s (suc zero, lt, is) = record { statuses = (1, omega arith, is); stores = λ ne. refl; unmade = λ high. absurd (omega (arith, is)) }
    said s (suc (suc zero), lt, is) = record { statuses = (2, omega arith, is); stores = λ ne. refl; unmade = λ high. absurd (omega (arith, is)) }
    said s (suc (suc (suc zero)), lt, is) = record { statuses = (3, omega arith, is); stores = λ ne. refl; unmade = λ high. absurd (omega (arith, is)) }
    said s (suc (suc (suc (suc zero))), lt, is) = record { statuses = (4, omega arith, is); stores = λ ne. refl; unmade = λ high. absurd (omega (arith, is)) }
    said s (suc (suc (suc (suc (suc k)))), lt, is) = absurd (omega arith)

pub due_said : (command : Option Command) (seed : List ℕ) (loads : List FileAnswer) (due : Due) → comes_to (row_of command seed) loads ≡ Some due → DueIsSaid due
due_said command seed loads due is =
    each DueIsSaid (λ name. line_said 11 _ (6, omega arith, refl)) (λ name limit. line_said 11 _ (6, omega arith, refl)) (row_of command seed)
    (of_row DueIsSaid (λ line. line_said 12 line (7, omega arith, refl))
    (λ t. record { statuses = (0, omega arith, refl); stores = λ ne. refl; unmade = λ high. absurd (omega arith) })
    (λ name bytes. record { statuses = (0, omega arith, refl); stores = λ ne. absurd (ne refl); unmade = λ high. absurd (omega arith) })
    ended_said (line_said 10 _ (5, omega arith, refl)) command seed) loads due is

run_low : (end : Option End) → run_status end ≡ 10 → ⊥
run_low None e = absurd (omega (arith, e))
run_low (Some (Exit code)) e = by (nat_lt 0 code) e
  where
    by : (b : Bool) → bit b ≡ 10 → ⊥
    by true e = absurd (omega (arith, e))
    by false e = absurd (omega (arith, e))
run_low (Some (Trapped kind hart pair value)) e = absurd (omega (arith, e))
run_low (Some (Leak hart pair)) e = absurd (omega (arith, e))

abbrev NotUsage : Due → Type 0
NotUsage due = due.status ≡ 10 → ⊥

-- a command is due no line on its words
pub not_usage : (command : Command) (seed : List ℕ) (loads : List FileAnswer) (due : Due) → comes_to (row_of (Some command) seed) loads ≡ Some due → due.status ≡ 10 → ⊥
not_usage command seed loads due is =
    each NotUsage (λ name e. absurd (omega (arith, e))) (λ name limit e. absurd (omega (arith, e))) (row_of (Some command) seed)
    (of_command NotUsage (λ line e. absurd (omega (arith, e))) (λ t e. absurd (omega (arith, e))) (λ name bytes e. absurd (omega (arith, e))) (λ out report end machine. run_low end) command seed)
    loads due is

-- it is no status of a failed write or of want of memory
pub low : (due : Due) → DueIsSaid due → due.status ≤ 12
low due said = by due.status said.statuses
  where
    by : (s : ℕ) → Contains (0 ∷ 1 ∷ 2 ∷ 3 ∷ 4 ∷ 10 ∷ 11 ∷ 12 ∷ []) s → s ≤ 12
    by s (zero, lt, is) = omega (arith, is)
    by s (suc zero, lt, is) = omega (arith, is)
    by s (suc (suc zero), lt, is) = omega (arith, is)
    by s (suc (suc (suc zero)), lt, is) = omega (arith, is)
    by s (suc (suc (suc (suc zero))), lt, is) = omega (arith, is)
    by s (suc (suc (suc (suc (suc zero)))), lt, is) = omega (arith, is)
    by s (suc (suc (suc (suc (suc (suc zero))))), lt, is) = omega (arith, is)
    by s (suc (suc (suc (suc (suc (suc (suc zero)))))), lt, is) = omega (arith, is)
    by s (suc (suc (suc (suc (suc (suc (suc (suc k))))))), lt, is) = absurd (omega arith)
