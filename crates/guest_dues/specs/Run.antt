-- SPDX-License-Identifier: Apache-2.0
-- What a run of a file comes to, by the unmoved machine alone.
use Rattle.std.specs.Prelude.{ℕ, List, Option, Some, None, unwrap_or, if◌then◌else◌, nat_lt}
use Rattle.sh_types.specs.declared.code.Image.{Image}
use Rattle.sh_types.specs.declared.runs.End.{End}
use Rattle.sh_types.specs.declared.runs.End.TheVariants.{Exit, Trapped, Leak}
use Rattle.sh_machines.specs.Serial.{Schedule, serial_list}
use Rattle.image_rules.specs.Framed.{framed_image}
use Rattle.shuf_machine.specs.declared.answers.Origin.{Origin}
use Rattle.shuf_machine.specs.Past.{Past, guest_of, opening}
use Rattle.period_report.specs.declared.writer.Form.{Form}
use Rattle.period_report.specs.declared.writer.Form.TheVariants.{Short, Full}
use Rattle.period_report.specs.Report.{report_text}
use Rattle.cli_words.specs.declared.options.Opts.{Opts}
use Rattle.guest_dues.specs.declared.due.Due.{Due}

-- how a run goes
abbrev pub schedule : Opts → Schedule
schedule opts = record { period = opts.period; quantum = opts.quantum; steps = opts.steps }

-- the seed of its layouts: that of the words, or else the one that is handed in
abbrev pub seed_for : Opts → (seed : List ℕ) → List ℕ
seed_for opts seed = unwrap_or opts.seed seed

-- where a run of the file comes from
abbrev pub origin_of : (file input seed : List ℕ) → Origin
origin_of file input seed = record { file = file; input = input; seed = seed }

-- what the run of a machine that has done nothing leaves: the journal is that of the serial order
abbrev pub run_by : Opts → Past → Past
run_by opts m = record m { journal = serial_list m.image m.origin.input (schedule opts) }

-- what a run of the file's image leaves
abbrev pub past_of : Opts → Image → (file input seed : List ℕ) → Past
past_of opts image file input seed = run_by opts (opening image (origin_of file input seed))

-- the form of the report that the words ask for
abbrev pub form_of : Opts → Form
form_of opts = if opts.full then Full else Short

-- the report on a run
abbrev pub report_of : Opts → Past → List ℕ
report_of opts m = report_text (form_of opts) m.image m.origin opts.period m.journal

-- the status of a run, by its end: the run may go on after its last instruction
abbrev pub run_status : Option End → ℕ
run_status (Some (Exit code)) = if nat_lt 0 code then 1 else 0
run_status (Some (Trapped kind hart pair value)) = 2
run_status (Some (Leak hart pair)) = 3
run_status None = 4

-- a run that was made: what goes to out and to the report, its end, and the machine where one was moved
abbrev pub ended_due : (out : List ℕ) (report : Option (List ℕ)) → Option End → Option Past → Due
ended_due out report end machine =
    record { store = None; out = Some out; report = report; status = run_status end; end = end; machine = machine }

-- of a moved machine: all that the unmoved machine wrote, and the report
abbrev pub ran_due : Opts → Past → Due
ran_due opts m = ended_due (guest_of m).output (Some (report_of opts m)) (guest_of m).end (Some m)

-- a run of an accepted file
abbrev pub accepted_due : Opts → (file input seed : List ℕ) → Due
accepted_due opts file input seed = ran_due opts (past_of opts (framed_image file) file input (seed_for opts seed))
