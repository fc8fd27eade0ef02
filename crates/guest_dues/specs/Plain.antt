-- SPDX-License-Identifier: Apache-2.0
-- What a run that is never moved comes to.
use Rattle.std.specs.Prelude.{ℕ, List, ◌++◌, Option, Some, None, codes, decimal, length}
use Rattle.sh_types.specs.declared.code.Image.{Image}
use Rattle.sh_types.specs.declared.runs.End.{End}
use Rattle.sh_machines.specs.PlainSerial.{plain_list}
use Rattle.sh_machines.specs.Unmoved.{Unmoved, unmoved_run}
use Rattle.period_report.specs.Text.{end_line}
use Rattle.cli_words.specs.declared.options.Opts.{Opts}
use Rattle.guest_dues.specs.declared.due.Due.{Due}
use Rattle.guest_dues.specs.Run.{ended_due}

-- the harts of its instructions, in their order
abbrev pub harts_of : Opts → Image → (input : List ℕ) → List ℕ
harts_of opts image input = plain_list image input opts.quantum opts.steps

-- the state that it leaves
abbrev pub left_by : Opts → Image → (input : List ℕ) → Unmoved
left_by opts image input = unmoved_run image input (harts_of opts image input)

-- how many instructions there were
unfoldable pub count_line : ℕ → List ℕ
count_line count = codes "instructions " ++ decimal count ++ codes "\n"

-- the report: how many instructions, and the end
abbrev pub plain_report : ℕ → Option End → List ℕ
plain_report count end = count_line count ++ end_line end

-- of the unmoved machine in this state, after so many instructions
abbrev pub stood_due : ℕ → Unmoved → Due
stood_due count u = ended_due u.output (Some (plain_report count u.end)) u.end None

-- a run that was made
abbrev pub plain_due : Opts → Image → (input : List ℕ) → Due
plain_due opts image input = stood_due (length (harts_of opts image input)) (left_by opts image input)
