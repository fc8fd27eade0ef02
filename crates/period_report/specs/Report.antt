-- SPDX-License-Identifier: Apache-2.0
-- The report on a run, as a function of the image, what it was made from, the period and the events. This project's own
-- format.
use Rattle.std.specs.Prelude.{ℕ, List, ◌++◌}
use Rattle.sh_types.specs.declared.code.Image.{Image}
use Rattle.sh_types.specs.declared.runs.Event.{Event}
use Rattle.layout_maker.specs.Cell.{cell_of}
use Rattle.shuf_machine.specs.declared.answers.Origin.{Origin}
use Rattle.shuf_machine.specs.Run.{setting_of, first_state, shuffled_run}
use Rattle.period_report.specs.declared.writer.Form.{Form}
use Rattle.period_report.specs.declared.writer.Form.TheVariants.{Short, Full}
use Rattle.period_report.specs.Full.{layout_text, full_events}
use Rattle.period_report.specs.Text.{run_lines, line_of, layout_line, events_text, tail_text}

-- the lines on the opening layout and on the events
abbrev pub middle_text : Form → Image → Origin → List Event → List ℕ
middle_text Short image o events = layout_line 1 0 (cell_of o.seed 1) ++ events_text o.seed 0 events
middle_text Full image o events = layout_text (setting_of image o) o.seed 1 0 ++ full_events (setting_of image o) o.seed (first_state image o) events

-- the head, the opening layout, the events, the tail
unfoldable pub report_text : Form → Image → Origin → ℕ → List Event → List ℕ
report_text form image o period events = run_lines o.seed period ++ line_of image ++ middle_text form image o events ++ tail_text (shuffled_run image o events)
