-- SPDX-License-Identifier: Apache-2.0
use Rattle.std.proofs.Common.{◌≡◌, ◌++◌, drop, string_bytes}
use Rattle.shuf_machine.specs.Past.{state_of}
use Rattle.period_report.specs.Full.{full_events}
use Rattle.period_report.specs.Replay.{setting_in, CanRun}
use Rattle.period_report.proofs.full.events.Given as goal

abbrev pub invariant-loop-one : goal.invariant-loop-one
invariant-loop-one g l =
    record {
      image : l.machine.image ≡ l.fn.machine.image;
      origin : l.machine.origin ≡ l.fn.machine.origin;
      can : CanRun l.machine (drop l.one-index l.of);
      text : string_bytes l.text ++ full_events (setting_in l.machine) l.machine.origin.seed (state_of l.machine) (drop l.one-index l.of) ≡ full_events (setting_in l.fn.machine) l.fn.machine.origin.seed (state_of l.fn.machine) l.of;
    }
