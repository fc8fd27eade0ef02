-- SPDX-License-Identifier: Apache-2.0
use Rattle.std.proofs.Common.{ℕ, List, ap, arith}
use Rattle.std.specs.Prelude.{Option}
use Rattle.shuf_cli.specs.Answer.{SinkState}
use Rattle.shuf_cli.proofs.Answering.{finished, due_low}
use Rattle.shuf_cli.proofs.top.serial_command.Goals as goal

abbrev state : Option (List ℕ) → List (List ℕ) → ℕ → SinkState
state written taken faults = record { written = written; taken = taken; faults = faults }

pub deliver-outcome-requires : goal.deliver-outcome-requires
deliver-outcome-requires g c = λ e. let l = due_low _ _ _ _ _ c.in-Ok.ensures.came in absurd (omega (arith, e, l))

pub returns : goal.returns
returns g c = record {
  answer = finished _ _ _ _ _ _ c.in-Ok.ensures.came _ c.finish.ensures c.deliver-outcome.ensures.delivered _ c.deliver-outcome.ensures.memory
      (λ stands. (
        stands.0,
        ap (λ s. state (g.O.Sink.written s) (g.O.Sink.taken s) (g.O.Sink.faults s)) stands.1,
        ap (λ s. state (g.E.Sink.written s) (g.E.Sink.taken s) (g.E.Sink.faults s)) stands.2,
      ))
      c.deliver-outcome.ensures.answered c.deliver-outcome.ensures.grown;
}
