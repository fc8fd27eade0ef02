-- SPDX-License-Identifier: Apache-2.0
use Rattle.std.proofs.Common.{◌≡◌, ℕ, List, subst}
use Rattle.std.specs.Prelude.{OnOk}
use Rattle.sh_machines.specs.PlainSerial.{plain_list}
use Rattle.ref_machine.specs.Meant.{state_of}
use Rattle.ref_machine.specs.Standing.{Held, opening, run_of, whole}
use Rattle.plain_memory.specs.Plain.{contents_of}
use Rattle.ref_machine.proofs.Opening.{run_keeps, plain_on}
use Rattle.ref_machine.proofs.plain.Plain.run.Goals as goal

pub invariant_of-self : goal.invariant_of-self
invariant_of-self c =
    run_keeps c.self.inside.code c.self.inside.state c.run.new.state c.self.inside.memory c.run.new.memory _ c.run.result c.self.invariant c.run.ensures.ok c.run.ensures.err c.run.ensures.regions c.run.ensures.room

pub returns-clause-plain : goal.returns-clause-plain
returns-clause-plain c =
    let s = c.self.inside.state in
    let t = c.run.new.state in
    let i = c.self.inside.code in
    let q = c.args.quantum in
    let steps = c.args.steps in
    let u = state_of t (contents_of c.run.new.memory) in
    subst (λ (h : Held). OnOk c.run.result ((input : List ℕ) → run_of h ≡ opening h.image input → record { image = i; state = u; count = t.count } ≡ whole h.image input (plain_list h.image input q steps))) c.self.view_is
    (plain_on i q steps s.count (state_of s (contents_of c.self.inside.memory)) t.count u c.run.result c.run.ensures.ok)
