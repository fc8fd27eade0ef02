-- SPDX-License-Identifier: Apache-2.0
use Rattle.std.proofs.Common.{List, [], ◌∷◌, ◌++◌, sym, ◌∙◌, ap}
use Rattle.sh_types.specs.declared.runs.Event.{Event}
use Rattle.sh_types.specs.declared.runs.Event.TheVariants.{Run}
use Rattle.shuf_machine.specs.Meant.{meant}
use Rattle.shuf_machine.proofs.Runs.{can_run_on, reached_by, machine_ran, run_is_allowed, run_between, length_is}
use Rattle.shuf_machine.proofs.running.run.Goals as goal

pub run_hart-requires-clause-code : goal.run_hart-requires-clause-code
run_hart-requires-clause-code g c =
    let ic = c.requires.is.code in record { fits = ic.fits; setting = ic.setting; newest = ic.newest; older = ic.older }

pub run_hart-requires-clause-reached : goal.run_hart-requires-clause-reached
run_hart-requires-clause-reached g c = reached_by c.args.code.now c.args.state.now c.args.journal.now.items c.requires.is

pub run_hart-requires-clause-can : goal.run_hart-requires-clause-can
run_hart-requires-clause-can g c = can_run_on (meant c.args.code.now c.args.state.now) c.args.at (sym c.refusal.ensures ∙ c.in_ok-admit.ensures.none)

pub returns-in-Ok-clause-kept : goal.returns-in-Ok-clause-kept
returns-in-Ok-clause-kept g c =
    machine_ran c.args.code.now c.args.state.now c.run_hart.new.state c.args.journal.now.items c.push_reserved.new.self.items c.args.at c.args.limit c.in-Ok.count c.requires.is c.in-Ok.ensures.run c.run_hart.ensures.mapped (c.push_reserved.ensures.items ∙ ap (λ (l : List Event). l ++ Run c.args.at c.in-Ok.count ∷ []) c.admit.ensures.items)

pub returns-in-Ok-clause-length : goal.returns-in-Ok-clause-length
returns-in-Ok-clause-length g c =
    length_is c.runs_have_their_length.ensures c.args.code.now c.args.state.now (meant c.args.code.now c.run_hart.new.state) c.args.journal.now.items c.args.at c.args.limit c.in-Ok.count c.requires.is c.in-Ok.ensures.run

pub returns-in-Ok-clause-run : goal.returns-in-Ok-clause-run
returns-in-Ok-clause-run g c =
    run_between c.args.code.now c.args.state.now c.run_hart.new.state c.args.journal.now.items c.push_reserved.new.self.items c.args.at c.args.limit c.in-Ok.count c.requires.is (returns-in-Ok-clause-kept g c) c.in-Ok.ensures.run

pub returns-in-Ok-clause-allowed : goal.returns-in-Ok-clause-allowed
returns-in-Ok-clause-allowed g c =
    run_is_allowed c.args.code.now c.args.state.now (meant c.args.code.now c.run_hart.new.state) c.args.journal.now.items c.args.at c.args.limit c.in-Ok.count c.requires.is c.in-Ok.ensures.run
