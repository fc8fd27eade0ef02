-- SPDX-License-Identifier: Apache-2.0
use Rattle.std.proofs.Common.{◌≡◌, true, Some, None, sym, ap, ◌∙◌, subst}
use Rattle.std.specs.Prelude.{slice_get, IfOk}
use Rattle.std.specs.Option.{option_copied}
use Rattle.sh_types.specs.declared.runs.Hart.{Hart}
use Rattle.shuf_machine.proofs.Living.{none_owned, live_up, words_are}
use Rattle.shuf_machine.proofs.returns.return_words.Goals.{in_default-via-in-Some+else-hart, in_default-via-in_default}
use Rattle.shuf_machine.proofs.returns.return_words.Goals as goal

pub live_words-requires-clause-up : goal.live_words-requires-clause-up
live_words-requires-clause-up c =
    live_up c.instructions_are_counted.ensures.few c.harts_are_placed.ensures.number c.harts_are_placed.ensures.frames c.no_live_hart_on_an_erased_layout.ensures c.args.code.now c.args.state.now c.args.journal.now c.args.at c.in-Some.hart.now c.requires.is
    (sym c.hart_at.ensures ∙ ap option_copied c.in-Some.is) c.if-hart.true

pub returns-in-Some : goal.returns-in-Some
returns-in-Some c =
    subst (λ words. IfOk c.live_words.result (λ ws. ws ≡ words))
    (words_are c.harts_are_placed.ensures.number c.args.code.now c.args.state.now c.args.journal.now c.args.at c.in-Some.hart.now c.requires.is (sym c.hart_at.ensures ∙ ap option_copied c.in-Some.is))
    c.live_words.ensures

pub returns-in_default : goal.returns-in_default
returns-in_default c = c.new.ensures ∙ none_owned c.owners_are_live.ensures c.args.code.now c.args.state.now c.args.journal.now c.args.at c.requires.is dead
  where
    dead : (h : Hart) → slice_get c.args.state.now.harts.items c.args.at ≡ Some h → h.live ≡ true → ⊥
    dead h e live =
        elim c.in_default.branch [
          | in_default-via-in-Some+else-hart w ↦
              (let is : Some w.in-Some.hart.now ≡ Some h = sym (ap option_copied w.in-Some.is) ∙ c.hart_at.ensures ∙ e in
              let f = w.if-hart.false in
              cc)
          | in_default-via-in_default w ↦ (let is : None ≡ Some h = sym (ap option_copied w.in_default.is) ∙ c.hart_at.ensures ∙ e in cc)
        ]
