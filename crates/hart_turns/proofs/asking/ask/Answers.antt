-- SPDX-License-Identifier: Apache-2.0
use Rattle.std.proofs.Common.{ℕ, List, ◌++◌, ◌∷◌, [], refl, ap, ◌∙◌, length}
use Rattle.std.specs.Prelude.{slice_index}
use Rattle.guest_mem.specs.Held.{plain_of, regions_of}
use Rattle.hart_turns.specs.Calling.{answer_by, answer_for, call_at, lives_of, more_of, with_output}
use Rattle.hart_turns.specs.Meant.{meant, setting_of}
use Rattle.hart_turns.proofs.Calling.{told, joined, call_is}
use Rattle.hart_turns.proofs.asking.ask.Goals as goal

pub returns-clause-answer : goal.returns-clause-answer
returns-clause-answer c =
    let h = c.args.hart.now in
    let args : List ℕ = slice_index h.regs 10 ∷ slice_index h.regs 11 ∷ slice_index h.regs 12 ∷ slice_index h.regs 13 ∷ slice_index h.regs 14 ∷ slice_index h.regs 15 ∷ slice_index h.regs 16 ∷ slice_index h.regs 17 ∷ [] in
    let st = c.args.state.now in
    let e = c.in_ok-did.ensures in
    let host = c.environment-did.new.host in
    c.told.ensures ∙ ap (λ x. answer_by x host.taken host.begun) e.did
    ∙ told h.number (length (lives_of c.deref.result.now)) _ c.deref.result.now _ (regions_of st.memory) _ (plain_of st.memory) _ c.as_slice.result.now _ c.unread.result.now _ c.replace-output.result.items host.output.items host.taken host.begun e.seen
    ∙ ap answer_for (call_is c.args.code.now st h c.deref.result.now c.as_slice.result.now c.unread.result.now c.replace-output.result.items args c.requires.code c.requires.mapped c.deref.ensures.value c.as_slice.ensures c.unread.ensures.rest refl refl refl refl refl)

pub returns-clause-meant : goal.returns-clause-meant
returns-clause-meant c =
    let h = c.args.hart.now in
    let args : List ℕ = slice_index h.regs 10 ∷ slice_index h.regs 11 ∷ slice_index h.regs 12 ∷ slice_index h.regs 13 ∷ slice_index h.regs 14 ∷ slice_index h.regs 15 ∷ slice_index h.regs 16 ∷ slice_index h.regs 17 ∷ [] in
    let st = c.args.state.now in
    let s = meant c.args.code.now st in
    let host = c.environment-did.new.host in
    ap (with_output s)
    (joined h.number _ c.deref.result.now _ (regions_of st.memory) _ (plain_of st.memory) _ c.as_slice.result.now _ c.unread.result.now _ c.replace-output.result.items host.output.items host.taken host.begun c.in_ok-did.ensures.seen
    ∙ ap (λ d. c.replace-output.result.items ++ more_of d) (call_is c.args.code.now st h c.deref.result.now c.as_slice.result.now c.unread.result.now c.replace-output.result.items args c.requires.code c.requires.mapped c.deref.ensures.value c.as_slice.ensures c.unread.ensures.rest refl refl refl refl refl)
    ∙ ap (λ (v : List ℕ). v ++ more_of (call_at (setting_of c.args.code.now) s h)) (ap (λ v. v.items) c.replace-output.ensures.value))
