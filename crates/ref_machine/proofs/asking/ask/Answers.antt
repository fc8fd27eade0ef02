-- SPDX-License-Identifier: Apache-2.0
use Rattle.std.proofs.Common.{ℕ, List, ◌++◌, ◌∷◌, [], refl, ap, ◌∙◌, length, drop}
use Rattle.std.specs.Prelude.{slice_index}
use Rattle.sh_types.specs.declared.code.Image.{Image}
use Rattle.plain_memory.specs.Access.{plain_in}
use Rattle.thread_acts.specs.Done.{meant}
use Rattle.ref_machine.specs.Calling.{answer_by, answer_for, call_at, lives_of, more_of, with_output}
use Rattle.ref_machine.specs.Meant.{state_of}
use Rattle.ref_machine.proofs.Calling.{told, joined, call_is}
use Rattle.ref_machine.proofs.asking.ask.Goals as goal

pub returns-clause-answer : goal.returns-clause-answer
returns-clause-answer g c =
    let t = c.args.thread.now in
    let regs : List ℕ = slice_index t.regs 10 ∷ slice_index t.regs 11 ∷ slice_index t.regs 12 ∷ slice_index t.regs 13 ∷ slice_index t.regs 14 ∷ slice_index t.regs 15 ∷ slice_index t.regs 16 ∷ slice_index t.regs 17 ∷ [] in
    let s = c.args.state.now in
    let x = g.M.Contents.contents c.args.memory.now in
    let regions = g.M.Contents.regions c.args.memory.now in
    let e = c.in_ok-did.ensures in
    let host = c.environment-did.new.host in
    let is = call_is c.args.code.now s x regions t c.deref.result.now c.as_slice.result.now c.unread.result.now c.replace-output.result.items regs c.requires.mapped c.deref.ensures.value (c.as_slice.ensures ∙ ap (λ (i : Image). i.rows) c.image.ensures) (c.unread.ensures.rest ∙ ap (drop s.read) c.as_slice-2.ensures) refl refl refl refl refl in
    c.told.ensures
    ∙ ap (λ d. answer_by d host.taken host.begun) e.did
    ∙ told t.number (length (lives_of c.deref.result.now)) _ c.deref.result.now _ regions _ (plain_in x) _ c.as_slice.result.now _ c.unread.result.now _ c.replace-output.result.items host.output.items host.taken host.begun e.seen
    ∙ ap answer_for is

pub returns-clause-state : goal.returns-clause-state
returns-clause-state g c =
    let t = c.args.thread.now in
    let regs : List ℕ = slice_index t.regs 10 ∷ slice_index t.regs 11 ∷ slice_index t.regs 12 ∷ slice_index t.regs 13 ∷ slice_index t.regs 14 ∷ slice_index t.regs 15 ∷ slice_index t.regs 16 ∷ slice_index t.regs 17 ∷ [] in
    let s = c.args.state.now in
    let x = g.M.Contents.contents c.args.memory.now in
    let regions = g.M.Contents.regions c.args.memory.now in
    let e = c.in_ok-did.ensures in
    let host = c.environment-did.new.host in
    let is = call_is c.args.code.now s x regions t c.deref.result.now c.as_slice.result.now c.unread.result.now c.replace-output.result.items regs c.requires.mapped c.deref.ensures.value (c.as_slice.ensures ∙ ap (λ (i : Image). i.rows) c.image.ensures) (c.unread.ensures.rest ∙ ap (drop s.read) c.as_slice-2.ensures) refl refl refl refl refl in
    ap (with_output (state_of s x))
    (joined t.number _ c.deref.result.now _ regions _ (plain_in x) _ c.as_slice.result.now _ c.unread.result.now _ c.replace-output.result.items host.output.items host.taken host.begun e.seen
    ∙ ap (λ d. c.replace-output.result.items ++ more_of d) is
    ∙ ap (λ (v : List ℕ). v ++ more_of (call_at c.args.code.now (state_of s x) (meant t))) (ap (λ v. v.items) c.replace-output.ensures.value))
