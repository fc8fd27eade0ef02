-- SPDX-License-Identifier: Apache-2.0
use Rattle.std.proofs.Common.{[], ap, ◌∙◌, arith}
use Rattle.sh_machines.specs.Serial.{cleared_away}
use Rattle.sh_machines.specs.Unmoved.{Unmoved, goes_still}
use Rattle.hart_runner.specs.Standing.{pace_of}
use Rattle.hart_runner.proofs.Boundaries.{cleared, publication_of, readying, half_ready}
use Rattle.hart_runner.proofs.Stills.{on_err, ok_then, err_then, part_within, still_on, still_last}
use Rattle.hart_runner.proofs.serial.make_ready.Goals as goal

pub returns-in_err-clear-clause-err : goal.returns-in_err-clear-clause-err
returns-in_err-clear-clause-err g c =
    let p = c.args.machine.now in
    on_err _ (part_within p p _ _ (cleared_away (pace_of p)) (publication_of p) (readying p c.args.period (cc (c.is_due.ensures, c.if-not-is_due.false))) c.in_err-clear.ensures.err)

pub publication-requires-clause-goes : goal.publication-requires-clause-goes
publication-requires-clause-goes g c =
    let q = cleared c.args.machine.now c.clear.new.machine c.args.period c.requires.period c.requires.paced c.requires.step (cc (c.is_due.ensures, c.if-not-is_due.false)) c.in_ok-clear.ensures.ok in
    ap (λ (u : Unmoved). goes_still u.end) q.guest ∙ c.requires.goes

pub publication-requires-clause-due : goal.publication-requires-clause-due
publication-requires-clause-due g c =
    (cleared c.args.machine.now c.clear.new.machine c.args.period c.requires.period c.requires.paced c.requires.step (cc (c.is_due.ensures, c.if-not-is_due.false)) c.in_ok-clear.ensures.ok).at

pub publication-requires-clause-one : goal.publication-requires-clause-one
publication-requires-clause-one g c =
    (cleared c.args.machine.now c.clear.new.machine c.args.period c.requires.period c.requires.paced c.requires.step (cc (c.is_due.ensures, c.if-not-is_due.false)) c.in_ok-clear.ensures.ok).older

pub publication-requires-clause-room : goal.publication-requires-clause-room
publication-requires-clause-room g c =
    let q = cleared c.args.machine.now c.clear.new.machine c.args.period c.requires.period c.requires.paced c.requires.step (cc (c.is_due.ensures, c.if-not-is_due.false)) c.in_ok-clear.ensures.ok in
    let room = c.requires.room in
    omega (arith, q.newest, room)

pub returns-clause-ok : goal.returns-clause-ok
returns-clause-ok g c =
    let p = c.args.machine.now in
    let q = c.clear.new.machine in
    let s = half_ready p q c.args.period (cc (c.is_due.ensures, c.if-not-is_due.false)) c.in_ok-clear.ensures.ok in
    ok_then c.publication.result (λ e. still_last p _ _ (still_on p q _ _ (publication_of q) [] s e)) c.publication.ensures.ok

pub returns-clause-err : goal.returns-clause-err
returns-clause-err g c =
    let p = c.args.machine.now in
    let q = c.clear.new.machine in
    let s = half_ready p q c.args.period (cc (c.is_due.ensures, c.if-not-is_due.false)) c.in_ok-clear.ensures.ok in
    err_then c.publication.result (λ e. part_within p q _ _ (publication_of q) [] s e) c.publication.ensures.err
