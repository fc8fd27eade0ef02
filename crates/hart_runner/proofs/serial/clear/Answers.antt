-- SPDX-License-Identifier: Apache-2.0
use Rattle.std.proofs.Common.{◌≡◌, ◌-◌, true, [], ◌∷◌, ap, ◌∙◌}
use Rattle.sh_types.specs.declared.runs.Event.TheVariants.{Erase}
use Rattle.sh_machines.specs.Pace.{Pace}
use Rattle.sh_machines.specs.Serial.{migrations, cleared_away}
use Rattle.sh_machines.specs.Unmoved.{goes_still}
use Rattle.hart_runner.specs.Standing.{pace_of}
use Rattle.hart_runner.proofs.Boundaries.{clearing, emptied, erase_left}
use Rattle.hart_runner.proofs.Stills.{on_err, ok_then, err_then, part_same, part_within, still_on, still_last}
use Rattle.hart_runner.proofs.serial.clear.Goals as goal

pub returns-in_err-migrate_all-clause-err : goal.returns-in_err-migrate_all-clause-err
returns-in_err-migrate_all-clause-err g c =
    let p = c.args.machine.now in
    on_err _ (part_within p p _ _ (migrations (pace_of p).behind) _ (clearing p (cc (c.has_older.ensures, c.if-not-has_older.false))) c.in_err-migrate_all.ensures.err)

pub erase-requires-clause-goes : goal.erase-requires-clause-goes
erase-requires-clause-goes g c =
    ap (λ (x : Pace). goes_still x.guest.end) (emptied c.args.machine.now c.migrate_all.new.machine c.requires.pace c.in_ok-migrate_all.ensures.ok).pace ∙ c.requires.goes

pub erase-requires-clause-pace : goal.erase-requires-clause-pace
erase-requires-clause-pace g c = (emptied c.args.machine.now c.migrate_all.new.machine c.requires.pace c.in_ok-migrate_all.ensures.ok).keeps

pub erase-requires-clause-older : goal.erase-requires-clause-older
erase-requires-clause-older g c =
    let older : (pace_of c.args.machine.now).older ≡ true = cc (c.has_older.ensures, c.if-not-has_older.false) in
    ap (λ (x : Pace). x.older) (emptied c.args.machine.now c.migrate_all.new.machine c.requires.pace c.in_ok-migrate_all.ensures.ok).pace ∙ older

pub erase-requires-clause-none : goal.erase-requires-clause-none
erase-requires-clause-none g c =
    ap (λ (x : Pace). x.behind) (emptied c.args.machine.now c.migrate_all.new.machine c.requires.pace c.in_ok-migrate_all.ensures.ok).pace

pub returns-clause-ok : goal.returns-clause-ok
returns-clause-ok g c =
    let p = c.args.machine.now in
    let q = c.migrate_all.new.machine in
    let s = erase_left p p q (cleared_away (pace_of p)) (clearing p (cc (c.has_older.ensures, c.if-not-has_older.false))) (emptied p q c.requires.pace c.in_ok-migrate_all.ensures.ok) c.in_ok-migrate_all.ensures.ok in
    ok_then c.erase.result (λ e. still_last p _ (cleared_away (pace_of p)) (still_on p q _ (cleared_away (pace_of p)) (Erase ((pace_of q).newest - 1) ∷ []) [] s e)) c.erase.ensures.ok

pub returns-clause-err : goal.returns-clause-err
returns-clause-err g c =
    let p = c.args.machine.now in
    let q = c.migrate_all.new.machine in
    let s = erase_left p p q (cleared_away (pace_of p)) (clearing p (cc (c.has_older.ensures, c.if-not-has_older.false))) (emptied p q c.requires.pace c.in_ok-migrate_all.ensures.ok) c.in_ok-migrate_all.ensures.ok in
    err_then c.erase.result (λ e. part_same p q _ (cleared_away (pace_of p)) (Erase ((pace_of q).newest - 1) ∷ []) s e) c.erase.ensures.err
