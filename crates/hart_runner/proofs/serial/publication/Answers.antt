-- SPDX-License-Identifier: Apache-2.0
use Rattle.std.proofs.Common.{◌-◌, [], ◌∷◌, ap, ◌∙◌}
use Rattle.sh_types.specs.declared.runs.Event.TheVariants.{Erase}
use Rattle.sh_machines.specs.Pace.{Pace}
use Rattle.sh_machines.specs.Serial.{migrations}
use Rattle.sh_machines.specs.Unmoved.{goes_still}
use Rattle.hart_runner.specs.Standing.{pace_of}
use Rattle.hart_runner.proofs.Boundaries.{publication_of, published, emptied, erase_left}
use Rattle.hart_runner.proofs.Stills.{on_err, ok_then, err_then, part_same, part_within, still_first, still_on, still_last}
use Rattle.hart_runner.proofs.serial.publication.Goals as goal

pub returns-in_err-publish-clause-err : goal.returns-in_err-publish-clause-err
returns-in_err-publish-clause-err g c =
    let p = c.args.machine.now in
    on_err _ (part_same p p _ _ _ (still_first p (publication_of p)) c.in_err-publish.ensures.err)

pub migrate_all-requires-clause-goes : goal.migrate_all-requires-clause-goes
migrate_all-requires-clause-goes g c = (published c.args.machine.now c.publish.new.machine c.requires.due c.in_ok-publish.ensures.ok).goes ∙ c.requires.goes

pub migrate_all-requires-clause-pace : goal.migrate_all-requires-clause-pace
migrate_all-requires-clause-pace g c = (published c.args.machine.now c.publish.new.machine c.requires.due c.in_ok-publish.ensures.ok).pace

pub returns-in_err-migrate_all-clause-err : goal.returns-in_err-migrate_all-clause-err
returns-in_err-migrate_all-clause-err g c =
    let p = c.args.machine.now in
    let q = c.publish.new.machine in
    let s = published p q c.requires.due c.in_ok-publish.ensures.ok in
    on_err _ (part_within p q _ _ (migrations (pace_of q).behind) _ s.still c.in_err-migrate_all.ensures.err)

pub erase-requires-clause-goes : goal.erase-requires-clause-goes
erase-requires-clause-goes g c =
    let q = c.publish.new.machine in
    let s = published c.args.machine.now q c.requires.due c.in_ok-publish.ensures.ok in
    ap (λ (x : Pace). goes_still x.guest.end) (emptied q c.migrate_all.new.machine s.pace c.in_ok-migrate_all.ensures.ok).pace ∙ s.goes ∙ c.requires.goes

pub erase-requires-clause-pace : goal.erase-requires-clause-pace
erase-requires-clause-pace g c =
    let q = c.publish.new.machine in
    let s = published c.args.machine.now q c.requires.due c.in_ok-publish.ensures.ok in
    (emptied q c.migrate_all.new.machine s.pace c.in_ok-migrate_all.ensures.ok).keeps

pub erase-requires-clause-older : goal.erase-requires-clause-older
erase-requires-clause-older g c =
    let q = c.publish.new.machine in
    let s = published c.args.machine.now q c.requires.due c.in_ok-publish.ensures.ok in
    ap (λ (x : Pace). x.older) (emptied q c.migrate_all.new.machine s.pace c.in_ok-migrate_all.ensures.ok).pace ∙ s.older

pub erase-requires-clause-none : goal.erase-requires-clause-none
erase-requires-clause-none g c =
    let q = c.publish.new.machine in
    let s = published c.args.machine.now q c.requires.due c.in_ok-publish.ensures.ok in
    ap (λ (x : Pace). x.behind) (emptied q c.migrate_all.new.machine s.pace c.in_ok-migrate_all.ensures.ok).pace

pub returns-clause-ok : goal.returns-clause-ok
returns-clause-ok g c =
    let p = c.args.machine.now in
    let q = c.publish.new.machine in
    let r = c.migrate_all.new.machine in
    let s = published p q c.requires.due c.in_ok-publish.ensures.ok in
    let t = erase_left p q r (publication_of p) s.still (emptied q r s.pace c.in_ok-migrate_all.ensures.ok) c.in_ok-migrate_all.ensures.ok in
    ok_then c.erase.result (λ e. still_last p _ (publication_of p) (still_on p r _ (publication_of p) (Erase ((pace_of r).newest - 1) ∷ []) [] t e)) c.erase.ensures.ok

pub returns-clause-err : goal.returns-clause-err
returns-clause-err g c =
    let p = c.args.machine.now in
    let q = c.publish.new.machine in
    let r = c.migrate_all.new.machine in
    let s = published p q c.requires.due c.in_ok-publish.ensures.ok in
    let t = erase_left p q r (publication_of p) s.still (emptied q r s.pace c.in_ok-migrate_all.ensures.ok) c.in_ok-migrate_all.ensures.ok in
    err_then c.erase.result (λ e. part_same p r _ (publication_of p) (Erase ((pace_of r).newest - 1) ∷ []) t e) c.erase.ensures.err
