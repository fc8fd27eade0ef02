-- SPDX-License-Identifier: Apache-2.0
-- In a legal list of events the layouts that are published are numbered one after the other.
use Rattle.std.proofs.Common.{◌≡◌, ℕ, List, [], ◌∷◌, Option, Some, None, refl, subst}
use Rattle.std.specs.Prelude.{slice_get}
use Rattle.sh_types.specs.declared.code.Image.{Image}
use Rattle.sh_types.specs.declared.runs.Event.{Event}
use Rattle.sh_types.specs.declared.runs.Event.TheVariants.{Run, Migrate, Publish, Erase}
use Rattle.sh_types.specs.declared.runs.Hart.{Hart}
use Rattle.sh_machines.specs.Event.{instructions, migrate, after_event, IsLegalFrom, IsLegalIn}
use Rattle.sh_machines.specs.Shuffled.{Setting, Shuffled, shuffled_start}
use Rattle.sh_law.proofs.Lists.{and_second, eq_of}
use Rattle.sh_law.proofs.Wiping.{all_same}
use Rattle.shuf_machine.specs.declared.answers.Origin.{Origin}
use Rattle.shuf_machine.specs.Run.{setting_of, IsLegal}
use Rattle.period_report.specs.Numbered.{IsNumbered}

move_keeps : (o : Setting) (s : Shuffled) (n : ℕ) (x : Option Hart) → (migrate o s n x).newest ≡ s.newest
move_keeps o s n None = refl
move_keeps o s n (Some h) = refl

numbered : (o : Setting) (es : List Event) (s : Shuffled) → IsLegalFrom o s es → IsNumbered s.newest es
numbered o [] s l = tt
numbered o (Run n k ∷ es) s l = (tt, subst (λ x. IsNumbered x es) (all_same o n k s).newest (numbered o es (instructions o n k s) l.1))
numbered o (Migrate n ∷ es) s l =
    (tt, subst (λ x. IsNumbered x es) (move_keeps o s n (slice_get s.harts n)) (numbered o es (migrate o s n (slice_get s.harts n)) l.1))
numbered o (Publish k ∷ es) s l = (eq_of _ _ (and_second _ _ (and_second _ _ l.0)), numbered o es (after_event o (Publish k) s) l.1)
numbered o (Erase k ∷ es) s l = (tt, numbered o es (after_event o (Erase k) s) l.1)

pub journal_numbered : (image : Image) (o : Origin) (events : List Event) → IsLegal image o events → IsNumbered 1 events
unfolding IsLegalIn
journal_numbered image o events l = numbered (setting_of image o) events (shuffled_start (setting_of image o)) l
