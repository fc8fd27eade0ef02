-- SPDX-License-Identifier: Apache-2.0
-- An instruction of a hart that can go, by what comes of it.
use Rattle.std.proofs.Common.{◌≡◌, ℕ, true, Some, refl, sym, ap, ◌∙◌}
use Rattle.std.specs.Prelude.{slice_get, if◌then◌else◌}
use Rattle.sh_types.specs.declared.code.Image.{Image}
use Rattle.sh_machines.specs.Need.{Outcome}
use Rattle.sh_machines.specs.Unmoved.{Thread, Content, Unmoved, can_go, on_thread, then_leaves, unmoved_step}
use Rattle.ref_machine.specs.Next.{outcome_of, next_outcome}
use Rattle.ref_machine.proofs.Lives.{can_there}

pub step_is : (i : Image) (n : ℕ) (u : Unmoved) (t : Thread) → can_go u n ≡ true → slice_get u.threads n ≡ Some t → unmoved_step i n u ≡ then_leaves i u n t (next_outcome i n u)
unfolding unmoved_step
step_is i n u t c e =
    ap (λ b. if b then on_thread i u n (slice_get u.threads n) else u) c
    ∙ ap (on_thread i u n) e
    ∙ ap (λ x. then_leaves i u n t (outcome_of i u.contents x)) (sym e)

-- the code has done what comes of it
pub done_by : (i : Image) (n : ℕ) (u u' : Unmoved) (t : Thread) (out : Outcome Thread Content) → can_go u n ≡ true → slice_get u.threads n ≡ Some t → next_outcome i n u ≡ out → u' ≡ then_leaves i u n t out → u' ≡ unmoved_step i n u
done_by i n u u' t out c e x eu = eu ∙ sym (step_is i n u t c e ∙ ap (then_leaves i u n t) x)
