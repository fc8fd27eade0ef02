-- SPDX-License-Identifier: Apache-2.0
-- Where a journal stands, by its instructions.
use Rattle.std.proofs.Common.{◌≡◌, ℕ, zero, suc, ◌+◌, List, [], ◌∷◌, ◌++◌, length, replicate, arith}
use Rattle.sh_types.specs.declared.code.Image.{Image}
use Rattle.sh_types.specs.declared.runs.Event.{Event}
use Rattle.sh_types.specs.declared.runs.Event.TheVariants.{Run, Migrate, Publish, Erase}
use Rattle.sh_machines.specs.Event.{written}
use Rattle.sh_machines.specs.Pace.{Pace, followed, paced_on, opening_pace, pace_after}
use Rattle.sh_machines.specs.Unmoved.{unmoved_run}
use Rattle.sh_law.proofs.Pacing.{guest_is}

run_long : (k n : ℕ) (ns : List ℕ) → length (replicate k n ++ ns) ≡ k + length ns
run_long zero n ns = omega arith
run_long (suc k) n ns = let r = run_long k n ns in omega (arith, r)

count_follows : (i : Image) (es : List Event) (b : Pace) → (followed i es b).count ≡ b.count + length (written es)
count_follows i [] b = omega arith
count_follows i (Run n k ∷ es) b =
    let q = count_follows i es (paced_on i (Run n k) b) in
    let r = run_long k n (written es) in
    omega (arith, q, r)
count_follows i (Migrate n ∷ es) b = count_follows i es (paced_on i (Migrate n) b)
count_follows i (Publish k ∷ es) b = count_follows i es (paced_on i (Publish k) b)
count_follows i (Erase k ∷ es) b = count_follows i es (paced_on i (Erase k) b)

pub pace_guest : (i : Image) (input : List ℕ) (es : List Event) → (pace_after i input es).guest ≡ unmoved_run i input (written es)
unfolding pace_after unmoved_run
pace_guest i input es = guest_is i es (opening_pace i input)

pub pace_count : (i : Image) (input : List ℕ) (es : List Event) → (pace_after i input es).count ≡ length (written es)
unfolding pace_after
pace_count i input es = let q = count_follows i es (opening_pace i input) in omega (arith, q)
