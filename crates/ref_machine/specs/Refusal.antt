-- SPDX-License-Identifier: Apache-2.0
-- Why an instruction is not done. This project's own.
use Rattle.std.specs.Prelude.{◌≡◌, ℕ, Option, Some, None, Result, Ok, Err, slice_get, if◌then◌else◌}
use Rattle.sh_machines.specs.Unmoved.{Unmoved, goes_still, is_alive}
use Rattle.ref_machine.specs.declared.answers.PlainNo.{PlainNo}
use Rattle.ref_machine.specs.declared.answers.PlainNo.TheVariants.{NoMemory, RunEnded, NoHart}

-- why the hart with this number cannot go, if it cannot
abbrev pub refusal : Unmoved → ℕ → Option PlainNo
refusal u n =
    if goes_still u.end then (if is_alive (slice_get u.threads n) then None else Some (NoHart n)) else Some RunEnded

-- that is what is answered; memory may be refused where the hart can go
abbrev pub Answers : Result (Unit {0}) PlainNo → Option PlainNo → Type 0
Answers (Ok done) why = why ≡ None
Answers (Err NoMemory) why = why ≡ None
Answers (Err RunEnded) why = why ≡ Some RunEnded
Answers (Err (NoHart n)) why = why ≡ Some (NoHart n)
