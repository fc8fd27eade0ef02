-- SPDX-License-Identifier: Apache-2.0
-- The instructions of one Run event, and the words that they ask a Fetch for. This project's own.
use Rattle.std.specs.Prelude.{◌≡◌, ℕ, zero, suc, ◌&&◌, nat_lt, Option, Some, None, List, [], ◌∷◌, ◌++◌, slice_get, if◌then◌else◌}
use Rattle.sh_types.specs.declared.fetching.Fetched.{Fetched}
use Rattle.sh_types.specs.declared.runs.Hart.{Hart}
use Rattle.sh_machines.specs.Event.{instructions, can_run}
use Rattle.sh_types.specs.Fetch.{fetched}
use Rattle.sh_machines.specs.Shuffled.{Setting, Shuffled, shuffled_step}
use Rattle.sh_law.specs.Length.{IsWhole}

-- the word that an instruction of this hart asks for
abbrev pub asked_by : Option Hart → List Fetched
asked_by None = []
asked_by (Some h) = fetched h.layout h.pc ∷ []

-- the words of k instructions of the hart
abbrev pub asked_of : Setting → ℕ → ℕ → Shuffled → List Fetched
asked_of o n zero s = []
asked_of o n (suc k) s = asked_by (slice_get s.harts n) ++ asked_of o n k (shuffled_step o n s)

-- those, and that of the environment call before which they stopped
abbrev pub asked_in : Setting → (n limit k : ℕ) → Shuffled → List Fetched
asked_in o n limit k s =
    asked_of o n k s ++ (if nat_lt k limit && can_run (instructions o n k s) n then asked_by (slice_get (instructions o n k s).harts n) else [])

-- the instructions of one Run event of at most `limit`
pub record IsRun (o : Setting) (n limit k : ℕ) (s s' : Shuffled) : Type 0 where
  -- as many as the limit allows, with an environment call only as the first
  pub whole : IsWhole o n limit k s
  pub state : s' ≡ instructions o n k s
