-- SPDX-License-Identifier: Apache-2.0
-- The serial order of the unmoved machine alone: turns, with no layout and no period. This project's own.
use Rattle.std.specs.Prelude.{ℕ, zero, suc, ◌+◌, ◌-◌, ◌==◌, ◌||◌, Bool, not, List, [], ◌∷◌, ◌++◌, min, replicate, if◌then◌else◌}
use Rattle.sh_types.specs.declared.code.Image.{Image}
use Rattle.sh_machines.specs.Serial.{next_hart}
use Rattle.sh_machines.specs.Unmoved.{Unmoved, goes_still, can_go, unmoved_step, unmoved_from, unmoved_start}

-- so many instructions of a hart, and how many of the run came before
pub record Turn : Type 0 where
  pub hart : ℕ
  pub from : ℕ
  pub count : ℕ

-- the instructions of a hart up to its end or the run's, of so many at most
abbrev pub goes_for : Image → (hart left : ℕ) → Unmoved → ℕ
goes_for i h zero u = 0
goes_for i h (suc k) u = if can_go u h then suc (goes_for i h k (unmoved_step i h u)) else 0

-- the instructions of a turn, one hart number for each
abbrev pub written_turn : Turn → List ℕ
written_turn t = replicate t.count t.hart

-- and so of a list of turns
abbrev pub written_turns : List Turn → List ℕ
written_turns [] = []
written_turns (t ∷ ts) = written_turn t ++ written_turns ts

-- the run has ended or has all its instructions
abbrev pub is_over : (steps count : ℕ) → Unmoved → Bool
is_over steps count u = not (goes_still u.end) || (count == steps)

-- the turn of the least live hart from `low` on, or of the least
abbrev pub next_turn : Image → (quantum steps low count : ℕ) → Unmoved → Turn
next_turn i quantum steps low count u =
    let h = next_hart low u in record { hart = h; from = count; count = goes_for i h (min quantum (steps - count)) u }

-- at most so many turns, where `count` instructions were executed
abbrev pub turns_in : Image → (quantum steps most low count : ℕ) → Unmoved → List Turn
turns_in i quantum steps zero low count u = []
turns_in i quantum steps (suc k) low count u =
    if is_over steps count u then []
    else (let t = next_turn i quantum steps low count u in
    t ∷ turns_in i quantum steps k (t.hart + 1) (count + t.count) (unmoved_from i (written_turn t) u))

-- from where a run stands; each turn has an instruction, so there are at most `steps` turns
unfoldable pub plain_turns : Image → (quantum steps count : ℕ) → Unmoved → List Turn
plain_turns i quantum steps count u = turns_in i quantum steps steps 0 count u

-- the serial list of a run that is never moved: the hart of each instruction
unfoldable pub plain_list : Image → (input : List ℕ) → (quantum steps : ℕ) → List ℕ
plain_list i input quantum steps = written_turns (plain_turns i quantum steps 0 (unmoved_start i input))
