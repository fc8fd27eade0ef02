-- SPDX-License-Identifier: Apache-2.0
-- A machine that has done nothing.
use Rattle.std.proofs.Common.{◌≡◌, ℕ, List, [], refl, sym, ap, subst}
use Rattle.sh_types.specs.declared.runs.Event.{Event}
use Rattle.sh_machines.specs.Event.{state_after}
use Rattle.sh_machines.specs.Pace.{IsPaced, pace_after}
use Rattle.sh_machines.specs.Serial.{Schedule, serial_from, serial_list}
use Rattle.shuf_machine.specs.Past.{Past, opening, state_of}
use Rattle.hart_runner.specs.Standing.{image_in, pace_of}

fresh : (p : Past) → p.journal ≡ [] → p ≡ opening p.image p.origin
fresh p e = ap (λ (j : List Event). record { image = p.image; origin = p.origin; journal = j }) e

pub from_opening : (s : Schedule) (p : Past) → p.journal ≡ [] → serial_from (image_in p) s (pace_of p) ≡ serial_list (image_in p) p.origin.input s
unfolding serial_list pace_after
from_opening s p e = ap (λ (x : Past). serial_from (image_in p) s (pace_of x)) (fresh p e)

pub opening_paced : (period : ℕ) (p : Past) → p.journal ≡ [] → IsPaced (image_in p) p.origin.input period p.journal
unfolding IsPaced
opening_paced period p e = subst (λ (j : List Event). IsPaced (image_in p) p.origin.input period j) (sym e) refl

pub opening_count : (p : Past) → p.journal ≡ [] → (state_of p).count ≡ 0
unfolding state_after
opening_count p e = ap (λ (x : Past). (state_of x).count) (fresh p e)
