-- SPDX-License-Identifier: Apache-2.0
-- What comes of an instruction depends on the word that it touches.
use Rattle.std.proofs.Common.{◌≡◌, ℕ, Some, refl, ap}
use Rattle.sh_types.specs.declared.runs.Hart.{Hart}
use Rattle.sh_machines.specs.Need.{Need, Makes, Touches, answered, touched}
use Rattle.sh_machines.specs.Shuffled.{Owned}

pub sees : (need : Need Hart Owned) (m n : ℕ → Owned) → ((w : ℕ) → touched need ≡ Some w → m w ≡ n w) → answered need m ≡ answered need n
sees (Makes outcome) m n f = refl
sees (Touches word act) m n f = ap act (f word refl)
