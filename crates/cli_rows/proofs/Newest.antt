-- SPDX-License-Identifier: Apache-2.0
-- The number of the newest layout of a machine.
use Rattle.std.proofs.Common.{◌≡◌, ℕ, List, refl, ap, ◌∙◌}
use Rattle.layout_maker.specs.Layout.{layout_of}
use Rattle.sh_types.specs.declared.code.Image.{Image}
use Rattle.sh_types.specs.declared.layouts.Layout.{Layout}
use Rattle.shuf_machine.specs.declared.answers.Origin.{Origin}
use Rattle.shuf_machine.specs.Run.{setting_of}

number_is : (sizes seed : List ℕ) (n : ℕ) → (layout_of sizes seed n).number ≡ n
unfolding layout_of
number_is sizes seed n = refl

pub newest_number : (image : Image) (o : Origin) (n : ℕ) (l : Layout) → l ≡ (setting_of image o).layout_at n → l.number ≡ n
newest_number image o n l is = ap (λ (x : Layout). x.number) is ∙ number_is _ o.seed n
