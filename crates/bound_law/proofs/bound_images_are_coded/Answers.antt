-- SPDX-License-Identifier: Apache-2.0
use Rattle.bound_law.proofs.Coded.{bound_coded}
use Rattle.bound_law.proofs.bound_images_are_coded.Goals as goal

pub returns : goal.returns
returns c = bound_coded
