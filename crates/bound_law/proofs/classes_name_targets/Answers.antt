-- SPDX-License-Identifier: Apache-2.0
use Rattle.bound_law.proofs.Targets.{class_target}
use Rattle.bound_law.proofs.classes_name_targets.Goals as goal

pub returns : goal.returns
returns c = class_target
