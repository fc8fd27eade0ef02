-- SPDX-License-Identifier: Apache-2.0
use Rattle.std.proofs.Common.{◌∙◌, ap}
use Rattle.sh_base.proofs.Causes.{failed_cause}
use Rattle.sh_base.proofs.real_files.RealFilesFiles.load.Goals as goal

pub returns-in-Err-Failed-clause-cause : goal.returns-in-Err-Failed-clause-cause
returns-in-Err-Failed-clause-cause g c = failed_cause _ _ _ _ _ _ c.in_ok-from_str.ensures (c.in_ok-reserve.ensures.items ∙ ap (λ v. v.faults) c.self.view_is) c.push_in_room.ensures
