-- SPDX-License-Identifier: Apache-2.0
use Rattle.loaded_law.proofs.Copied.{framed_copyable, framed_entry, framed_sized}
use Rattle.loaded_law.proofs.framed_images_are_copied.Goals as goal

pub returns : goal.returns
returns c = record { sized = framed_sized; entry = framed_entry; copyable = framed_copyable }
