-- SPDX-License-Identifier: Apache-2.0
use Rattle.load_law.proofs.Records.{bytes_lie}
use Rattle.load_law.proofs.record_bytes_lie_in_files.Goals as goal

pub returns : goal.returns
returns c = bytes_lie
