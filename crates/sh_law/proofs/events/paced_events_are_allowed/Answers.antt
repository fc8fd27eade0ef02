-- SPDX-License-Identifier: Apache-2.0
use Rattle.sh_law.proofs.Ciphers.{is_cipher}
use Rattle.sh_law.proofs.Trailing.{allowed_is}
use Rattle.sh_law.proofs.events.paced_events_are_allowed.Goals as goal

pub returns : goal.returns
returns c = allowed_is is_cipher
