-- SPDX-License-Identifier: Apache-2.0
use Rattle.return_cipher.proofs.Opening.{opens, seals}
use Rattle.return_cipher.proofs.ciphers_open.Goals as goal

pub returns : goal.returns
returns c = record { opens = opens; seals = seals }
