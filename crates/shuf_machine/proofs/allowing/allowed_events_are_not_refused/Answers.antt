-- SPDX-License-Identifier: Apache-2.0
use Rattle.shuf_machine.proofs.Enabled.{erase_enabled}
use Rattle.shuf_machine.proofs.allowing.allowed_events_are_not_refused.Goals as goal

pub returns-clause-erase : goal.returns-clause-erase
returns-clause-erase c = erase_enabled
