-- SPDX-License-Identifier: Apache-2.0
use Rattle.layout_maker.proofs.Keying.{keys_small}
use Rattle.layout_maker.proofs.laws.keys_are_small.Goals as goal

pub returns : goal.returns
returns c = keys_small
