-- SPDX-License-Identifier: Apache-2.0
use Rattle.bound_law.proofs.Tokens.{tokens_found}
use Rattle.bound_law.proofs.tokens_are_apart.Goals as goal

pub returns : goal.returns
returns c = tokens_found
