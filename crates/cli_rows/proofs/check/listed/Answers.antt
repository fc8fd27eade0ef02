-- SPDX-License-Identifier: Apache-2.0
use Rattle.cli_rows.proofs.Sizes.{few_functions}
use Rattle.cli_rows.proofs.check.listed.Goals as goal

pub listing-requires : goal.listing-requires
listing-requires c = few_functions c.args.image.now c.requires.sized
