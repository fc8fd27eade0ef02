-- SPDX-License-Identifier: Apache-2.0
use Rattle.fn_sites.proofs.Listing.{count, class_there, none_there}
use Rattle.fn_sites.proofs.laws.words_have_their_classes.Goals as goal

pub returns : goal.returns
returns c = record { count = count; class = class_there; none = none_there }
