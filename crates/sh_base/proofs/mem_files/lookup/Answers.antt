-- SPDX-License-Identifier: Apache-2.0
use Rattle.std.proofs.Common.{sym, ◌∙◌, ap}
use Rattle.std.specs.Prelude.{Some}
use Rattle.sh_base.proofs.Entries.{get_hit_read, get_miss}
use Rattle.sh_base.proofs.mem_files.lookup.Goals as goal

pub returns-in-Some : goal.returns-in-Some
returns-in-Some c =
    ap Some c.as_slice.ensures
    ∙ sym (get_hit_read c.args.names.now c.args.contents.now c.in-Some.at c.args.name.now c.index-contents-at.result c.requires c.index-contents-at.is c.in-Some.ensures.0 c.in-Some.ensures.1)

pub returns-in-None : goal.returns-in-None
returns-in-None c = sym (get_miss c.args.names.now c.args.contents.now c.args.name.now c.in-None.ensures)
