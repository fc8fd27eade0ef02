-- SPDX-License-Identifier: Apache-2.0
use Rattle.std.proofs.Common.{List, length, ap, ◌∙◌, sym, subst}
use Rattle.sh_types.specs.declared.relocs.Reloc.{Reloc}
use Rattle.guest_image.specs.Records.{AreFirst}
use Rattle.guest_image.specs.Walks.{IsFrameOf}
use Rattle.guest_image.proofs.Walking.{gathers, length_each}
use Rattle.guest_image.proofs.frames.all_frames.Goals as goal

pub gathered-requires-clause-many : goal.gathered-requires-clause-many
gathered-requires-clause-many g c =
    length_each (IsFrameOf c.args.bound.now.image c.deref.result.now) 0 (length c.args.bound.now.image.functions) c.in_ok-found.found.items c.in_ok-found.ensures
    ∙ sym (ap length c.as_slice-functions.ensures)

pub returns : goal.returns
returns g c =
    gathers c.args.bound.now.image c.args.bound.now.relocs c.as_slice-functions.result.now c.deref.result.now c.in_ok-refused.refused.items c.in_ok-found.found.items c.gathered.result c.as_slice-functions.ensures c.deref.ensures.value
    (subst (λ (relocs : List Reloc). AreFirst c.as_slice-functions.result.now c.args.bound.now.image.entry relocs c.in_ok-refused.refused.items) c.as_slice.ensures c.in_ok-refused.ensures) c.in_ok-found.ensures c.gathered.ensures
