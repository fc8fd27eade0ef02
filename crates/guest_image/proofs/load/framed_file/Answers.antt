-- SPDX-License-Identifier: Apache-2.0
use Rattle.std.proofs.Common.{List, length, ap, ◌∙◌}
use Rattle.sh_types.specs.declared.code.FrameTable.{FrameTable}
use Rattle.image_rules.specs.Framed.{all_literals}
use Rattle.guest_image.specs.Literals.{framed}
use Rattle.guest_image.proofs.Loading.{accepted, file_fits, image_is, same_length, unframed}
use Rattle.guest_image.proofs.load.framed_file.Goals as goal

pub returns-in-Err : goal.returns-in-Err
returns-in-Err g c = unframed c.args.bytes.now c.args.bound c.in-Err.fault c.requires.bindable c.requires.bound c.in-Err.ensures

pub all_literals-requires-clause-frames : goal.all_literals-requires-clause-frames
all_literals-requires-clause-frames g c = ap length c.as_slice.ensures ∙ same_length c.args.bound c.in-Ok.frames c.in-Ok.ensures.1

pub returns-in_ok-literals-in-Ok : goal.returns-in_ok-literals-in-Ok
returns-in_ok-literals-in-Ok g c =
    let b = c.args.bytes.now in
    let file = c.args.bound in
    let none = c.in-Ok.ensures.0 in
    let numbers = c.in_ok-literals-in-Ok.ensures ∙ ap (λ (ts : List FrameTable). all_literals (framed file.image ts) file.relocs 0 file.image.functions) c.as_slice.ensures in (
      accepted b file c.requires.bindable c.requires.bound none,
      record {
        image = c.with_frames.ensures ∙ image_is b file c.in-Ok.frames c.in_ok-literals-in-Ok.literals c.requires.bound c.in-Ok.ensures.1 numbers;
        fit = file_fits b file c.requires.bound none;
      },
    )
