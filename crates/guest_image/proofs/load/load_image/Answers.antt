-- SPDX-License-Identifier: Apache-2.0
use Rattle.std.proofs.Common.{◌≡◌, ℕ, ◌*◌, ◌<◌, ◌≤◌, [], length}
use Rattle.std.specs.Prelude.{All, slice_index, slice_index_or}
use Rattle.sh_types.specs.declared.code.Region.{Region}
use Rattle.sh_types.specs.Image.{sizes_of}
use Rattle.load_law.specs.Readable.{IsFull}
use Rattle.sh_machines.specs.Fine.{IsFine}
use Rattle.guest_image.proofs.Loading.{framable, of_framed, unbound}
use Rattle.guest_image.proofs.load.load_image.Goals as goal

pub returns-in-Err-clause-loads : goal.returns-in-Err-clause-loads
returns-in-Err-clause-loads g c = unbound c.args.bytes.now c.in-Err.fault c.in-Err.ensures

pub framed_file-requires-clause-framable : goal.framed_file-requires-clause-framable
framed_file-requires-clause-framable g c κs lives =
    let bindable = c.in-Ok.ensures.0 in
    framable c.args.bytes.now (c.bound_images_are_coded.ensures c.args.bytes.now bindable) (λ f l. c.bodies_can_be_walked.ensures.words c.args.bytes.now f bindable l) (λ f l. c.bodies_can_be_walked.ensures.sites c.args.bytes.now f l) (λ f l. c.bodies_can_be_walked.ensures.inside c.args.bytes.now f bindable l) (c.bodies_can_be_walked.ensures.labels c.args.bytes.now) c.in-Ok.bound c.in-Ok.ensures.1

pub returns-in-Ok-clause-fine : goal.returns-in-Ok-clause-fine
returns-in-Ok-clause-fine g c =
    of_framed IsFine c.args.bytes.now c.framed_file.result c.framed_file.ensures (λ fit. c.framed_images_are_fine.ensures c.args.bytes.now c.in-Ok.ensures.0 fit)

pub returns-in-Ok-clause-words : goal.returns-in-Ok-clause-words
returns-in-Ok-clause-words g c =
    of_framed (λ image. (f : ℕ) → 4 * length (slice_index_or image.words f []) ≡ slice_index (sizes_of image) f) c.args.bytes.now c.framed_file.result c.framed_file.ensures (λ fit f. c.framed_images_are_whole.ensures.words c.args.bytes.now f c.in-Ok.ensures.0)

pub returns-in-Ok-clause-apart : goal.returns-in-Ok-clause-apart
returns-in-Ok-clause-apart g c =
    of_framed (λ image. (j k : ℕ) (d : Region) → j < k → k < length image.regions → (slice_index_or image.regions j d).end ≤ (slice_index_or image.regions k d).start) c.args.bytes.now c.framed_file.result c.framed_file.ensures (λ fit j k d. c.framed_images_are_whole.ensures.apart c.args.bytes.now j k d c.in-Ok.ensures.0)

pub returns-in-Ok-clause-full : goal.returns-in-Ok-clause-full
returns-in-Ok-clause-full g c =
    of_framed (λ image. All IsFull image.regions) c.args.bytes.now c.framed_file.result c.framed_file.ensures (λ fit. c.framed_images_are_whole.ensures.full c.args.bytes.now c.in-Ok.ensures.0)
