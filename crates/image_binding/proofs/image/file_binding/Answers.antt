-- SPDX-License-Identifier: Apache-2.0
use Rattle.image_binding.proofs.Bounds.{as_apart, few_labels}
use Rattle.image_binding.proofs.image.file_binding.Goals as goal

pub bind-requires-clause-apart : goal.bind-requires-clause-apart
bind-requires-clause-apart c = as_apart c.args.functions c.requires.coded

pub bind-requires-clause-few : goal.bind-requires-clause-few
bind-requires-clause-few c = few_labels c.args.functions c.args.relocs c.requires.coded (c.labels_are_few.ensures c.args.functions c.args.relocs)
