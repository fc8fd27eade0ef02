-- SPDX-License-Identifier: Apache-2.0
use Rattle.image_binding.proofs.Refusing.{as_file}
use Rattle.image_binding.proofs.bindable.file_functions.Goals as goal

pub returns : goal.returns
returns c = as_file c.args.bytes.now c.args.elf.now c.args.symbols.now c.few_functions.result c.requires.read c.requires.symbols c.few_functions.ensures
