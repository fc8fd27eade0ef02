-- SPDX-License-Identifier: Apache-2.0
-- What a run of a guest comes to, by the machine that runs it.
use Rattle.std.specs.Prelude.{ℕ, List}
use Rattle.image_rules.specs.Framed.{framed_image}
use Rattle.cli_words.specs.declared.options.Opts.{Opts}
use Rattle.guest_dues.specs.declared.due.Due.{Due}
use Rattle.guest_dues.specs.declared.way.Way.{Way}
use Rattle.guest_dues.specs.declared.way.Way.TheVariants.{Moved}
use Rattle.guest_dues.specs.declared.way.Way.TheVariants as way
use Rattle.guest_dues.specs.Plain.{plain_due}
use Rattle.guest_dues.specs.Run.{accepted_due}

-- what is due for a guest that was run so
abbrev pub guest_due : Way → Opts → (file input : List ℕ) → Due
guest_due (Moved seed) opts file input = accepted_due opts file input seed
guest_due way.Plain opts file input = plain_due opts (framed_image file) input
