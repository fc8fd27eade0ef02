-- SPDX-License-Identifier: Apache-2.0
-- What a file is judged to be.
use Rattle.std.specs.Prelude.{◌≡◌, List, ℕ, IsSomeAnd}
use Rattle.image_rules.specs.Framed.{refusal_of}
use Rattle.guest_dues.specs.Loaded.{IsImageOf}
use Rattle.cli_rows.specs.declared.judging.Judged.{Judged}
use Rattle.cli_rows.specs.declared.judging.Judged.TheVariants.{Accepted, Refused}
use Rattle.cli_rows.specs.Rows.{refused_due}

-- the image of a file that is accepted, or what is due for its refusal
abbrev pub IsJudged : List ℕ → Judged → Type 0
IsJudged file (Accepted image) = IsImageOf file image
IsJudged file (Refused due) = IsSomeAnd (refusal_of file) (λ fault. due ≡ refused_due fault)
