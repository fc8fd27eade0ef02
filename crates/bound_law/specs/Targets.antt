-- SPDX-License-Identifier: Apache-2.0
-- What the classes of words name. This project's own.
use Rattle.std.specs.Prelude.{◌≡◌, ◌≢◌, ◌⊎◌, ◌%◌, ◌<◌, length}
use Rattle.sh_types.specs.declared.code.Site.{Site}
use Rattle.sh_types.specs.declared.code.Site.TheVariants.{Plain, Literal, InnerJump, InnerBranch, DirectCall, DirectTail, IndirectCall, IndirectTail, ReturnLike, Environment, Stop}
use Rattle.sh_types.specs.declared.code.Site.TheVariants as site
use Rattle.sh_machines.specs.Class.{Source, size_of}

-- a jump or branch within the function goes to a word of it; a call goes to a function that is not the entry, and so does a
-- tail, or to the function itself
abbrev pub IsTarget : Source → Site → Type 0
IsTarget b Plain = Unit {0}
IsTarget b Literal = Unit {0}
IsTarget b (InnerJump to) = (to < size_of b) × (to % 4 ≡ 0)
IsTarget b (InnerBranch to) = (to < size_of b) × (to % 4 ≡ 0)
IsTarget b (DirectCall g) = (g < length b.functions) × (g ≢ b.entry)
IsTarget b (DirectTail g) = (g < length b.functions) × ((g ≢ b.entry) ⊎ (g ≡ b.func))
IsTarget b IndirectCall = Unit {0}
IsTarget b IndirectTail = Unit {0}
IsTarget b ReturnLike = Unit {0}
IsTarget b Environment = Unit {0}
IsTarget b Stop = Unit {0}
IsTarget b (site.Bad rule) = Unit {0}
