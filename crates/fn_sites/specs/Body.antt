-- SPDX-License-Identifier: Apache-2.0
-- A function whose words are classed.
use Rattle.std.specs.Prelude.{◌≡◌, ◌+◌, ◌*◌, ◌<◌, ◌^◌, ◌||◌, ℕ, Bool, List, length}
use Rattle.std.specs.List.Sorted.{IsNonDecreasing}
use Rattle.sh_types.specs.declared.code.Pair.{Pair}
use Rattle.sh_types.specs.declared.relocs.Reloc.{Reloc}
use Rattle.sh_machines.specs.Class.{Source, home_of}
use Rattle.sh_machines.specs.Constants.{any_leads, is_label_at}
use Rattle.fn_lookup.specs.Apart.{AreApart, home_in, size_in}
use Rattle.fn_sites.specs.declared.body.Body.{Body}
use Rattle.fn_sites.specs.Index.{is_among}

-- with the records and the labels that the index was made of
abbrev pub source : Body → List Reloc → List Pair → Source
source b relocs labels =
    record { func = b.func; functions = b.functions.now; words = b.words.now; relocs = relocs; labels = labels; entry = b.entry }

-- it is one of the functions, with four bytes for each word, and ends below 2 ^ 64; the targets are those of its jumps
-- and branches, rising
pub record IsBody (b : Body) : Type 0 where
  pub apart : AreApart b.functions.now
  pub func : b.func < length b.functions.now
  pub home : b.home ≡ home_in b.functions.now b.func
  pub size : b.size ≡ size_in b.functions.now b.func
  pub small : b.size < 2 ^ 32
  pub words : b.size ≡ 4 * length b.words.now
  pub low : b.home + b.size < 2 ^ 64
  pub rise : IsNonDecreasing b.targets.now
  pub targets : (a : ℕ) → is_among b.targets.now a ≡ any_leads a b.home b.words.now

-- a jump, a branch or a label of the function leads to word k
abbrev pub is_led : Source → ℕ → Bool
is_led b k = any_leads (home_of b + 4 * k) (home_of b) b.words || is_label_at b.labels b.func (4 * k)
