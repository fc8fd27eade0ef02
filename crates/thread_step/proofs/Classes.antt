-- SPDX-License-Identifier: Apache-2.0
-- The kind of the word at a pair, by what is looked up there.
use Rattle.std.proofs.Common.{◌≡◌, ◌<◌, false, true, Some, None, refl, arith}
use Rattle.std.specs.Prelude.{◌==◌, slice_index}
use Rattle.std.proofs.lemmas.Bool.Decides.{nat_tests}
use Rattle.rv_table.specs.Decoding.{decoded}
use Rattle.rv_table.specs.declared.instructions.Instr.{Instr}
use Rattle.sh_machines.specs.Kind.{Illegal, Past, kind_at, site_kind}
use Rattle.sh_types.specs.Image.{site_at, sizes_of, word_at}
use Rattle.sh_types.specs.declared.code.Image.{Image}
use Rattle.sh_types.specs.declared.code.Pair.{Pair}

-- inside its function, an instruction goes by its class
pub class_kind : (image : Image) (p : Pair) (i : Instr) → p.off < slice_index (sizes_of image) p.func → decoded (word_at image p) ≡ Some i → kind_at image p ≡ site_kind image p (site_at image p) i
unfolding kind_at
class_kind image p i lt e =
    let inside : (p.off == slice_index (sizes_of image) p.func) ≡ false = grind (arith, nat_tests) in
    rw (inside, e) refl

pub past_kind : (image : Image) (p : Pair) → (p.off == slice_index (sizes_of image) p.func) ≡ true → kind_at image p ≡ Past
unfolding kind_at
past_kind image p t = rw t refl

pub nothing_kind : (image : Image) (p : Pair) → (p.off == slice_index (sizes_of image) p.func) ≡ false → decoded (word_at image p) ≡ None → kind_at image p ≡ Illegal
unfolding kind_at
nothing_kind image p t e = rw (t, e) refl

-- inside its function, a word without an instruction
pub nothing_inside : (image : Image) (p : Pair) → p.off < slice_index (sizes_of image) p.func → decoded (word_at image p) ≡ None → kind_at image p ≡ Illegal
nothing_inside image p lt e = nothing_kind image p (grind (arith, nat_tests)) e
