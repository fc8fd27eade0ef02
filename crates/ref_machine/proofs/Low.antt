-- SPDX-License-Identifier: Apache-2.0
-- Behind an environment call of an image there is an offset.
use Rattle.std.proofs.Common.{◌≡◌, ◌≢◌, ℕ, zero, suc, ◌+◌, ◌*◌, ◌/◌, ◌==◌, ◌≤◌, ◌<◌, ◌^◌, Bool, true, false, Option, Some, None, List, [], ◌∷◌, length, refl, sym, ap, ◌∙◌, subst, arith}
use Rattle.std.specs.Prelude.{slice_index, slice_index_or, if◌then◌else◌}
use Rattle.std.proofs.lemmas.Bool.Decides.{nat_tests}
use Rattle.sh_types.specs.declared.code.Image.{Image}
use Rattle.sh_types.specs.declared.code.Pair.{Pair}
use Rattle.rv_table.specs.declared.instructions.Instr.{Instr}
use Rattle.rv_table.specs.Decoding.{decoded, op_in}
use Rattle.rv_table.specs.Instruction.{row_of}
use Rattle.sh_types.specs.Image.{sizes_of, word_at, site_at}
use Rattle.sh_types.specs.Sized.{total, IsSized}
use Rattle.sh_machines.specs.Fine.{IsFine}
use Rattle.sh_machines.specs.Kind.{Kind, Asks, Past, word_kind, kind_at}
use Rattle.ref_machine.specs.Meant.{IsCode}
use Rattle.thread_step.specs.Numbered.{IsWorded}

none_zero : decoded 0 ≡ None
unfolding decoded op_in row_of
none_zero = refl

there : (xs : List ℕ) (k : ℕ) → slice_index xs k ≢ 0 → k < length xs
there [] k ne = absurd (ne refl)
there (x ∷ xs) zero ne = omega arith
there (x ∷ xs) (suc k) ne = let l = there xs k ne in omega (arith, l)

size_few : (ss : List ℕ) (f : ℕ) → slice_index ss f ≤ total ss
size_few [] f = omega arith
size_few (s ∷ ss) zero = omega arith
size_few (s ∷ ss) (suc f) = let l = size_few ss f in omega (arith, l)

-- an offset within a function
offset_low : (off n size all : ℕ) → off / 4 < n → 4 * n ≡ size → size ≤ all → all ≤ 1048576 → off + 4 < 2 ^ 32
offset_low off n size all a b c d = omega (arith, a, b, c, d)

word_there : (image : Image) (p : Pair) (i : Instr) → decoded (word_at image p) ≡ Some i → word_at image p ≢ 0
word_there image p i e = λ z. clash (sym (ap decoded z ∙ none_zero) ∙ e)
  where
    clash : None ≡ Some i → ⊥
    clash q = absurd (cc)

pub asks_low : (image : Image) → IsSized (sizes_of image) → IsWorded image → (p : Pair) → kind_at image p ≡ Asks → p.off + 4 < 2 ^ 32
unfolding kind_at
asks_low image sized worded p k = by (p.off == slice_index (sizes_of image) p.func) k
  where
    low : (i : Instr) → decoded (word_at image p) ≡ Some i → p.off + 4 < 2 ^ 32
    low i e =
        offset_low p.off (length (slice_index_or image.words p.func [])) (slice_index (sizes_of image) p.func) (total (sizes_of image)) (there (slice_index_or image.words p.func []) (p.off / 4) (word_there image p i e)) (worded p.func) (size_few (sizes_of image) p.func) sized.fits

    at : (d : Option Instr) → decoded (word_at image p) ≡ d → word_kind image p (site_at image p) d ≡ Asks → p.off + 4 < 2 ^ 32
    at None e q = absurd (cc)
    at (Some i) e q = low i e

    by : (b : Bool) → (if b then Past else word_kind image p (site_at image p) (decoded (word_at image p))) ≡ Asks → p.off + 4 < 2 ^ 32
    by true q = absurd (cc)
    by false q = at (decoded (word_at image p)) refl q

pub code_is : (image : Image) → IsFine image → IsSized (sizes_of image) → IsWorded image → IsCode image
code_is image fine sized worded = record { rises = fine.ordered.rows_rise; low = asks_low image sized worded }
