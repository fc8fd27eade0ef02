-- SPDX-License-Identifier: Apache-2.0
-- A name ends by a zero byte exactly where it begins before the end of the last one.
use Rattle.std.proofs.Common.{◌≡◌, ℕ, zero, suc, ◌+◌, ◌<◌, Bool, cond, List, [], ◌∷◌, ◌++◌, length, take, refl, ap, ◌∙◌, arith}
use Rattle.std.specs.Prelude.{◌==◌, nat_lt, nat_le, not, slice_index}
use Rattle.std.specs.List.{list_any}
use Rattle.std.proofs.lemmas.Bool.Decides.{nat_tests}
use Rattle.std.proofs.lemmas.Grind.{common_steps}
use Rattle.std.proofs.Math.Path.{fun_ext}
use Rattle.elf_rules.specs.declared.elf.RawSymbol.{RawSymbol}
use Rattle.elf_rules.specs.declared.elf.Head.{Head}
use Rattle.elf_rules.specs.Elf.{ends}
use Rattle.elf_symbols.specs.Zeros.{zero_end}

any_zero : (names : List ℕ) → list_any (λ c. c == 0) names ≡ nat_lt 0 (zero_end names)
any_zero [] = refl
any_zero (c ∷ cs) =
    let ih = any_zero cs in
    grind (arith, nat_tests, ih)

ends_is : (names : List ℕ) (place : ℕ) → ends names place ≡ nat_lt place (zero_end names)
unfolding ends
ends_is [] zero = refl
ends_is [] (suc place) = grind (arith, nat_tests)
ends_is (c ∷ cs) zero = any_zero (c ∷ cs)
ends_is (c ∷ cs) (suc place) =
    let ih = ends_is cs place in
    grind (arith, nat_tests, ih)

zero_end_push : (names : List ℕ) (c : ℕ) → zero_end (names ++ c ∷ []) ≡ cond (c == 0) (length names + 1) (zero_end names)
zero_end_push [] c = grind (arith, nat_tests)
zero_end_push (x ∷ names) c =
    let ih = zero_end_push names c in
    grind (arith, nat_tests, ih)

pub zero_end_more : (names : List ℕ) (i : ℕ) → i < length names → zero_end (take (i + 1) names) ≡ cond (slice_index names i == 0) (i + 1) (zero_end (take i names))
zero_end_more names i h =
    let t : take (i + 1) names ≡ take i names ++ slice_index names i ∷ [] = grind (arith, common_steps) in
    let l : length (take i names) ≡ i = grind (arith, common_steps) in
    rw t (zero_end_push (take i names) (slice_index names i) ∙ ap (λ n. cond (slice_index names i == 0) (n + 1) (zero_end (take i names))) l)

open_is : (names : List ℕ) (place : ℕ) → not (ends names place) ≡ nat_le (zero_end names) place
open_is names place =
    let e = ends_is names place in
    rw e (grind (arith, nat_tests))

pub open_symbols : (names : List ℕ) (symbols : List RawSymbol) → list_any (λ (s : RawSymbol). not (ends names s.name)) symbols ≡ list_any (λ (s : RawSymbol). nat_le (zero_end names) s.name) symbols
open_symbols names symbols = ap (λ (p : RawSymbol → Bool). list_any p symbols) (fun_ext (λ s. open_is names s.name))

pub open_heads : (names : List ℕ) (heads : List Head) → list_any (λ (h : Head). not (ends names h.name)) heads ≡ list_any (λ (h : Head). nat_le (zero_end names) h.name) heads
open_heads names heads = ap (λ (p : Head → Bool). list_any p heads) (fun_ext (λ h. open_is names h.name))
