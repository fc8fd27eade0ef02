-- SPDX-License-Identifier: Apache-2.0
-- Numbers in lists of bytes, the lowest byte first.
use Rattle.std.proofs.Common.{◌≡◌, ℕ, zero, suc, ◌+◌, ◌-◌, ◌*◌, ◌^◌, ◌<◌, ◌≤◌, List, [], ◌++◌, length, take, drop, refl, sym, ap, ◌∙◌, subst, arith, get_or-drop, get_or-take, length-take-le, length-drop, append-nil}
use Rattle.std.specs.Prelude.{slice_index}
use Rattle.std.proofs.lemmas.List.{get_or_append_left, get_or-append_right, take_all, drop_all}
use borrow.Rule.Slice.PartMut.{mid_of, post_of, put_mid}
use Rattle.byteorder.specs.Endian.{little_from, little_number, little_bytes}
use Rattle.byteorder.specs.Numbers.{little_number-reads_back, length-bytes_low_first}
use Rattle.sh_machines.specs.Memory.{bytes_number}
use Rattle.plain_memory.specs.Changed.{PutsAt}
use Rattle.plain_memory.proofs.Pieces.{number_same}

little_is : (i n : ℕ) (xs : List ℕ) → little_from i n xs ≡ bytes_number (λ k. slice_index xs k) i n
little_is i zero xs = refl
little_is i (suc n) xs = ap (λ y. slice_index xs i + 256 * y) (little_is (suc i) n xs)

-- the number at the head of what stands from a place on
pub number_there : (n at : ℕ) (xs : List ℕ) → little_number n (drop at xs) ≡ bytes_number (λ k. slice_index xs k) at n
number_there n at xs =
    little_is 0 n (drop at xs) ∙ number_same (λ k. slice_index (drop at xs) k) (λ k. slice_index xs k) 0 at n (λ k l. get_or-drop at xs (0 + k) 0 ∙ ap (slice_index xs) (omega arith))

-- bytes in the place of as many
abbrev pub spliced : List ℕ → ℕ → List ℕ → ℕ → List ℕ
spliced xs at ys n = take at xs ++ (ys ++ drop n (drop at xs))

module _ (xs : List ℕ) (at : ℕ) (ys : List ℕ) (n : ℕ) (h : at + n ≤ length xs) (len : length ys ≡ n) where
  front : length (take at xs) ≡ at
  front = length-take-le at xs (omega (arith, h))

  spliced_below : (k : ℕ) → k < at → slice_index (spliced xs at ys n) k ≡ slice_index xs k
  spliced_below k l =
      get_or_append_left (take at xs) (ys ++ drop n (drop at xs)) 0 k (omega (arith, front, l)) ∙ get_or-take at xs k 0 l

  spliced_at : (k : ℕ) → at ≤ k → slice_index (spliced xs at ys n) k ≡ slice_index (ys ++ drop n (drop at xs)) (k - at)
  spliced_at k l = get_or-append_right (take at xs) (ys ++ drop n (drop at xs)) at k 0 front l

  spliced_above : (k : ℕ) → at + n ≤ k → slice_index (spliced xs at ys n) k ≡ slice_index xs k
  spliced_above k l =
      spliced_at k (omega (arith, l)) ∙ get_or-append_right ys (drop n (drop at xs)) n (k - at) 0 len (omega (arith, l))
      ∙ get_or-drop n (drop at xs) (k - at - n) 0 ∙ get_or-drop at xs (n + (k - at - n)) 0 ∙ ap (slice_index xs) (omega (arith, l))

-- a number's bytes in the place of as many
pub bytes_put : (xs : List ℕ) (at n v : ℕ) → at + n ≤ length xs → v < 256 ^ n → PutsAt xs (spliced xs at (little_bytes n v) n) at n v
bytes_put xs at n v h f =
    let len : length (little_bytes n v) ≡ n = length-bytes_low_first 0 n v in
    let tail : List ℕ = drop n (drop at xs) in
    record {
      number =
          number_same (λ k. slice_index (spliced xs at (little_bytes n v) n) k) (λ k. slice_index (little_bytes n v ++ tail) k) at 0 n
          (λ k l. spliced_at xs at (little_bytes n v) n h len (at + k) (omega arith) ∙ ap (slice_index (little_bytes n v ++ tail)) (omega arith))
          ∙ sym (little_is 0 n (little_bytes n v ++ tail)) ∙ little_number-reads_back n v tail f;
      below = spliced_below xs at (little_bytes n v) n h len;
      above = spliced_above xs at (little_bytes n v) n h len;
    }

-- the same where the bytes are put in what stands from a place on
pub there_put : (xs : List ℕ) (at n v : ℕ) (buf : List ℕ) → at + n ≤ length xs → v < 256 ^ n → buf ≡ little_bytes n v ++ drop n (mid_of at (length xs - at) xs) → PutsAt xs (put_mid at (length xs - at) xs buf) at n v
there_put xs at n v buf h f e =
    let long : length (drop at xs) ≤ length xs - at = omega (arith, length-drop at xs) in
    let mid : mid_of at (length xs - at) xs ≡ drop at xs = take_all (length xs - at) (drop at xs) long in
    let post : post_of at (length xs - at) xs ≡ [] = drop_all (length xs - at) (drop at xs) long in
    let whole : put_mid at (length xs - at) xs buf ≡ spliced xs at (little_bytes n v) n =
    ap (λ ys. take at xs ++ (buf ++ ys)) post ∙ ap (λ ys. take at xs ++ ys) (append-nil buf ∙ e ∙ ap (λ ys. little_bytes n v ++ drop n ys) mid) in
    subst (λ ys. PutsAt xs ys at n v) (sym whole) (bytes_put xs at n v h f)
