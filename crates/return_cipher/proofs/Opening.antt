-- SPDX-License-Identifier: Apache-2.0
-- The cipher opens what it sealed, and seals what it opened.
use Rattle.std.proofs.Common.{◌≡◌, ℕ, zero, suc, ◌+◌, ◌-◌, ◌*◌, ◌/◌, ◌%◌, ◌^◌, ◌<◌, ◌≤◌, refl, sym, ap, ◌∙◌, subst, arith}
use Rattle.std.specs.Prelude.{bit_xor, bit_or}
use Rattle.std.specs.Int.{w64, rotate_left}
use Rattle.std.specs.Int.Bits.{or_self, xor_self, xor_zero_r, xor_assoc}
use Rattle.std.proofs.lemmas.Nat.{pow_pos, pow-add, shl-shr, shr_split, mod-pow-add, or_shifted, xor_lt, div-mul-add, mod-mul-add, mul-add-lt}
use Rattle.std.proofs.Math.Nat.{mul-mod_left, div-lt_iff_lt-mul, mod-lt}
use Rattle.sh_machines.specs.Cipher.{seal, unseal}

high : (x j k : ℕ) → x < 2 ^ (j + k) → x / 2 ^ j < 2 ^ k
high x j k h = (div-lt_iff_lt-mul (pow_pos j)).1 (subst (λ y. x < y) (pow-add 2 j k ∙ omega arith) h)

-- the k high places of x, of j + k, become the low ones
turn : (x j k : ℕ) → x < 2 ^ (j + k) → bit_or ((x * 2 ^ k) % 2 ^ (j + k)) (x / 2 ^ j) ≡ (x % 2 ^ j) * 2 ^ k + x / 2 ^ j
turn x j k h =
    ap (λ y. bit_or y (x / 2 ^ j)) (mod-pow-add (x * 2 ^ k) j k ∙ ap (λ y. (y % 2 ^ j) * 2 ^ k + (x * 2 ^ k) % 2 ^ k) (shl-shr x k) ∙ ap (λ y. (x % 2 ^ j) * 2 ^ k + y) (mul-mod_left x (2 ^ k)) ∙ omega arith)
    ∙ or_shifted (x % 2 ^ j) k (x / 2 ^ j) (high x j k h)

back : (x j k : ℕ) → x < 2 ^ (j + k) → bit_or (((x % 2 ^ j) * 2 ^ k + x / 2 ^ j) * 2 ^ j % 2 ^ (k + j)) (((x % 2 ^ j) * 2 ^ k + x / 2 ^ j) / 2 ^ k) ≡ x
back x j k h =
    let l : x / 2 ^ j < 2 ^ k = high x j k h in
    let y : (x % 2 ^ j) * 2 ^ k + x / 2 ^ j < 2 ^ (k + j) = small in
    turn ((x % 2 ^ j) * 2 ^ k + x / 2 ^ j) k j y ∙ ap (λ a. a * 2 ^ j + ((x % 2 ^ j) * 2 ^ k + x / 2 ^ j) / 2 ^ k) (mod-mul-add (x % 2 ^ j) (2 ^ k) (x / 2 ^ j) l) ∙ ap (λ a. x / 2 ^ j * 2 ^ j + a) (div-mul-add (x % 2 ^ j) (2 ^ k) (x / 2 ^ j) l) ∙ shr_split x j
  where
    small : (x % 2 ^ j) * 2 ^ k + x / 2 ^ j < 2 ^ (k + j)
    small =
        let l : x / 2 ^ j < 2 ^ k = high x j k h in
        let m : x % 2 ^ j < 2 ^ j = mod-lt x (pow_pos j) in
        subst (λ y. (x % 2 ^ j) * 2 ^ k + x / 2 ^ j < y) (sym (pow-add 2 k j)) (omega (arith, mul-add-lt (x % 2 ^ j) (2 ^ k) (x / 2 ^ j) (2 ^ j) m l))

-- turned by k and then by what is left of 64
there_and_back : (x k : ℕ) → k < 64 → x < 2 ^ 64 → rotate_left w64 (rotate_left w64 x k) ((64 - k) % 64) ≡ x
there_and_back x zero lt h = by_zero x h
  where
    by_zero : (x : ℕ) → x < 2 ^ 64 → rotate_left w64 (rotate_left w64 x 0) ((64 - 0) % 64) ≡ x
    by_zero x h = let e : rotate_left w64 x 0 ≡ x = or_same (x * 2 ^ 0 % 2 ^ 64) (x / 2 ^ 0) x (omega (arith, h)) (omega arith) in ap (λ y. rotate_left w64 y 0) e ∙ e
      where
        or_same : (a b x : ℕ) → a ≡ x → b ≡ x → bit_or a b ≡ x
        or_same a b x ea eb = ap (λ y. bit_or y b) ea ∙ ap (bit_or x) eb ∙ or_self x
there_and_back x (suc k) lt h =
    let j : ℕ = 64 - suc k in
    let e1 : suc k % 64 ≡ suc k = omega (arith, lt) in
    let e2 : (64 - suc k) % 64 ≡ 64 - suc k = omega (arith, lt) in
    let e3 : (64 - suc k) % 64 % 64 ≡ 64 - suc k = omega (arith, lt) in
    let e4 : (64 - (64 - suc k)) % 64 ≡ suc k = omega (arith, lt) in
    let s : 64 ≡ (64 - suc k) + suc k = omega (arith, lt) in
    let s' : 64 ≡ suc k + (64 - suc k) = omega (arith, lt) in
    let big : x < 2 ^ ((64 - suc k) + suc k) = subst (λ n. x < 2 ^ n) s h in
    let first : rotate_left w64 x (suc k) ≡ (x % 2 ^ (64 - suc k)) * 2 ^ suc k + x / 2 ^ (64 - suc k) =
    ap (λ r. bit_or ((x * 2 ^ r) % 2 ^ 64) (x / 2 ^ ((64 - r) % 64))) e1 ∙ ap (λ r. bit_or ((x * 2 ^ suc k) % 2 ^ 64) (x / 2 ^ r)) e2 ∙ ap (λ n. bit_or ((x * 2 ^ suc k) % 2 ^ n) (x / 2 ^ (64 - suc k))) s ∙ turn x (64 - suc k) (suc k) big in
    ap (λ y. rotate_left w64 y ((64 - suc k) % 64)) first
    ∙ second ((x % 2 ^ (64 - suc k)) * 2 ^ suc k + x / 2 ^ (64 - suc k)) (64 - suc k) (suc k) e3 e4 s' ∙ back x (64 - suc k) (suc k) big
  where
    second : (y j k : ℕ) → (64 - k) % 64 % 64 ≡ j → (64 - j) % 64 ≡ k → 64 ≡ k + j → rotate_left w64 y ((64 - k) % 64) ≡ bit_or (y * 2 ^ j % 2 ^ (k + j)) (y / 2 ^ k)
    second y j k a b c = ap (λ r. bit_or ((y * 2 ^ r) % 2 ^ 64) (y / 2 ^ ((64 - r) % 64))) a ∙ ap (λ r. bit_or ((y * 2 ^ j) % 2 ^ 64) (y / 2 ^ r)) b ∙ ap (λ n. bit_or ((y * 2 ^ j) % 2 ^ n) (y / 2 ^ k)) c

pub opens : (k s a : ℕ) → k < 2 ^ 64 → a < 2 ^ 64 → unseal k s (seal k s a) ≡ a
unfolding seal unseal
opens k s a hk ha =
    let r : s / 8 % 64 < 64 = omega arith in
    ap (λ y. bit_xor y k) (there_and_back (bit_xor a k) (s / 8 % 64) r (xor_lt 64 a k ha hk)) ∙ xor_assoc a k k ∙ ap (bit_xor a) (xor_self k) ∙ xor_zero_r a

-- turned back and then forth
and_back : (x r : ℕ) → r < 64 → x < 2 ^ 64 → rotate_left w64 (rotate_left w64 x ((64 - r) % 64)) r ≡ x
and_back x r lt h =
    let e : (64 - (64 - r) % 64) % 64 ≡ r = omega (arith, lt) in
    ap (rotate_left w64 (rotate_left w64 x ((64 - r) % 64))) (sym e) ∙ there_and_back x ((64 - r) % 64) (omega arith) h

pub seals : (k s w : ℕ) → k < 2 ^ 64 → w < 2 ^ 64 → seal k s (unseal k s w) ≡ w
unfolding seal unseal
seals k s w hk hw =
    let r : s / 8 % 64 < 64 = omega arith in
    ap (λ y. rotate_left w64 y (s / 8 % 64)) (xor_assoc (rotate_left w64 w ((64 - s / 8 % 64) % 64)) k k ∙ ap (bit_xor (rotate_left w64 w ((64 - s / 8 % 64) % 64))) (xor_self k) ∙ xor_zero_r (rotate_left w64 w ((64 - s / 8 % 64) % 64)))
    ∙ and_back w (s / 8 % 64) r hw
