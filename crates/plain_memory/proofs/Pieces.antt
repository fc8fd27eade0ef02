-- SPDX-License-Identifier: Apache-2.0
-- Numbers of bytes: in two pieces, and with a piece replaced.
use Rattle.std.proofs.Common.{◌≡◌, ◌≢◌, ℕ, zero, suc, ◌+◌, ◌-◌, ◌*◌, ◌/◌, ◌%◌, ◌^◌, ◌<◌, ◌≤◌, Bool, true, false, List, [], ◌∷◌, length, refl, sym, ap, ◌∙◌, arith, inl, inr, pow-suc, pow-add}
use Rattle.std.specs.Prelude.{◌==◌, if◌then◌else◌, slice_index}
use Rattle.std.proofs.lemmas.Bool.{cases_lt}
use Rattle.std.proofs.lemmas.Bool.Decides.{nat_tests}
use Rattle.std.proofs.lemmas.Nat.{div-mul-add, mod-mul-add}
use Rattle.sh_machines.specs.Memory.{bytes_number}
use Rattle.sh_machines.specs.Need.{part_of, with_part, patched}

-- each byte is below 256
abbrev pub Small : (ℕ → ℕ) → Type 0
Small f = (x : ℕ) → f x < 256

pub number_same : (f g : ℕ → ℕ) (a c n : ℕ) → ((k : ℕ) → k < n → f (a + k) ≡ g (c + k)) → bytes_number f a n ≡ bytes_number g c n
number_same f g a c zero h = refl
number_same f g a c (suc n) h =
    let p : f a ≡ g c = ap f (omega arith) ∙ h 0 (omega arith) ∙ ap g (omega arith) in
    ap (λ x. x + 256 * bytes_number f (suc a) n) p
    ∙ ap (λ x. g c + 256 * x) (number_same f g (suc a) (suc c) n (λ k l. ap f (omega arith) ∙ h (suc k) (omega (arith, l)) ∙ ap g (omega arith)))

scaled : (x b p c : ℕ) → x + 256 * (b + p * c) ≡ (x + 256 * b) + (p * 256) * c
scaled x b p c = omega arith

-- the low bytes, and those from one on
pub number_split : (f : ℕ → ℕ) (a m n : ℕ) → bytes_number f a (m + n) ≡ bytes_number f a m + 256 ^ m * bytes_number f (a + m) n
number_split f a zero n =
    let e : 0 + n ≡ n = omega arith in
    let d : a + 0 ≡ a = omega arith in
    ap (bytes_number f a) e ∙ omega (arith, ap (λ x. bytes_number f x n) d)
number_split f a (suc m) n =
    let e : suc m + n ≡ suc (m + n) = omega arith in
    let d : suc a + m ≡ a + suc m = omega arith in
    ap (bytes_number f a) e
    ∙ ap (λ x. f a + 256 * x) (number_split f (suc a) m n)
    ∙ scaled (f a) (bytes_number f (suc a) m) (256 ^ m) (bytes_number f (suc a + m) n)
    ∙ ap (λ x. (f a + 256 * bytes_number f (suc a) m) + x * bytes_number f (suc a + m) n) (sym (pow-suc 256 m))
    ∙ ap (λ x. (f a + 256 * bytes_number f (suc a) m) + 256 ^ suc m * bytes_number f x n) d

pub number_fits : (f : ℕ → ℕ) (a n : ℕ) → Small f → bytes_number f a n < 256 ^ n
number_fits f a zero s = omega arith
number_fits f a (suc n) s = omega (arith, s a, number_fits f (suc a) n s, pow-suc 256 n)

-- the powers of two are those of 256
pub power : (n : ℕ) → 2 ^ (8 * n) ≡ 256 ^ n
power zero = refl
power (suc n) =
    let e : 8 * suc n ≡ 8 * n + 8 = omega arith in
    ap (λ k. 2 ^ k) e ∙ pow-add 2 (8 * n) 8 ∙ ap (λ x. x * 256) (power n) ∙ sym (pow-suc 256 n)

low_of : (x p y : ℕ) → x < p → (x + p * y) % p ≡ x
low_of x p y h = let e : x + p * y ≡ y * p + x = omega arith in ap (λ z. z % p) e ∙ mod-mul-add y p x h

high_of : (x p y : ℕ) → x < p → (x + p * y) / p ≡ y
high_of x p y h = let e : x + p * y ≡ y * p + x = omega arith in ap (λ z. z / p) e ∙ div-mul-add y p x h

at_of : (a : ℕ) → 8 * (a / 8) + a % 8 ≡ a
at_of a = omega arith

-- the number of eight bytes, by the piece of n bytes from the m-th on
pieces : (f : ℕ → ℕ) (a m n : ℕ) → m + n ≤ 8 → bytes_number f a 8 ≡ bytes_number f a m + 256 ^ m * bytes_number f (a + m) (8 - m)
pieces f a m n h =
    let e : 8 ≡ m + (8 - m) = omega (arith, h) in
    ap (bytes_number f a) e ∙ number_split f a m (8 - m)

module _ (f : ℕ → ℕ) (small : Small f) (base m n a : ℕ) (fits : m + n ≤ 8) (place : base + m ≡ a) where
  first : bytes_number f base 8 ≡ bytes_number f base m + 256 ^ m * bytes_number f a (8 - m)
  first =
      let e : 8 ≡ m + (8 - m) = omega (arith, fits) in
      ap (bytes_number f base) e ∙ number_split f base m (8 - m) ∙ ap (λ x. bytes_number f base m + 256 ^ m * bytes_number f x (8 - m)) place

  rest : bytes_number f a (8 - m) ≡ bytes_number f a n + 256 ^ n * bytes_number f (a + n) (8 - m - n)
  rest =
      let e : 8 - m ≡ n + (8 - m - n) = omega (arith, fits) in
      ap (bytes_number f a) e ∙ number_split f a n (8 - m - n)

  -- a word by the bytes up to the end of a piece, and those behind it
  pub split_behind : bytes_number f base 8 ≡ bytes_number f base (m + n) + 256 ^ (m + n) * bytes_number f (a + n) (8 - (m + n))
  split_behind =
      let e : 8 ≡ (m + n) + (8 - (m + n)) = omega (arith, fits) in
      let d : base + (m + n) ≡ a + n = omega (arith, place) in
      ap (bytes_number f base) e ∙ number_split f base (m + n) (8 - (m + n)) ∙ ap (λ x. bytes_number f base (m + n) + 256 ^ (m + n) * bytes_number f x (8 - (m + n))) d

  pub piece_is : bytes_number f base 8 / 2 ^ (8 * m) % 2 ^ (8 * n) ≡ bytes_number f a n
  piece_is =
      ap (λ p. bytes_number f base 8 / p % 2 ^ (8 * n)) (power m)
      ∙ ap (λ p. bytes_number f base 8 / 256 ^ m % p) (power n)
      ∙ ap (λ v. v / 256 ^ m % 256 ^ n) first
      ∙ ap (λ v. v % 256 ^ n) (high_of (bytes_number f base m) (256 ^ m) (bytes_number f a (8 - m)) (number_fits f base m small))
      ∙ ap (λ v. v % 256 ^ n) rest
      ∙ low_of (bytes_number f a n) (256 ^ n) (bytes_number f (a + n) (8 - m - n)) (number_fits f a n small)

  pub low_is : bytes_number f base 8 % 2 ^ (8 * m) ≡ bytes_number f base m
  low_is =
      ap (λ p. bytes_number f base 8 % p) (power m) ∙ ap (λ v. v % 256 ^ m) first ∙ low_of (bytes_number f base m) (256 ^ m) (bytes_number f a (8 - m)) (number_fits f base m small)

  pub high_is : bytes_number f base 8 / 2 ^ (8 * (m + n)) ≡ bytes_number f (a + n) (8 - (m + n))
  high_is =
      ap (λ p. bytes_number f base 8 / p) (power (m + n)) ∙ ap (λ v. v / 256 ^ (m + n)) split_behind
      ∙ high_of (bytes_number f base (m + n)) (256 ^ (m + n)) (bytes_number f (a + n) (8 - (m + n))) (number_fits f base (m + n) small)

-- a word by the bytes below a piece, the piece, and those behind it
three : (g : ℕ → ℕ) (base m n a : ℕ) → m + n ≤ 8 → base + m ≡ a → bytes_number g base 8 ≡ bytes_number g base m + 2 ^ (8 * m) * bytes_number g a n + 2 ^ (8 * (m + n)) * bytes_number g (a + n) (8 - (m + n))
three g base m n a fits place =
    let e : 8 ≡ (m + n) + (8 - (m + n)) = omega (arith, fits) in
    let d : base + (m + n) ≡ a + n = omega (arith, place) in
    ap (bytes_number g base) e ∙ number_split g base (m + n) (8 - (m + n))
    ∙ ap (λ x. bytes_number g base (m + n) + 256 ^ (m + n) * bytes_number g x (8 - (m + n))) d
    ∙ ap (λ z. z + 256 ^ (m + n) * bytes_number g (a + n) (8 - (m + n))) (number_split g base m n)
    ∙ ap (λ x. bytes_number g base m + 256 ^ m * bytes_number g x n + 256 ^ (m + n) * bytes_number g (a + n) (8 - (m + n))) place
    ∙ ap (λ p. bytes_number g base m + p * bytes_number g a n + 256 ^ (m + n) * bytes_number g (a + n) (8 - (m + n))) (sym (power m))
    ∙ ap (λ p. bytes_number g base m + 2 ^ (8 * m) * bytes_number g a n + p * bytes_number g (a + n) (8 - (m + n))) (sym (power (m + n)))

with_piece : (f g : ℕ → ℕ) (base m n a x : ℕ) → Small f → m + n ≤ 8 → base + m ≡ a → bytes_number g a n ≡ x % 2 ^ (8 * n) → ((b : ℕ) → b < a → g b ≡ f b) → ((b : ℕ) → a + n ≤ b → g b ≡ f b) → bytes_number f base 8 % 2 ^ (8 * m) + 2 ^ (8 * m) * (x % 2 ^ (8 * n)) + 2 ^ (8 * (m + n)) * (bytes_number f base 8 / 2 ^ (8 * (m + n))) ≡ bytes_number g base 8
with_piece f g base m n a x s fits place e lo hi =
    ap (λ z. z + 2 ^ (8 * m) * (x % 2 ^ (8 * n)) + 2 ^ (8 * (m + n)) * (bytes_number f base 8 / 2 ^ (8 * (m + n)))) (low_is f s base m n a fits place ∙ below)
    ∙ ap (λ z. bytes_number g base m + 2 ^ (8 * m) * z + 2 ^ (8 * (m + n)) * (bytes_number f base 8 / 2 ^ (8 * (m + n)))) (sym e)
    ∙ ap (λ z. bytes_number g base m + 2 ^ (8 * m) * bytes_number g a n + 2 ^ (8 * (m + n)) * z) (high_is f s base m n a fits place ∙ above)
    ∙ sym (three g base m n a fits place)
  where
    below : bytes_number f base m ≡ bytes_number g base m
    below = number_same f g base base m (λ k l. sym (lo (base + k) (omega (arith, l, place))))

    above : bytes_number f (a + n) (8 - (m + n)) ≡ bytes_number g (a + n) (8 - (m + n))
    above = number_same f g (a + n) (a + n) (8 - (m + n)) (λ k l. sym (hi (a + n + k) (omega arith)))

-- the bytes of a word from one on are a part of its number
pub part_is : (f : ℕ → ℕ) (a n : ℕ) → Small f → a % 8 + n ≤ 8 → part_of a n (bytes_number f (8 * (a / 8)) 8) ≡ bytes_number f a n
unfolding part_of
part_is f a n s h = piece_is f s (8 * (a / 8)) (a % 8) n a h (at_of a)

-- a word of which some bytes are replaced
pub with_is : (f g : ℕ → ℕ) (a n x : ℕ) → Small f → a % 8 + n ≤ 8 → bytes_number g a n ≡ x % 2 ^ (8 * n) → ((b : ℕ) → b < a → g b ≡ f b) → ((b : ℕ) → a + n ≤ b → g b ≡ f b) → with_part a n x (bytes_number f (8 * (a / 8)) 8) ≡ bytes_number g (8 * (a / 8)) 8
unfolding with_part
with_is f g a n x s h e lo hi = with_piece f g (8 * (a / 8)) (a % 8) n a x s h (at_of a) e lo hi

-- a byte of another word
other : (f g : ℕ → ℕ) (a n w k : ℕ) → a % 8 + n ≤ 8 → w ≢ a / 8 → k < 8 → ((b : ℕ) → b < a → g b ≡ f b) → ((b : ℕ) → a + n ≤ b → g b ≡ f b) → g (8 * w + k) ≡ f (8 * w + k)
other f g a n w k h ne l lo hi = elim (cases_lt (8 * w + k) a) [ inl q ↦ lo (8 * w + k) q | inr q ↦ hi (8 * w + k) (omega (arith, ne, l, q, h)) ]

-- the number of any word, where some bytes of one are replaced
pub stored_is : (f g : ℕ → ℕ) (a n x w : ℕ) → Small f → a % 8 + n ≤ 8 → bytes_number g a n ≡ x % 2 ^ (8 * n) → ((b : ℕ) → b < a → g b ≡ f b) → ((b : ℕ) → a + n ≤ b → g b ≡ f b) → bytes_number g (8 * w) 8 ≡ (if w == a / 8 then with_part a n x (bytes_number f (8 * w) 8) else bytes_number f (8 * w) 8)
stored_is f g a n x w s h e lo hi = by (w == a / 8) refl
  where
    by : (b : Bool) → (w == a / 8) ≡ b → bytes_number g (8 * w) 8 ≡ (if b then with_part a n x (bytes_number f (8 * w) 8) else bytes_number f (8 * w) 8)
    by true q =
        let p : w ≡ a / 8 = grind (arith, nat_tests) in
        ap (λ y. bytes_number g (8 * y) 8) p ∙ sym (ap (λ y. with_part a n x (bytes_number f (8 * y) 8)) p ∙ with_is f g a n x s h e lo hi)
    by false q =
        let p : w ≢ a / 8 = grind (arith, nat_tests) in
        number_same g f (8 * w) (8 * w) 8 (λ k l. other f g a n w k h p l lo hi)

-- the number of a word, where bytes from an address on are put one after the other
pub patched_is : (f g : ℕ → ℕ) (a w : ℕ) (bytes : List ℕ) → Small f → ((k : ℕ) → slice_index bytes k < 256) → ((k : ℕ) → k < length bytes → g (a + k) ≡ slice_index bytes k) → ((b : ℕ) → b < a → g b ≡ f b) → ((b : ℕ) → a + length bytes ≤ b → g b ≡ f b) → bytes_number g (8 * w) 8 ≡ patched a bytes w (bytes_number f (8 * w) 8)
unfolding patched
patched_is f g a w [] s t inside lo hi =
    number_same g f (8 * w) (8 * w) 8 (λ k l. elim (cases_lt (8 * w + k) a) [ inl q ↦ lo (8 * w + k) q | inr q ↦ hi (8 * w + k) (omega (arith, q)) ])
patched_is f g a w (b ∷ bs) s t inside lo hi =
    patched_is f1 g (suc a) w bs small (λ k. t (suc k)) (λ k l. ap g (omega arith) ∙ inside (suc k) (omega (arith, l))) lower upper ∙ ap (patched (suc a) bs w) step
  where
    f1 : ℕ → ℕ
    f1 x = if x == a then b else f x

    here : f1 a ≡ b
    here = let q : (a == a) ≡ true = grind (arith, nat_tests) in ap (λ (c : Bool). if c then b else f a) q

    there : (x : ℕ) → x ≢ a → f1 x ≡ f x
    there x ne = let q : (x == a) ≡ false = grind (arith, nat_tests) in ap (λ (c : Bool). if c then b else f x) q

    small : Small f1
    small x = by (x == a)
      where
        by : (c : Bool) → (if c then b else f x) < 256
        by true = t 0
        by false = s x

    lower : (x : ℕ) → x < suc a → g x ≡ f1 x
    lower x l = by (x == a) refl
      where
        by : (c : Bool) → (x == a) ≡ c → g x ≡ f1 x
        by true q =
            let p : x ≡ a = grind (arith, nat_tests) in
            ap g p ∙ ap g (omega arith) ∙ inside 0 (omega arith) ∙ sym (ap f1 p ∙ here)
        by false q =
            let p : x ≢ a = grind (arith, nat_tests) in
            lo x (omega (arith, p, l)) ∙ sym (there x p)

    upper : (x : ℕ) → suc a + length bs ≤ x → g x ≡ f1 x
    upper x l = let p : x ≢ a = omega (arith, l) in hi x (omega (arith, l)) ∙ sym (there x p)

    one : bytes_number f1 a 1 ≡ b % 2 ^ (8 * 1)
    one = omega (arith, here, t 0)

    fits : a % 8 + 1 ≤ 8
    fits = omega arith

    step : bytes_number f1 (8 * w) 8 ≡ (if a / 8 == w then with_part a 1 b (bytes_number f (8 * w) 8) else bytes_number f (8 * w) 8)
    step =
        stored_is f f1 a 1 b w s fits one (λ x l. there x (omega (arith, l))) (λ x l. there x (omega (arith, l)))
        ∙ ap (λ (c : Bool). if c then with_part a 1 b (bytes_number f (8 * w) 8) else bytes_number f (8 * w) 8) (flip w (a / 8))
      where
        flip : (x y : ℕ) → (x == y) ≡ (y == x)
        flip x y = grind (arith, nat_tests)
