-- SPDX-License-Identifier: Apache-2.0
-- What stores of bytes make of words.
use Rattle.std.proofs.Common.{◌≡◌, ℕ, zero, suc, ◌+◌, ◌*◌, ◌/◌, ◌%◌, ◌^◌, ◌<◌, ◌≤◌, List, length, refl, sym, ap, ◌∙◌, arith, inl, inr}
use Rattle.std.specs.Prelude.{slice_index}
use Rattle.sh_types.specs.declared.code.Region.{Region}
use Rattle.sh_machines.specs.Memory.{bytes_number, first_byte, first_word}
use Rattle.sh_machines.specs.Need.{part_of, with_part}
use Rattle.plain_memory.specs.Access.{IsWidth}
use Rattle.plain_memory.specs.Changed.{PutsBytes, PutsNumber, Stores, Fills}
use Rattle.plain_memory.specs.Laid.{Laid}
use Rattle.plain_memory.proofs.Pieces.{number_same, number_fits, part_is, stored_is, patched_is}
use Rattle.plain_memory.proofs.Places.{small_bytes}

pub width_most : (n : ℕ) → IsWidth n → n ≤ 8
width_most n i = elim i [ inl e ↦ omega (arith, e) | inr j ↦ elim j [ inl e ↦ omega (arith, e) | inr k ↦ elim k [ inl e ↦ omega (arith, e) | inr e ↦ omega (arith, e) ] ] ]

-- an aligned range lies in one word
pub width_fits : (a n : ℕ) → IsWidth n → a % n ≡ 0 → a % 8 + n ≤ 8
width_fits a n i h = elim i [
  | inl e ↦ omega (arith, e)
  | inr j ↦ elim j [
    | inl e ↦ let z : a % 2 ≡ 0 = ap (λ m. a % m) (sym e) ∙ h in omega (arith, e, z)
    | inr k ↦ elim k [
      | inl e ↦ let z : a % 4 ≡ 0 = ap (λ m. a % m) (sym e) ∙ h in omega (arith, e, z)
      | inr e ↦ let z : a % 8 ≡ 0 = ap (λ m. a % m) (sym e) ∙ h in omega (arith, e, z)
    ]
  ]
]

pub loaded_is : (rs : List Region) (a n v : ℕ) → Laid 0 rs → IsWidth n → a % n ≡ 0 → v ≡ bytes_number (first_byte rs) a n → v ≡ part_of a n (first_word rs (a / 8))
unfolding first_word
loaded_is rs a n v laid i h e = e ∙ sym (part_is (first_byte rs) a n (small_bytes 0 rs laid) (width_fits a n i h))

pub byte_loaded : (rs : List Region) (a v : ℕ) → Laid 0 rs → v ≡ first_byte rs a → v ≡ part_of a 1 (first_word rs (a / 8))
byte_loaded rs a v laid e = let n : v ≡ bytes_number (first_byte rs) a 1 = omega (arith, e) in loaded_is rs a 1 v laid (inl refl) (omega arith) n

pub stores_is : (rs rs' : List Region) (a n v : ℕ) → Laid 0 rs → IsWidth n → a % n ≡ 0 → PutsNumber rs rs' a n (v % 2 ^ (8 * n)) → Stores rs rs' a n v
unfolding first_word
stores_is rs rs' a n v laid i h puts =
    record {
      words = λ w. stored_is (first_byte rs) (first_byte rs') a n v w (small_bytes 0 rs laid) (width_fits a n i h) puts.number puts.below puts.above;
      same = puts.same;
    }

pub fills_is : (rs rs' : List Region) (a : ℕ) (bytes : List ℕ) → Laid 0 rs → ((k : ℕ) → slice_index bytes k < 256) → PutsBytes rs rs' a (length bytes) bytes → Fills rs rs' a bytes
unfolding first_word
fills_is rs rs' a bytes laid small puts =
    record { words = λ w. patched_is (first_byte rs) (first_byte rs') a w bytes (small_bytes 0 rs laid) small puts.inside puts.below puts.above; same = puts.same }

pub puts_none : (rs : List Region) (a : ℕ) (bytes : List ℕ) → PutsBytes rs rs a 0 bytes
puts_none rs a bytes = record { inside = λ k l. absurd (omega (arith, l)); below = λ x l. refl; above = λ x l. refl; same = refl }

-- the number in a list whose bytes were put
pub bytes_number_put : (rs rs' : List Region) (a n v : ℕ) (bytes buffer : List ℕ) → PutsBytes rs rs' a (length bytes) bytes → length bytes ≡ n → ((k : ℕ) → k < n → slice_index bytes k ≡ slice_index buffer k) → bytes_number (λ k. slice_index buffer k) 0 n ≡ v → PutsNumber rs rs' a n v
bytes_number_put rs rs' a n v bytes buffer puts len same e =
    record {
      number = number_same (first_byte rs') (λ k. slice_index buffer k) a 0 n (λ k l. puts.inside k (omega (arith, len, l)) ∙ same k l ∙ ap (slice_index buffer) (omega arith)) ∙ e;
      below = puts.below;
      above = λ x l. puts.above x (omega (arith, len, l));
      same = puts.same;
    }

-- a word that is stored whole is zero where zero is stored
pub whole_zero : (rs : List Region) (a : ℕ) → Laid 0 rs → a % 8 ≡ 0 → with_part a 8 0 (first_word rs (a / 8)) ≡ 0
unfolding first_word with_part
whole_zero rs a laid h = zero_of (first_word rs (a / 8)) (a % 8) h (number_fits (first_byte rs) (8 * (a / 8)) 8 (small_bytes 0 rs laid))
  where
    zero_of : (v m : ℕ) → m ≡ 0 → v < 256 ^ 8 → v % 2 ^ (8 * m) + 2 ^ (8 * m) * (0 % 2 ^ 64) + 2 ^ (8 * (m + 8)) * (v / 2 ^ (8 * (m + 8))) ≡ 0
    zero_of v zero e l = omega (arith, l)
    zero_of v (suc m) e l = absurd (omega (arith, e))
