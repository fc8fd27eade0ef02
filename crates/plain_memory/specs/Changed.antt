-- SPDX-License-Identifier: Apache-2.0
-- What a store leaves, of bytes and of words.
use Rattle.std.specs.Prelude.{◌≡◌, ℕ, ◌+◌, ◌/◌, ◌<◌, ◌≤◌, ◌==◌, List, map, slice_index, if◌then◌else◌}
use Rattle.sh_types.specs.declared.code.Region.{Region}
use Rattle.sh_machines.specs.Memory.{bytes_number, first_byte, first_word}
use Rattle.sh_machines.specs.Need.{patched, with_part}
use Rattle.plain_memory.specs.Laid.{bare}

-- in a list of bytes, n of them from a place on become a number, and no other changes
pub record PutsAt (old new : List ℕ) (at n value : ℕ) : Type 0 where
  pub number : bytes_number (λ k. slice_index new k) at n ≡ value
  pub below : (k : ℕ) → k < at → slice_index new k ≡ slice_index old k
  pub above : (k : ℕ) → at + n ≤ k → slice_index new k ≡ slice_index old k

-- n bytes from an address on become a number, and no other changes
pub record PutsNumber (old new : List Region) (a n value : ℕ) : Type 0 where
  pub number : bytes_number (first_byte new) a n ≡ value
  pub below : (x : ℕ) → x < a → first_byte new x ≡ first_byte old x
  pub above : (x : ℕ) → a + n ≤ x → first_byte new x ≡ first_byte old x
  pub same : map bare new ≡ map bare old

-- n bytes from an address on become the first ones of a list, and no other changes
pub record PutsBytes (old new : List Region) (a n : ℕ) (bytes : List ℕ) : Type 0 where
  pub inside : (k : ℕ) → k < n → first_byte new (a + k) ≡ slice_index bytes k
  pub below : (x : ℕ) → x < a → first_byte new x ≡ first_byte old x
  pub above : (x : ℕ) → a + n ≤ x → first_byte new x ≡ first_byte old x
  pub same : map bare new ≡ map bare old

-- in the word that has them, so many bytes from an address on become those of a number
pub record Stores (old new : List Region) (a width value : ℕ) : Type 0 where
  pub words : (w : ℕ) → first_word new w ≡ (if w == a / 8 then with_part a width value (first_word old w) else first_word old w)
  pub same : map bare new ≡ map bare old

-- in each word the bytes from an address on become these
pub record Fills (old new : List Region) (a : ℕ) (bytes : List ℕ) : Type 0 where
  pub words : (w : ℕ) → first_word new w ≡ patched a bytes w (first_word old w)
  pub same : map bare new ≡ map bare old
