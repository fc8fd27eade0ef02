-- SPDX-License-Identifier: Apache-2.0
-- The code's harts as the unmoved machine's.
use Rattle.std.proofs.Common.{◌≡◌, ℕ, zero, suc, true, Some, None, List, [], ◌∷◌, ◌++◌, length, Option, refl, ap, ◌∙◌}
use Rattle.std.specs.Prelude.{map, slice_get, slice_set, Bool}
use Rattle.sh_machines.specs.Unmoved as unmoved
use Rattle.thread_acts.specs.Done.{meant}
use Rattle.thread_acts.specs.declared.threads.Thread.{Thread}
use Rattle.ref_machine.specs.Calling.{lives_of}
use Rattle.ref_machine.specs.Meant.{threads_of}

pub threads_set : (ts : List Thread) (n : ℕ) (t : Thread) → threads_of (slice_set ts n t) ≡ slice_set (threads_of ts) n (meant t)
threads_set [] n t = refl
threads_set (x ∷ ts) zero t = refl
threads_set (x ∷ ts) (suc n) t = ap (λ ys. meant x ∷ ys) (threads_set ts n t)

pub threads_more : (ts : List Thread) (t : Thread) → threads_of (ts ++ t ∷ []) ≡ threads_of ts ++ meant t ∷ []
threads_more [] t = refl
threads_more (x ∷ ts) t = ap (λ ys. meant x ∷ ys) (threads_more ts t)

pub lives_are : (ts : List Thread) → map (λ (t : unmoved.Thread). t.live) (threads_of ts) ≡ lives_of ts
lives_are [] = refl
lives_are (x ∷ ts) = ap (λ bs. x.live ∷ bs) (lives_are ts)

pub live_get : (ts : List Thread) (n : ℕ) (t : Thread) → slice_get ts n ≡ Some t → t.live ≡ true → slice_get (lives_of ts) n ≡ Some true
live_get [] n t e l = absurd (cc)
live_get (x ∷ ts) zero t e l = let q : x ≡ t = cc in ap (λ (y : Thread). Some y.live) q ∙ ap Some l
live_get (x ∷ ts) (suc n) t e l = live_get ts n t e l

-- ---- lists

pub set_same : {A : Type 0} (xs : List A) (n : ℕ) (x : A) → slice_get xs n ≡ Some x → slice_set xs n x ≡ xs
set_same [] n x e = refl
set_same (y ∷ xs) zero x e = let q : x ≡ y = cc in ap (λ z. z ∷ xs) q
set_same (y ∷ xs) (suc n) x e = ap (λ zs. y ∷ zs) (set_same xs n x e)

pub set_again : {A : Type 0} (xs : List A) (n : ℕ) (x y : A) → slice_set (slice_set xs n x) n y ≡ slice_set xs n y
set_again [] n x y = refl
set_again (z ∷ xs) zero x y = refl
set_again (z ∷ xs) (suc n) x y = ap (λ zs. z ∷ zs) (set_again xs n x y)

pub length_set : {A : Type 0} (xs : List A) (n : ℕ) (x : A) → length (slice_set xs n x) ≡ length xs
length_set [] n x = refl
length_set (y ∷ xs) zero x = refl
length_set (y ∷ xs) (suc n) x = ap suc (length_set xs n x)
