-- SPDX-License-Identifier: Apache-2.0
-- Rising lists of harts' numbers.
use Rattle.std.proofs.Common.{◌≡◌, ℕ, zero, suc, ◌+◌, ◌==◌, ◌<◌, ◌≤◌, nat_lt, Bool, true, false, List, [], ◌∷◌, refl, sym, ap, ◌∙◌, arith}
use Rattle.std.specs.Prelude.{nat_le, if◌then◌else◌, slice_get}
use Rattle.std.proofs.lemmas.Bool.Decides.{nat_tests}
use Rattle.sh_machines.specs.Pace.{live_from, without, is_among}
use Rattle.sh_machines.specs.Serial.{first_or, next_from}
use Rattle.sh_machines.specs.Unmoved.{Thread, is_alive}

-- the number is below each of the list
abbrev pub Below : ℕ → List ℕ → Type 0
Below n ks = (m : ℕ) → is_among m ks ≡ true → n < m

abbrev pub Rises : List ℕ → Type 0
Rises [] = Unit {0}
Rises (k ∷ ks) = Below k ks × Rises ks

pub same_test : (n : ℕ) → (n == n) ≡ true
same_test n = grind (arith, nat_tests)

pub test_same : (n m : ℕ) → (n == m) ≡ true → n ≡ m
test_same n m e = grind (arith, nat_tests)

-- ---- one number less

among_later : (m k : ℕ) (ks : List ℕ) → is_among m ks ≡ true → is_among m (k ∷ ks) ≡ true
among_later m k ks e = by (k == m)
  where
    by : (b : Bool) → (if b then true else is_among m ks) ≡ true
    by true = refl
    by false = e

pub among_without : (m n : ℕ) (ks : List ℕ) → is_among m (without n ks) ≡ true → is_among m ks ≡ true
among_without m n [] e = e
among_without m n (k ∷ ks) e = by (among_without m n ks) (k == n) e
  where
    in_tail : (is_among m (without n ks) ≡ true → is_among m ks ≡ true) → (c : Bool) → (if c then true else is_among m (without n ks)) ≡ true → (if c then true else is_among m ks) ≡ true
    in_tail rest true e = refl
    in_tail rest false e = rest e

    by : (is_among m (without n ks) ≡ true → is_among m ks ≡ true) → (b : Bool) → is_among m (if b then ks else k ∷ without n ks) ≡ true → is_among m (k ∷ ks) ≡ true
    by rest true e = among_later m k ks e
    by rest false e = in_tail rest (k == m) e

pub rises_without : (n : ℕ) (ks : List ℕ) → Rises ks → Rises (without n ks)
rises_without n [] r = r
rises_without n (k ∷ ks) r = by (rises_without n ks r.1) (k == n)
  where
    by : Rises (without n ks) → (b : Bool) → Rises (if b then ks else k ∷ without n ks)
    by rest true = r.1
    by rest false = (λ m i. r.0 m (among_without m n ks i), rest)

-- a number that is taken away is there no more
pub gone_without : (n : ℕ) (ks : List ℕ) → Rises ks → is_among n (without n ks) ≡ true → ⊥
gone_without n [] r e = absurd (cc)
gone_without n (k ∷ ks) r e = by (gone_without n ks r.1) (k == n) refl e
  where
    by : (is_among n (without n ks) ≡ true → ⊥) → (b : Bool) → (k == n) ≡ b → is_among n (if b then ks else k ∷ without n ks) ≡ true → ⊥
    by rest true t e = let l = r.0 n e in let q = test_same k n t in omega (arith, l, q)
    by rest false t e = rest (ap (λ b. if b then true else is_among n (without n ks)) (sym t) ∙ e)

-- ---- the numbers of live threads

live_low : (ts : List Thread) (d m : ℕ) → is_among m (live_from d ts) ≡ true → d ≤ m
live_low [] d m e = absurd (cc)
live_low (t ∷ ts) d m e = by (λ i. let l = live_low ts (d + 1) m i in omega (arith, l)) t.live e
  where
    at : (is_among m (live_from (d + 1) ts) ≡ true → d ≤ m) → (b : Bool) → (d == m) ≡ b → (if b then true else is_among m (live_from (d + 1) ts)) ≡ true → d ≤ m
    at later true t e = let q = test_same d m t in omega (arith, q)
    at later false t e = later e

    by : (is_among m (live_from (d + 1) ts) ≡ true → d ≤ m) → (b : Bool) → is_among m (if b then d ∷ live_from (d + 1) ts else live_from (d + 1) ts) ≡ true → d ≤ m
    by later true e = at later (d == m) refl e
    by later false e = later e

pub live_rises : (ts : List Thread) (d : ℕ) → Rises (live_from d ts)
live_rises [] d = tt
live_rises (t ∷ ts) d = by (live_rises ts (d + 1)) t.live
  where
    by : Rises (live_from (d + 1) ts) → (b : Bool) → Rises (if b then d ∷ live_from (d + 1) ts else live_from (d + 1) ts)
    by later true = (λ m i. let l = live_low ts (d + 1) m i in omega (arith, l), later)
    by later false = later

among_from : (ts : List Thread) (d m : ℕ) → is_among (d + m) (live_from d ts) ≡ is_alive (slice_get ts m)
among_from [] d m = refl
among_from (t ∷ ts) d zero = by t.live
  where
    none : (b : Bool) → is_among (d + 0) (live_from (d + 1) ts) ≡ b → b ≡ false
    none true e = let l = live_low ts (d + 1) (d + 0) e in absurd (omega (arith, l))
    none false e = refl

    here : (d == d + 0) ≡ true
    here = grind (arith, nat_tests)

    by : (b : Bool) → is_among (d + 0) (if b then d ∷ live_from (d + 1) ts else live_from (d + 1) ts) ≡ b
    by true = ap (λ b. if b then true else is_among (d + 0) (live_from (d + 1) ts)) here
    by false = none _ refl
among_from (t ∷ ts) d (suc m) =
    let s : d + suc m ≡ d + 1 + m = omega arith in by (ap (λ k. is_among k (live_from (d + 1) ts)) s ∙ among_from ts (d + 1) m) t.live
  where
    other : (d == d + suc m) ≡ false
    other = grind (arith, nat_tests)

    by : is_among (d + suc m) (live_from (d + 1) ts) ≡ is_alive (slice_get ts m) → (b : Bool) → is_among (d + suc m) (if b then d ∷ live_from (d + 1) ts else live_from (d + 1) ts) ≡ is_alive (slice_get ts m)
    by later true = ap (λ b. if b then true else is_among (d + suc m) (live_from (d + 1) ts)) other ∙ later
    by later false = later

pub among_live : (ts : List Thread) (m : ℕ) → is_among m (live_from 0 ts) ≡ is_alive (slice_get ts m)
among_live ts m = let z : m ≡ 0 + m = omega arith in ap (λ k. is_among k (live_from 0 ts)) z ∙ among_from ts 0 m

-- ---- the least from a number on

pub next_found : (low h : ℕ) (ns : List ℕ) (d : ℕ) → Rises ns → is_among h ns ≡ true → low ≤ h → ((m : ℕ) → is_among m ns ≡ true → low ≤ m → h ≤ m) → next_from low ns d ≡ h
next_found low h [] d r i l least = absurd (cc)
next_found low h (n ∷ ns) d r i l least = by (λ j. next_found low h ns d r.1 j l (λ m x. least m (among_later m n ns x))) (nat_le low n) refl
  where
    among : (b : Bool) → (n == h) ≡ b → (if b then true else is_among h ns) ≡ true → n ≤ h
    among true t e = let q = test_same n h t in omega (arith, q)
    among false t e = let l = r.0 h e in omega (arith, l)

    rest : (b : Bool) → (n == h) ≡ b → (if b then true else is_among h ns) ≡ true → n < low → is_among h ns ≡ true
    rest true t e b = let q = test_same n h t in absurd (omega (arith, q, b, l))
    rest false t e b = e

    by : (is_among h ns ≡ true → next_from low ns d ≡ h) → (b : Bool) → nat_le low n ≡ b → (if b then n else next_from low ns d) ≡ h
    by later true t =
        let le : low ≤ n = grind (arith, nat_tests) in
        let a : h ≤ n = least n (ap (λ b. if b then true else is_among n ns) (same_test n)) le in
        let c : n ≤ h = among (n == h) refl i in
        omega (arith, a, c)
    by later false t = let lt : n < low = grind (arith, nat_tests) in later (rest (n == h) refl i lt)

pub next_none : (low : ℕ) (ns : List ℕ) (d : ℕ) → ((m : ℕ) → is_among m ns ≡ true → low ≤ m → ⊥) → next_from low ns d ≡ d
next_none low [] d none = refl
next_none low (n ∷ ns) d none = by (next_none low ns d (λ m j. none m (among_later m n ns j))) (nat_le low n) refl
  where
    by : next_from low ns d ≡ d → (b : Bool) → nat_le low n ≡ b → (if b then n else next_from low ns d) ≡ d
    by later true t = absurd (none n (ap (λ b. if b then true else is_among n ns) (same_test n)) (grind (arith, nat_tests)))
    by later false t = later

pub first_next : (ns : List ℕ) → first_or 0 ns ≡ next_from 0 ns 0
first_next [] = refl
first_next (n ∷ ns) = let t : nat_le 0 n ≡ true = grind (arith, nat_tests) in sym (ap (λ b. if b then n else next_from 0 ns 0) t)

-- ---- whose turn is next

-- it is the least live one from a number on
pub next_is : (ts : List Thread) (low h d : ℕ) → is_alive (slice_get ts h) ≡ true → low ≤ h → ((k : ℕ) → low ≤ k → k < h → is_alive (slice_get ts k) ≡ false) → next_from low (live_from 0 ts) d ≡ h
next_is ts low h d l le least = next_found low h (live_from 0 ts) d (live_rises ts 0) (among_live ts h ∙ l) le (λ m i from. by m from (sym (among_live ts m) ∙ i) (nat_lt m h) refl)
  where
    by : (m : ℕ) → low ≤ m → is_alive (slice_get ts m) ≡ true → (t : Bool) → nat_lt m h ≡ t → h ≤ m
    by m from a true t = absurd (cc (a, least m from (grind (arith, nat_tests))))
    by m from a false t = grind (arith, nat_tests)

-- or else the least
pub next_again : (ts : List Thread) (low h : ℕ) → ((k : ℕ) → low ≤ k → is_alive (slice_get ts k) ≡ false) → is_alive (slice_get ts h) ≡ true → ((k : ℕ) → 0 ≤ k → k < h → is_alive (slice_get ts k) ≡ false) → next_from low (live_from 0 ts) (first_or 0 (live_from 0 ts)) ≡ h
next_again ts low h none l least =
    next_none low (live_from 0 ts) (first_or 0 (live_from 0 ts)) (λ m i from. cc (sym (among_live ts m) ∙ i, none m from)) ∙ first_next (live_from 0 ts) ∙ next_is ts 0 h 0 l (omega arith) least
