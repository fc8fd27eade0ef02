-- SPDX-License-Identifier: Apache-2.0
-- Sections in order: those that start in a range.
use Rattle.std.proofs.Common.{◌≡◌, ℕ, zero, suc, ◌+◌, ◌-◌, ◌<◌, ◌≤◌, Bool, true, false, cond, ◌&&◌, All, List, [], ◌∷◌, length, get_or, take, drop, refl, sym, ap, ◌∙◌, arith, inl, inr}
use Rattle.std.specs.Prelude.{nat_le, nat_lt, filter}
use Rattle.std.proofs.lemmas.Bool.{cases_lt}
use Rattle.std.proofs.lemmas.Bool.Decides.{nat_tests}
use Rattle.std.proofs.lemmas.List.Elements.{All-weaker, filter_passes}
use Rattle.elf_rules.specs.declared.elf.Head.{Head}
use Rattle.elf_rules.specs.declared.elf.Segment.{Segment}
use Rattle.elf_rules.specs.Bindable.{codes_within}
use Rattle.elf_rules.specs.Elf.{no_head}
use Rattle.image_binding.specs.Order.{StartsFrom}

-- ---- the sections that start in a range

-- so many sections start below the address
abbrev pub StartUnder : List Head → ℕ → ℕ → Type 0
StartUnder codes address i = (k : ℕ) (d : Head) → k < i → (get_or codes k d).start < address

-- the others start at or above it
abbrev pub StartOver : List Head → ℕ → ℕ → Type 0
StartOver codes address i = (k : ℕ) (d : Head) → i ≤ k → k < length codes → address ≤ (get_or codes k d).start

pub in_order : (codes : List Head) (low high i j : ℕ) → low ≤ high → i ≤ length codes → StartUnder codes low i → StartOver codes high j → i ≤ j
in_order codes low high i j le bound under over = elim (cases_lt j i) [
  | inl l ↦
      let a = under j no_head l in
      let b = over j no_head (omega arith) (omega arith) in
      absurd (omega (arith, a, b))
  | inr g ↦ g
]

abbrev starts_in : ℕ → ℕ → Head → Bool
starts_in low high h = nat_le low h.start && nat_lt h.start high

none_of : (n i : ℕ) → take n (drop i (let none : List Head = [] in none)) ≡ []
none_of zero zero = refl
none_of zero (suc i) = refl
none_of (suc n) zero = refl
none_of (suc n) (suc i) = refl

outside : (low high : ℕ) (h : Head) (hs : List Head) → starts_in low high h ≡ false → filter (starts_in low high) (h ∷ hs) ≡ filter (starts_in low high) hs
outside low high h hs e = ap (λ b. cond b (h ∷ filter (starts_in low high) hs) (filter (starts_in low high) hs)) e

part_is : (low high : ℕ) (codes : List Head) (i j : ℕ) → low ≤ high → StartUnder codes low i → StartOver codes low i → StartUnder codes high j → StartOver codes high j → take (j - i) (drop i codes) ≡ filter (starts_in low high) codes
part_is low high [] i j le a b c d = none_of (j - i) i
part_is low high (h ∷ hs) zero zero le a b c d =
    let no : starts_in low high h ≡ false = grind (arith, nat_tests, d 0 h (omega arith) (omega arith)) in
    part_is low high hs zero zero le (λ k e l. absurd (omega arith)) (λ k e l m. b (suc k) e (omega arith) (omega arith))
    (λ k e l. absurd (omega arith)) (λ k e l m. d (suc k) e (omega arith) (omega arith))
    ∙ sym (outside low high h hs no)
part_is low high (h ∷ hs) zero (suc j) le a b c d =
    let yes : starts_in low high h ≡ true = grind (arith, nat_tests, b 0 h (omega arith) (omega arith), c 0 h (omega arith)) in
    let rest =
    part_is low high hs zero j le (λ k e l. absurd (omega arith)) (λ k e l m. b (suc k) e (omega arith) (omega arith))
    (λ k e l. c (suc k) e (omega arith)) (λ k e l m. d (suc k) e (omega arith) (omega arith)) in
    let all : suc j - 0 ≡ suc j = omega arith in
    let less : j ≡ j - 0 = omega arith in
    ap (λ n. take n (h ∷ hs)) all ∙ ap (λ t. h ∷ t) (ap (λ n. take n hs) less ∙ rest)
    ∙ sym (ap (λ t. cond t (h ∷ filter (starts_in low high) hs) (filter (starts_in low high) hs)) yes)
part_is low high (h ∷ hs) (suc i) zero le a b c d =
    absurd (omega (arith, a 0 h (omega arith), d 0 h (omega arith) (omega arith)))
part_is low high (h ∷ hs) (suc i) (suc j) le a b c d =
    let no : starts_in low high h ≡ false = grind (arith, nat_tests, a 0 h (omega arith)) in
    let same : suc j - suc i ≡ j - i = omega arith in
    ap (λ n. take n (drop i hs)) same
    ∙ part_is low high hs i j le (λ k e l. a (suc k) e (omega arith)) (λ k e l m. b (suc k) e (omega arith) (omega arith))
    (λ k e l. c (suc k) e (omega arith)) (λ k e l m. d (suc k) e (omega arith) (omega arith))
    ∙ sym (outside low high h hs no)

pub within_is : (g : Segment) (codes : List Head) (i j : ℕ) → StartUnder codes g.start i → StartOver codes g.start i → StartUnder codes (g.start + g.size) j → StartOver codes (g.start + g.size) j → take (j - i) (drop i codes) ≡ codes_within g codes
within_is g codes i j a b c d = part_is g.start (g.start + g.size) codes i j (omega arith) a b c d

pub from_start : (g : Segment) (codes : List Head) → All (StartsFrom g.start) (codes_within g codes)
from_start g codes =
    let within = starts_in g.start (g.start + g.size) in
    let from : (h : Head) → within h ≡ true → g.start ≤ h.start = λ h e. grind (arith, nat_tests, e) in
    All-weaker (λ h. within h ≡ true) (StartsFrom g.start) from (codes_within g codes) (filter_passes within codes)
