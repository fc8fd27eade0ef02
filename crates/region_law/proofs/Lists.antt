-- SPDX-License-Identifier: Apache-2.0
-- Regions with tokens in their bytes, and others behind them: where they lie, and what they read.
use Rattle.std.proofs.Common.{◌≡◌, ℕ, zero, suc, ◌+◌, ◌-◌, ◌<◌, ◌≤◌, Bool, true, false, cond, Some, List, [], ◌∷◌, ◌++◌, length, get_or, refl, ap, ◌∙◌, arith}
use Rattle.std.specs.Prelude.{find, map}
use Rattle.std.specs.List.{AllByRecursion}
use Rattle.std.proofs.lemmas.Bool.Decides.{nat_tests}
use Rattle.sh_types.specs.declared.code.Region.{Region}
use Rattle.image_rules.specs.declared.tokens.Token.{Token}
use Rattle.image_rules.specs.Bound.{bound_region, byte_by, bytes_by, takes_byte}
use Rattle.load_law.specs.Readable.{IsFull, in_region, reaches, read_at}
use Rattle.region_law.specs.BoundReadable.{with_token}

-- ---- bytes

length-bytes : (ts : List Token) (start : ℕ) (xs : List ℕ) → length (bytes_by ts start xs) ≡ length xs
length-bytes ts start [] = refl
length-bytes ts start (x ∷ xs) = ap suc (length-bytes ts (start + 1) xs)

byte_at : (ts : List Token) (a start : ℕ) (xs : List ℕ) (i : ℕ) → a ≡ start + i → i < length xs → get_or (bytes_by ts start xs) i 0 ≡ byte_by a (find (takes_byte a) ts) (get_or xs i 0)
byte_at ts a start [] i e l = absurd (omega (arith, l))
byte_at ts a start (x ∷ xs) zero e l =
    let same : start ≡ a = omega (arith, e) in
    ap (λ p. byte_by p (find (takes_byte p) ts) x) same
byte_at ts a start (x ∷ xs) (suc i) e l = byte_at ts a (start + 1) xs i (omega (arith, e)) (omega (arith, l))

module _ (ts : List Token) where
  -- ---- one region

  full_one : (r : Region) → IsFull r → IsFull (bound_region ts r)
  unfolding bound_region
  full_one r f = record { some = f.some; bytes = ap (λ n. r.start + n) (length-bytes ts r.start r.bytes) ∙ f.bytes }

  same_reach : (a : ℕ) (r : Region) → reaches a (bound_region ts r) ≡ reaches a r
  unfolding bound_region
  same_reach a r = refl

  start_one : (r : Region) → (bound_region ts r).start ≡ r.start
  unfolding bound_region
  start_one r = refl

  end_one : (r : Region) → (bound_region ts r).end ≡ r.end
  unfolding bound_region
  end_one r = refl

  read_one : (a : ℕ) (r : Region) → IsFull r → reaches a r ≡ true → in_region a (Some (bound_region ts r)) ≡ with_token a (find (takes_byte a) ts) (in_region a (Some r))
  unfolding bound_region
  read_one a r f e =
      let low : r.start ≤ a = grind (arith, nat_tests, e) in
      let high : a < r.end = grind (arith, nat_tests, e) in
      let inner : a - r.start < length r.bytes = omega (arith, low, high, f.bytes) in
      let place : a ≡ r.start + (a - r.start) = omega (arith, low) in
      ap (λ v. Some (record { value = v; writable = r.writable })) (byte_at ts a r.start r.bytes (a - r.start) place inner)

  -- ---- all regions, and those behind them

  pub length-bound : (rs behind : List Region) → length (map (bound_region ts) rs ++ behind) ≡ length (rs ++ behind)
  length-bound [] behind = refl
  length-bound (r ∷ rs) behind = ap suc (length-bound rs behind)

  pub same_start : (rs behind : List Region) (k : ℕ) (d : Region) → (get_or (map (bound_region ts) rs ++ behind) k d).start ≡ (get_or (rs ++ behind) k d).start
  same_start [] behind k d = refl
  same_start (r ∷ rs) behind zero d = start_one r
  same_start (r ∷ rs) behind (suc k) d = same_start rs behind k d

  pub same_end : (rs behind : List Region) (k : ℕ) (d : Region) → (get_or (map (bound_region ts) rs ++ behind) k d).end ≡ (get_or (rs ++ behind) k d).end
  same_end [] behind k d = refl
  same_end (r ∷ rs) behind zero d = end_one r
  same_end (r ∷ rs) behind (suc k) d = same_end rs behind k d

  pub all_full : (rs behind : List Region) → AllByRecursion IsFull (rs ++ behind) → AllByRecursion IsFull (map (bound_region ts) rs ++ behind)
  all_full [] behind all = all
  all_full (r ∷ rs) behind all = (full_one r all.0, all_full rs behind all.1)

  -- where those behind them read as with the token
  pub all_read : (a : ℕ) (rs behind : List Region) → AllByRecursion IsFull (rs ++ behind) → read_at behind a ≡ with_token a (find (takes_byte a) ts) (read_at behind a) → read_at (map (bound_region ts) rs ++ behind) a ≡ with_token a (find (takes_byte a) ts) (read_at (rs ++ behind) a)
  all_read a [] behind all last = last
  all_read a (r ∷ rs) behind all last =
      let rest = all_read a rs behind all.1 last in
      ap (λ t. in_region a (cond t (Some (bound_region ts r)) (find (reaches a) (map (bound_region ts) rs ++ behind)))) (same_reach a r) ∙ by (reaches a r) refl rest
    where
      by : (t : Bool) → reaches a r ≡ t → read_at (map (bound_region ts) rs ++ behind) a ≡ with_token a (find (takes_byte a) ts) (read_at (rs ++ behind) a) → in_region a (cond t (Some (bound_region ts r)) (find (reaches a) (map (bound_region ts) rs ++ behind))) ≡ with_token a (find (takes_byte a) ts) (in_region a (cond t (Some r) (find (reaches a) (rs ++ behind))))
      by true e rest = read_one a r all.0 e
      by false e rest = rest
