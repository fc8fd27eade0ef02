-- SPDX-License-Identifier: Apache-2.0
-- Bytes with tokens put in, by their places.
use Rattle.std.proofs.Common.{◌^◌, ◌≡◌, ℕ, zero, suc, ◌+◌, ◌-◌, ◌<◌, ◌≤◌, Bool, false, cond, Some, None, List, [], ◌∷◌, length, get_or, take, drop, refl, sym, ap, ◌∙◌, subst, arith, inl, inr, drop-cons, length-drop, All}
use Rattle.std.specs.Prelude.{find, min, slice_index, slice_index_or}
use Rattle.std.proofs.Math.ListN.{set}
use Rattle.std.proofs.lemmas.Bool.{cases_Bool, cases_lt}
use Rattle.std.proofs.lemmas.Bool.Decides.{nat_tests}
use Rattle.std.proofs.lemmas.List.{get_or-drop, get_or-set_other, get_or-set_same, get_or-take, length-set, length-take}
use Rattle.image_rules.specs.declared.tokens.Token.{Token}
use Rattle.image_rules.specs.Bound.{byte_by, bytes_by, takes_byte}
use Rattle.image_binding.specs.Binds.{IsLaid, IsNarrow}

-- ---- one token

off : (address : ℕ) (t : Token) (x : ℕ) → takes_byte address t ≡ false → byte_by address (find (takes_byte address) (t ∷ [])) x ≡ x
off address t x e = ap (λ (b : Bool). byte_by address (cond b (Some t) None) x) e

before_first : (t : Token) (from count k x : ℕ) → k < min (t.place - from) count → byte_by (from + k) (find (takes_byte (from + k)) (t ∷ [])) x ≡ x
before_first t from count k x l =
    let no : takes_byte (from + k) t ≡ false = grind (arith, nat_tests, l) in
    off (from + k) t x no

past_end : (t : Token) (from k x : ℕ) → t.place + t.width ≤ from + k → byte_by (from + k) (find (takes_byte (from + k)) (t ∷ [])) x ≡ x
past_end t from k x past =
    let no : takes_byte (from + k) t ≡ false = grind (arith, nat_tests, past) in
    off (from + k) t x no

-- ---- several

pub none_laid : (from : ℕ) (xs : List ℕ) → IsLaid [] from xs xs
none_laid from xs = record { many = refl; each = λ k l. refl }

one_more : (address : ℕ) (t : Token) (ts : List Token) (x y z : ℕ) → y ≡ byte_by address (find (takes_byte address) ts) x → z ≡ byte_by address (find (takes_byte address) (t ∷ [])) y → z ≡ byte_by address (find (takes_byte address) (t ∷ ts)) x
one_more address t ts x y z e f =
    elim (cases_Bool (takes_byte address t)) [
      | inl h ↦
          f ∙ ap (λ (b : Bool). byte_by address (cond b (Some t) None) y) h
          ∙ sym (ap (λ (b : Bool). byte_by address (cond b (Some t) (find (takes_byte address) ts)) x) h)
      | inr h ↦
          f ∙ off address t y h ∙ e ∙ sym (ap (λ (b : Bool). byte_by address (cond b (Some t) (find (takes_byte address) ts)) x) h)
    ]

pub one_laid : (t : Token) (ts : List Token) (from : ℕ) (xs ys zs : List ℕ) → IsLaid ts from xs ys → IsLaid (t ∷ []) from ys zs → IsLaid (t ∷ ts) from xs zs
one_laid t ts from xs ys zs a b =
    let many : length zs ≡ length xs = b.many ∙ a.many in
    record {
      many = many;
      each = λ k l. one_more (from + k) t ts (slice_index xs k) (slice_index ys k) (slice_index zs k) (a.each k l) (b.each k (omega (arith, l, a.many)));
    }

last_first : {A : Type 0} (xs : List A) (i : ℕ) (d : A) → i < length xs → drop (length xs - (i + 1)) xs ≡ get_or xs (length xs - 1 - i) d ∷ drop (length xs - i) xs
last_first xs i d l =
    let low : length xs - 1 - i < length xs = omega (arith, l) in
    let at : length xs - (i + 1) ≡ length xs - 1 - i = omega (arith, l) in
    let next : suc (length xs - 1 - i) ≡ length xs - i = omega (arith, l) in
    ap (λ k. drop k xs) at ∙ drop-cons xs (length xs - 1 - i) d low ∙ ap (λ k. get_or xs (length xs - 1 - i) d ∷ drop k xs) next

pub next_laid : (tokens : List Token) (i : ℕ) (d : Token) (from : ℕ) (xs ys zs : List ℕ) → i < length tokens → IsLaid (drop (length tokens - i) tokens) from xs ys → IsLaid (get_or tokens (length tokens - 1 - i) d ∷ []) from ys zs → IsLaid (drop (length tokens - (i + 1)) tokens) from xs zs
next_laid tokens i d from xs ys zs l a b =
    rw (last_first tokens i d l) (one_laid (get_or tokens (length tokens - 1 - i) d) (drop (length tokens - i) tokens) from xs ys zs a b)

-- ---- by their list

abbrev byte_at : List Token → ℕ → ℕ → ℕ
byte_at tokens address x = byte_by address (find (takes_byte address) tokens) x

same_bytes : (tokens : List Token) (from : ℕ) (xs ys : List ℕ) → length ys ≡ length xs → ((k : ℕ) → k < length xs → slice_index ys k ≡ byte_at tokens (from + k) (slice_index xs k)) → ys ≡ bytes_by tokens from xs
same_bytes tokens from [] [] e each = refl
same_bytes tokens from [] (y ∷ ys) e each = absurd (omega (arith, e))
same_bytes tokens from (x ∷ xs) [] e each = absurd (omega (arith, e))
same_bytes tokens from (x ∷ xs) (y ∷ ys) e each =
    let here : from + 0 ≡ from = omega arith in
    let first : y ≡ byte_at tokens from x = each 0 (omega arith) ∙ ap (λ a. byte_at tokens a x) here in
    let rest : ys ≡ bytes_by tokens (from + 1) xs = same_bytes tokens (from + 1) xs ys (omega (arith, e)) (λ k l.
    let next : from + suc k ≡ from + 1 + k = omega arith in
    each (suc k) (omega (arith, l)) ∙ ap (λ a. byte_at tokens a (slice_index xs k)) next) in
    ap (λ b. b ∷ ys) first ∙ ap (λ bs. byte_at tokens from x ∷ bs) rest

-- bytes with the tokens that can be there are bytes with all tokens
pub all_laid : (inside tokens : List Token) (from : ℕ) (xs ys : List ℕ) → ((address : ℕ) → from ≤ address → address < from + length xs → find (takes_byte address) inside ≡ find (takes_byte address) tokens) → IsLaid inside from xs ys → ys ≡ bytes_by tokens from xs
all_laid inside tokens from xs ys found laid =
    same_bytes tokens from xs ys laid.many
    (λ k l. laid.each k l ∙ ap (λ o. byte_by (from + k) o (slice_index xs k)) (found (from + k) (omega arith) (omega (arith, l))))

-- ---- the tokens that can be there

skip_first : (address n : ℕ) (ts : List Token) → n ≤ length ts → ((k : ℕ) (d : Token) → k < n → takes_byte address (get_or ts k d) ≡ false) → find (takes_byte address) ts ≡ find (takes_byte address) (drop n ts)
skip_first address zero ts l none = refl
skip_first address (suc n) [] l none = absurd (omega (arith, l))
skip_first address (suc n) (t ∷ ts) l none =
    ap (λ (b : Bool). cond b (Some t) (find (takes_byte address) ts)) (none 0 t (omega arith))
    ∙ skip_first address n ts (omega (arith, l)) (λ k d m. none (suc k) d (omega (arith, m)))

none_takes : (address : ℕ) (ts : List Token) → ((k : ℕ) (d : Token) → k < length ts → takes_byte address (get_or ts k d) ≡ false) → find (takes_byte address) ts ≡ None
none_takes address [] none = refl
none_takes address (t ∷ ts) none =
    ap (λ (b : Bool). cond b (Some t) (find (takes_byte address) ts)) (none 0 t (omega arith))
    ∙ none_takes address ts (λ k d m. none (suc k) d (omega (arith, m)))

skip_last : (address n : ℕ) (ts : List Token) → ((k : ℕ) (d : Token) → n ≤ k → k < length ts → takes_byte address (get_or ts k d) ≡ false) → find (takes_byte address) (take n ts) ≡ find (takes_byte address) ts
skip_last address zero ts none = sym (none_takes address ts (λ k d m. none k d (omega arith) m))
skip_last address (suc n) [] none = refl
skip_last address (suc n) (t ∷ ts) none =
    ap (λ o. cond (takes_byte address t) (Some t) o) (skip_last address n ts (λ k d l m. none (suc k) d (omega (arith, l)) (omega (arith, m))))

no_early : (a from : ℕ) (t : Token) → IsNarrow t → t.place < from - 7 → from ≤ a → takes_byte a t ≡ false
no_early a from t narrow l m =
    let past : t.place + t.width ≤ a = omega (arith, narrow, l, m) in
    grind (arith, nat_tests, past)

no_late : (a to : ℕ) (t : Token) → to ≤ t.place → a < to → takes_byte a t ≡ false
no_late a to t l m =
    let before : a < t.place = omega (arith, l, m) in
    grind (arith, nat_tests, before)

pub inside_is : (ts : List Token) (i j from to a : ℕ) → i ≤ length ts → All IsNarrow ts → ((k : ℕ) (d : Token) → k < i → (slice_index_or ts k d).place < from - 7) → ((k : ℕ) (d : Token) → j ≤ k → k < length ts → to ≤ (slice_index_or ts k d).place) → from ≤ a → a < to → find (takes_byte a) (take (j - i) (drop i ts)) ≡ find (takes_byte a) ts
inside_is ts i j from to a bound narrow below above l m =
    skip_last a (j - i) (drop i ts)
    (λ k d n o.
    let inner : i + k < length ts = omega (arith, o, length-drop i ts, bound) in
    let at : get_or (drop i ts) k d ≡ get_or ts (i + k) d = get_or-drop i ts k d in
    ap (takes_byte a) at ∙ no_late a to (get_or ts (i + k) d) (above (i + k) d (omega (arith, n)) inner) m)
    ∙ sym (skip_first a i ts bound (λ k d n. no_early a from (get_or ts k d) (narrow k d (omega (arith, n, bound))) (below k d n) l))

pub inside_narrow : (ts : List Token) (i n : ℕ) → All IsNarrow ts → All IsNarrow (take n (drop i ts))
inside_narrow ts i n narrow k d l =
    let low : k < n = omega (arith, l, length-take n (drop i ts)) in
    let inner : i + k < length ts = omega (arith, l, length-take n (drop i ts), length-drop i ts) in
    let at : get_or (take n (drop i ts)) k d ≡ get_or ts (i + k) d = get_or-take n (drop i ts) k d low ∙ get_or-drop i ts k d in
    subst IsNarrow (sym at) (narrow (i + k) d inner)

pub in_order : (ts : List Token) (i j from to : ℕ) (d : Token) → i ≤ length ts → ((k : ℕ) (d : Token) → k < i → (slice_index_or ts k d).place < from - 7) → ((k : ℕ) (d : Token) → j ≤ k → k < length ts → to ≤ (slice_index_or ts k d).place) → from ≤ to → i ≤ j
in_order ts i j from to d bound below above le = elim (cases_lt j i) [
  | inl l ↦
      let a = below j d l in
      let b = above j d (omega arith) (omega (arith, l, bound)) in
      absurd (omega (arith, a, b, le))
  | inr g ↦ g
]

drop_whole : {A : Type 0} (xs : List A) → drop (length xs) xs ≡ []
drop_whole [] = refl
drop_whole (x ∷ xs) = drop_whole xs

pub start_laid : (ts : List Token) (from : ℕ) (xs : List ℕ) → IsLaid (drop (length ts - 0) ts) from xs xs
start_laid ts from xs =
    let all : length ts - 0 ≡ length ts = omega arith in
    rw (all, drop_whole ts) (none_laid from xs)

pub end_laid : (ts : List Token) (i from : ℕ) (xs ys : List ℕ) → length ts ≤ i → IsLaid (drop (length ts - i) ts) from xs ys → IsLaid ts from xs ys
end_laid ts i from xs ys l h =
    let none : length ts - i ≡ 0 = omega (arith, l) in
    rw none at h

-- ---- one token, byte by byte

-- bytes below i have the token, the others are as they were
pub record IsUpTo (t : Token) (from i : ℕ) (old new : List ℕ) : Type 0 where
  pub many : length new ≡ length old
  pub laid : (k : ℕ) → k < i → k < length old → slice_index new k ≡ byte_by (from + k) (find (takes_byte (from + k)) (t ∷ [])) (slice_index old k)
  pub left : (k : ℕ) → i ≤ k → slice_index new k ≡ slice_index old k

pub up_to_first : (t : Token) (from first : ℕ) (xs : List ℕ) → first ≡ min (t.place - from) (length xs) → IsUpTo t from first xs xs
up_to_first t from first xs e =
    record {
      many = refl;
      laid = λ k l m. sym (before_first t from (length xs) k (slice_index xs k) (omega (arith, e, l)));
      left = λ k l. refl;
    }

pub up_to_next : (t : Token) (from i v : ℕ) (xs ys : List ℕ) → i < length xs → IsUpTo t from i xs ys → v ≡ byte_by (from + i) (find (takes_byte (from + i)) (t ∷ [])) (slice_index ys i) → IsUpTo t from (i + 1) xs (set ys i v)
up_to_next t from i v xs ys low h e =
    record {
      many = length-set ys i v ∙ h.many;
      laid = λ k l m. at k l m;
      left = λ k l. get_or-set_other ys i k v 0 (λ same. omega (arith, same, l)) ∙ h.left k (omega (arith, l));
    }
  where
    here : slice_index (set ys i v) i ≡ byte_by (from + i) (find (takes_byte (from + i)) (t ∷ [])) (slice_index xs i)
    here =
        let in_it : i < length ys = omega (arith, low, h.many) in
        get_or-set_same ys i v 0 in_it ∙ e ∙ ap (byte_by (from + i) (find (takes_byte (from + i)) (t ∷ []))) (h.left i (omega arith))

    at : (k : ℕ) → k < i + 1 → k < length xs → slice_index (set ys i v) k ≡ byte_by (from + k) (find (takes_byte (from + k)) (t ∷ [])) (slice_index xs k)
    at k l m = elim (cases_lt k i) [
      | inl less ↦ get_or-set_other ys i k v 0 (λ same. omega (arith, same, less)) ∙ h.laid k less m
      | inr more ↦
          let same : i ≡ k = omega (arith, l, more) in
          subst (λ j. slice_index (set ys i v) j ≡ byte_by (from + j) (find (takes_byte (from + j)) (t ∷ [])) (slice_index xs j)) same here
    ]

pub up_to_end : (t : Token) (from i end past : ℕ) (xs ys : List ℕ) → past ≡ min (t.place + t.width) 0xffffffffffffffff → end ≡ min (past - from) (length xs) → from + length xs < 2 ^ 64 → end ≤ i → IsUpTo t from i xs ys → IsLaid (t ∷ []) from xs ys
up_to_end t from i end past xs ys p e small l h =
    record {
      many = h.many;
      each = λ k m. elim (cases_lt k i) [
        | inl less ↦ h.laid k less m
        | inr more ↦
            let behind : t.place + t.width ≤ from + k = omega (arith, p, e, small, l, more, m) in
            h.left k more ∙ sym (past_end t from k (slice_index xs k) behind)
      ];
    }
