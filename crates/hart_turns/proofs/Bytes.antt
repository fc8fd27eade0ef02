-- SPDX-License-Identifier: Apache-2.0
-- Ranges of bytes that are read from memory, and put there.
use Rattle.std.proofs.Common.{◌≡◌, ℕ, zero, suc, ◌+◌, ◌-◌, ◌*◌, ◌/◌, ◌%◌, ◌^◌, ◌<◌, ◌≤◌, Bool, true, false, Option, Some, None, List, [], ◌∷◌, ◌++◌, length, take, refl, sym, ap, ◌∙◌, subst, arith, append_assoc, append-nil}
use Rattle.std.specs.Prelude.{slice_index, ◌==◌, ◌&&◌, ◌||◌, is_some, unwrap_or, if◌then◌else◌}
use Rattle.std.specs.List.{list_any}
use Rattle.std.specs.Option.{option_map}
use Rattle.std.proofs.Math.Path.{fun_ext}
use Rattle.std.proofs.lemmas.Bool.Decides.{nat_tests}
use Rattle.sh_types.specs.declared.code.Region.{Region}
use Rattle.sh_machines.specs.Memory.{is_in_region, can_write, each_from, readable, writable, byte_of, both_bytes, bytes_from}
use Rattle.sh_machines.specs.Need.{set_at, part_of, with_part, patched}
use Rattle.sh_machines.specs.Shuffled.{Owned, owned, value_if, plain_value, fill_owned, fills}

and_first : (a b : Bool) → (a && b) ≡ true → a ≡ true
and_first a b e = grind arith

and_second : (a b : Bool) → (a && b) ≡ true → b ≡ true
and_second a b e = grind arith

both_true : (a b : Bool) → a ≡ true → b ≡ true → (a && b) ≡ true
both_true true b e f = f
both_true false b e f = absurd (cc)

-- ---- each byte of a range

each_at : (test : ℕ → Bool) (a n k : ℕ) → k < n → each_from test a n ≡ true → each_from test (a + k) 1 ≡ true
unfolding each_from
each_at test a zero k lt e = absurd (omega (arith, lt))
each_at test a (suc n) zero lt e = let z : a + 0 ≡ a = omega arith in rw (z, and_first (test a) _ e) refl
each_at test a (suc n) (suc k) lt e =
    let z : suc a + k ≡ a + suc k = omega arith in
    subst (λ b. each_from test b 1 ≡ true) z (each_at test (suc a) n k (omega (arith, lt)) (and_second _ _ e))

pub readable_at : (rs : List Region) (a n k : ℕ) → k < n → readable rs a n ≡ true → readable rs (a + k) 1 ≡ true
unfolding readable
readable_at rs a n k lt e = each_at _ a n k lt e

pub writable_at : (rs : List Region) (a n k : ℕ) → k < n → writable rs a n ≡ true → writable rs (a + k) 1 ≡ true
unfolding writable
writable_at rs a n k lt e = each_at _ a n k lt e

both_some : (x : Option ℕ) (y : Option (List ℕ)) → is_some (both_bytes x y) ≡ (is_some x && is_some y)
both_some None y = refl
both_some (Some b) None = refl
both_some (Some b) (Some bs) = refl

map_some : (f : ℕ → ℕ) (x : Option ℕ) → is_some (option_map f x) ≡ is_some x
map_some f None = refl
map_some f (Some x) = refl

plain_at : (p : ℕ → Option ℕ) (a n k : ℕ) → k < n → is_some (bytes_from p a n) ≡ true → is_some (p ((a + k) / 8)) ≡ true
unfolding bytes_from
plain_at p a zero k lt e = absurd (omega (arith, lt))
plain_at p a (suc n) zero lt e =
    let q : (is_some (byte_of p a) && is_some (bytes_from p (suc a) n)) ≡ true = sym (both_some (byte_of p a) (bytes_from p (suc a) n)) ∙ e in
    let z : a + 0 ≡ a = omega arith in
    ap (λ b. is_some (p (b / 8))) z ∙ sym (map_some (λ v. v / 2 ^ (8 * (a % 8)) % 2 ^ 8) (p (a / 8))) ∙ and_first _ _ q
plain_at p a (suc n) (suc k) lt e =
    let q : (is_some (byte_of p a) && is_some (bytes_from p (suc a) n)) ≡ true = sym (both_some (byte_of p a) (bytes_from p (suc a) n)) ∙ e in
    let z : suc a + k ≡ a + suc k = omega arith in
    subst (λ b. is_some (p (b / 8)) ≡ true) z (plain_at p (suc a) n k (omega (arith, lt)) (and_second _ _ q))

free_if : (c : Owned) → is_some (plain_value c) ≡ true → c.owner ≡ None
free_if c e = by c.owner e
  where
    by : (o : Option ℕ) → is_some (value_if c.value o) ≡ true → o ≡ None
    by None q = refl
    by (Some k) q = absurd (cc)

abbrev pub plain_words : (ℕ → Owned) → ℕ → Option ℕ
plain_words m w = plain_value (m w)

-- a word of the range has no owner
pub free_at : (m : ℕ → Owned) (a n k : ℕ) → k < n → is_some (bytes_from (plain_words m) a n) ≡ true → (m ((a + k) / 8)).owner ≡ None
free_at m a n k lt e = free_if (m ((a + k) / 8)) (plain_at (plain_words m) a n k lt e)

pub byte_is : (m : ℕ → Owned) (a n k : ℕ) (b : Bool) (x : Option ℕ) → k < n → is_some (bytes_from (plain_words m) a n) ≡ true → b ≡ true → x ≡ (if b then Some (part_of (a + k) 1 (m ((a + k) / 8)).value) else None) → x ≡ byte_of (plain_words m) (a + k)
unfolding part_of
byte_is m a n k b x lt e t ex =
    ex ∙ ap (λ (c : Bool). if c then Some ((m ((a + k) / 8)).value / 2 ^ (8 * ((a + k) % 8)) % 2 ^ 8) else None) t
    ∙ ap (λ o. option_map (λ v. v / 2 ^ (8 * ((a + k) % 8)) % 2 ^ 8) (value_if (m ((a + k) / 8)).value o)) (sym (free_at m a n k lt e))

-- ---- the bytes join a list

step_is : (p : ℕ → Option ℕ) (a n k : ℕ) → k < n → bytes_from p (a + k) (n - k) ≡ both_bytes (byte_of p (a + k)) (bytes_from p (a + (k + 1)) (n - (k + 1)))
unfolding bytes_from
step_is p a n k lt =
    let e : n - k ≡ suc (n - (k + 1)) = omega arith in
    let f : suc (a + k) ≡ a + (k + 1) = omega arith in
    ap (bytes_from p (a + k)) e ∙ ap (λ x. both_bytes (byte_of p (a + k)) (bytes_from p x (n - (k + 1)))) f

both_rest : (x : Option ℕ) (y : Option (List ℕ)) → is_some (both_bytes x y) ≡ true → unwrap_or (both_bytes x y) [] ≡ unwrap_or x 0 ∷ unwrap_or y []
both_rest None y e = absurd (cc)
both_rest (Some b) None e = absurd (cc)
both_rest (Some b) (Some bs) e = refl

-- what is to come, behind what has joined
pub record IsRest (p : ℕ → Option ℕ) (a n k : ℕ) (old all : List ℕ) : Type 0 where
  pub some : is_some (bytes_from p (a + k) (n - k)) ≡ true
  pub list : all ++ unwrap_or (bytes_from p (a + k) (n - k)) [] ≡ old ++ unwrap_or (bytes_from p a n) []

pub rest_first : (p : ℕ → Option ℕ) (a n : ℕ) (old : List ℕ) → is_some (bytes_from p a n) ≡ true → IsRest p a n 0 old old
rest_first p a n old e = let z : a + 0 ≡ a = omega arith in let y : n - 0 ≡ n = omega arith in record { some = rw (z, y) e; list = rw (z, y) refl }

pub rest_next : (p : ℕ → Option ℕ) (a n k : ℕ) (old all : List ℕ) (x : Option ℕ) → IsRest p a n k old all → k < n → x ≡ byte_of p (a + k) → IsRest p a n (k + 1) old (all ++ unwrap_or x 0 ∷ [])
rest_next p a n k old all x r lt e =
    let rest : Option (List ℕ) = bytes_from p (a + (k + 1)) (n - (k + 1)) in
    let st : bytes_from p (a + k) (n - k) ≡ both_bytes x rest = step_is p a n k lt ∙ ap (λ y. both_bytes y rest) (sym e) in
    let some : is_some (both_bytes x rest) ≡ true = sym (ap is_some st) ∙ r.some in
    let here : unwrap_or (bytes_from p (a + k) (n - k)) [] ≡ unwrap_or x 0 ∷ unwrap_or rest [] = ap (λ y. unwrap_or y []) st ∙ both_rest x rest some in
    record {
      some = and_second (is_some x) (is_some rest) (sym (both_some x rest) ∙ some);
      list = append_assoc all (unwrap_or x 0 ∷ []) (unwrap_or rest []) ∙ ap (λ ys. all ++ ys) (sym here) ∙ r.list;
    }

pub rest_last : (p : ℕ → Option ℕ) (a n k : ℕ) (old all : List ℕ) → IsRest p a n k old all → n ≤ k → all ≡ old ++ unwrap_or (bytes_from p a n) []
unfolding bytes_from
rest_last p a n k old all r le =
    let z : n - k ≡ 0 = omega (arith, le) in
    sym (append-nil all) ∙ ap (λ j. all ++ unwrap_or (bytes_from p (a + k) j) []) (sym z) ∙ r.list

pub rest_none : (p : ℕ → Option ℕ) (a n : ℕ) (old : List ℕ) → n ≡ 0 → old ≡ old ++ unwrap_or (bytes_from p a n) []
unfolding bytes_from
rest_none p a n old e = sym (append-nil old) ∙ ap (λ j. old ++ unwrap_or (bytes_from p a j) []) (sym e)

-- ---- bytes that are put

patched_more : (a b w : ℕ) (bs : List ℕ) (v : ℕ) → patched a (bs ++ b ∷ []) w v ≡ (if (a + length bs) / 8 == w then with_part (a + length bs) 1 b (patched a bs w v) else patched a bs w v)
unfolding patched
patched_more a b w [] v = let z : a + 0 ≡ a = omega arith in rw z refl
patched_more a b w (x ∷ bs) v =
    let z : suc a + length bs ≡ a + suc (length bs) = omega arith in
    let v' : ℕ = if a / 8 == w then with_part a 1 x v else v in
    patched_more (suc a) b w bs v' ∙ ap (λ i. if i / 8 == w then with_part i 1 b (patched (suc a) bs w v') else patched (suc a) bs w v') z

fill_owner : (f : ℕ → ℕ) (v : ℕ) (o : Option ℕ) → (fill_owned f v o).owner ≡ o
fill_owner f v None = refl
fill_owner f v (Some k) = refl

-- no owner changes
pub fills_owner : (a : ℕ) (bs : List ℕ) (m : ℕ → Owned) (w : ℕ) → (fills a bs m w).owner ≡ (m w).owner
fills_owner a bs m w = fill_owner (patched a bs w) (m w).value (m w).owner

fill_free : (f : ℕ → ℕ) (v : ℕ) (o : Option ℕ) → o ≡ None → fill_owned f v o ≡ owned (f v) None
fill_free f v o e = ap (fill_owned f v) e

fill_same : (f g : ℕ → ℕ) (v : ℕ) (o : Option ℕ) → f v ≡ g v → fill_owned f v o ≡ fill_owned g v o
fill_same f g v None e = ap (λ x. owned x None) e
fill_same f g v (Some k) e = refl

pub fills_more : (a b : ℕ) (bs : List ℕ) (m : ℕ → Owned) → (m ((a + length bs) / 8)).owner ≡ None → set_at (fills a bs m) ((a + length bs) / 8) (owned (with_part (a + length bs) 1 b (fills a bs m ((a + length bs) / 8)).value) None) ≡ fills a (bs ++ b ∷ []) m
fills_more a b bs m free = fun_ext (λ w. at w (w == x) refl)
  where
    x : ℕ
    x = (a + length bs) / 8

    at : (w : ℕ) (t : Bool) → (w == x) ≡ t → (if t then owned (with_part (a + length bs) 1 b (fills a bs m x).value) None else fills a bs m w) ≡ fills a (bs ++ b ∷ []) m w
    at w true e =
        let q : x ≡ w = grind (arith, nat_tests) in
        let t : (x == w) ≡ true = grind (arith, nat_tests) in
        let here : fills a bs m w ≡ owned (patched a bs w (m w).value) None = fill_free (patched a bs w) (m w).value (m w).owner (subst (λ y. (m y).owner ≡ None) q free) in
        ap (λ y. owned (with_part (a + length bs) 1 b (fills a bs m y).value) None) q
        ∙ ap (λ (c : Owned). owned (with_part (a + length bs) 1 b c.value) None) here
        ∙ sym (fill_free (patched a (bs ++ b ∷ []) w) (m w).value (m w).owner (subst (λ y. (m y).owner ≡ None) q free)
        ∙ ap (λ v. owned v None) (patched_more a b w bs (m w).value ∙ ap (λ (c : Bool). if c then with_part (a + length bs) 1 b (patched a bs w (m w).value) else patched a bs w (m w).value) t))
    at w false e =
        let t : (x == w) ≡ false = grind (arith, nat_tests) in
        sym (fill_same (patched a (bs ++ b ∷ []) w) (patched a bs w) (m w).value (m w).owner (patched_more a b w bs (m w).value ∙ ap (λ (c : Bool). if c then with_part (a + length bs) 1 b (patched a bs w (m w).value) else patched a bs w (m w).value) t))

pub fills_none : (a : ℕ) (m : ℕ → Owned) → fills a [] m ≡ m
unfolding patched
fills_none a m = fun_ext (λ w. by (m w))
  where
    by : (c : Owned) → fill_owned (λ v. v) c.value c.owner ≡ c
    by c = at c.owner refl
      where
        at : (o : Option ℕ) → c.owner ≡ o → fill_owned (λ v. v) c.value o ≡ c
        at None e = ap (owned c.value) (sym e)
        at (Some k) e = ap (owned c.value) (sym e)

take_more : (i b : ℕ) (xs : List ℕ) → i < length xs → slice_index xs i ≡ b → take (suc i) xs ≡ take i xs ++ b ∷ []
take_more i b [] lt e = absurd (omega (arith, lt))
take_more zero b (x ∷ xs) lt e = ap (λ y. y ∷ []) e
take_more (suc i) b (x ∷ xs) lt e = ap (λ ys. x ∷ ys) (take_more i b xs (omega (arith, lt)) e)

take_len : (i : ℕ) (xs : List ℕ) → i ≤ length xs → length (take i xs) ≡ i
take_len zero xs le = refl
take_len (suc i) [] le = absurd (omega (arith, le))
take_len (suc i) (x ∷ xs) le = ap suc (take_len i xs (omega (arith, le)))

-- a byte that is put behind the first i
pub fill_next : (a i at b : ℕ) (bytes : List ℕ) (m0 m m' : ℕ → Owned) → at ≡ a + i → i < length bytes → slice_index bytes i ≡ b → is_some (bytes_from (plain_words m0) a (length bytes)) ≡ true → m ≡ fills a (take i bytes) m0 → m' ≡ set_at m (at / 8) (owned (with_part at 1 b (m (at / 8)).value) None) → m' ≡ fills a (take (suc i) bytes) m0
fill_next a i at b bytes m0 m m' ea lt eb plain em em' =
    let n : length (take i bytes) ≡ i = take_len i bytes (omega (arith, lt)) in
    let p : at ≡ a + length (take i bytes) = ea ∙ ap (λ k. a + k) (sym n) in
    let free : (m0 ((a + length (take i bytes)) / 8)).owner ≡ None = subst (λ k. (m0 ((a + k) / 8)).owner ≡ None) (sym n) (free_at m0 a (length bytes) i lt plain) in
    em'
    ∙ ap (λ x. set_at m (x / 8) (owned (with_part x 1 b (m (x / 8)).value) None)) p
    ∙ ap (λ f. set_at f ((a + length (take i bytes)) / 8) (owned (with_part (a + length (take i bytes)) 1 b (f ((a + length (take i bytes)) / 8)).value) None)) em
    ∙ fills_more a b (take i bytes) m0 free
    ∙ ap (λ bs. fills a bs m0) (sym (take_more i b bytes lt eb))

pub fill_free_at : (a i at : ℕ) (bytes : List ℕ) (m0 m : ℕ → Owned) → at ≡ a + i → i < length bytes → is_some (bytes_from (plain_words m0) a (length bytes)) ≡ true → m ≡ fills a (take i bytes) m0 → (m (at / 8)).owner ≡ None
fill_free_at a i at bytes m0 m ea lt plain em =
    ap (λ f. (f (at / 8)).owner) em ∙ fills_owner a (take i bytes) m0 (at / 8) ∙ ap (λ x. (m0 (x / 8)).owner) ea ∙ free_at m0 a (length bytes) i lt plain

pub fill_write_at : (rs rs' : List Region) (a i at n : ℕ) → at ≡ a + i → i < n → rs' ≡ rs → writable rs a n ≡ true → writable rs' at 1 ≡ true
fill_write_at rs rs' a i at n ea lt er w = ap (λ r. writable r at 1) er ∙ ap (λ x. writable rs x 1) ea ∙ writable_at rs a n i lt w

pub fill_first : (a : ℕ) (bytes : List ℕ) (m : ℕ → Owned) → m ≡ fills a (take 0 bytes) m
fill_first a bytes m = sym (fills_none a m)

-- ---- what can be written can be read

write_reads : (rs : List Region) (a : ℕ) → list_any (can_write a) rs ≡ true → list_any (is_in_region a) rs ≡ true
write_reads [] a e = absurd (cc)
write_reads (r ∷ rs) a e = by (write_reads rs a) r.writable (is_in_region a r) e
  where
    by : (list_any (can_write a) rs ≡ true → list_any (is_in_region a) rs ≡ true) → (w i : Bool) → ((w && i) || list_any (can_write a) rs) ≡ true → (i || list_any (is_in_region a) rs) ≡ true
    by rest w true q = refl
    by rest true false q = rest q
    by rest false false q = rest q

each_implies : (f g : ℕ → Bool) (a n : ℕ) → ((b : ℕ) → f b ≡ true → g b ≡ true) → each_from f a n ≡ true → each_from g a n ≡ true
unfolding each_from
each_implies f g a zero h e = refl
each_implies f g a (suc n) h e = both_true (g a) (each_from g (suc a) n) (h a (and_first _ _ e)) (each_implies f g (suc a) n h (and_second _ _ e))

pub write_read : (rs : List Region) (a n : ℕ) → writable rs a n ≡ true → readable rs a n ≡ true
unfolding readable writable
write_read rs a n e = each_implies _ _ a n (λ b. write_reads rs b) e
