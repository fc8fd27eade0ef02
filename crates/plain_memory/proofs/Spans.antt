-- SPDX-License-Identifier: Apache-2.0
-- Ranges of bytes: those that lie in no return word, what is put there, and what is taken.
use Rattle.std.proofs.Common.{◌≡◌, ◌≢◌, ℕ, zero, suc, ◌+◌, ◌-◌, ◌*◌, ◌/◌, ◌%◌, ◌^◌, ◌<◌, ◌≤◌, Bool, true, false, Option, Some, None, List, [], ◌∷◌, ◌++◌, length, refl, sym, ap, ◌∙◌, arith, inl, inr, append_assoc, append-nil}
use Rattle.std.specs.Prelude.{◌==◌, ◌&&◌, ◌↔◌, nat_lt, is_some, IsSome, IsNone, IsTrue, unwrap_or, if◌then◌else◌}
use Rattle.std.specs.Option.{option_map}
use Rattle.std.proofs.Math.Path.{fun_ext}
use Rattle.std.proofs.lemmas.Bool.{cases_lt}
use Rattle.std.proofs.lemmas.Bool.Decides.{nat_tests}
use Rattle.sh_types.specs.declared.code.Region.{Region}
use Rattle.sh_machines.specs.Memory.{each_from, first_word, byte_of, both_bytes, bytes_from}
use Rattle.sh_machines.specs.Need.{part_of, with_part, patched}
use Rattle.sh_machines.specs.Unmoved.{filled, fill_content, number_of}
use Rattle.plain_memory.specs.declared.returns.SavedReturn.{SavedReturn}
use Rattle.plain_memory.specs.Access.{plain_in}
use Rattle.plain_memory.specs.Changed.{Fills}
use Rattle.plain_memory.specs.Plain.{Plain, IsPlain, saved_at, content_at, contents_of}
use Rattle.plain_memory.proofs.Stretches.{each_true, each_false, each_at}
use Rattle.plain_memory.proofs.Accesses.{Returned, plain, apart_at}

both_some : (x : Option ℕ) (y : Option (List ℕ)) → is_some (both_bytes x y) ≡ (is_some x && is_some y)
both_some None y = refl
both_some (Some b) None = refl
both_some (Some b) (Some bs) = refl

map_some : (f : ℕ → ℕ) (x : Option ℕ) → is_some (option_map f x) ≡ is_some x
map_some f None = refl
map_some f (Some x) = refl

abbrev pub plain_at : (ℕ → Option ℕ) → ℕ → Bool
plain_at p b = is_some (p (b / 8))

pub each_plain : (p : ℕ → Option ℕ) (a n : ℕ) → is_some (bytes_from p a n) ≡ each_from (plain_at p) a n
unfolding bytes_from each_from
each_plain p a zero = refl
each_plain p a (suc n) =
    both_some (byte_of p a) (bytes_from p (suc a) n)
    ∙ ap (λ b. b && is_some (bytes_from p (suc a) n)) (map_some (λ v. v / 2 ^ (8 * (a % 8)) % 2 ^ 8) (p (a / 8)))
    ∙ ap (λ b. plain_at p a && b) (each_plain p (suc a) n)

none_plain : (s : Option SavedReturn) (x : ℕ) → s ≡ None → is_some (number_of (content_at s x)) ≡ true
none_plain s x e = ap (λ (t : Option SavedReturn). is_some (number_of (content_at t x))) e

some_held : (s : Option SavedReturn) (x : ℕ) → IsSome s → is_some (number_of (content_at s x)) ≡ false
some_held None x e = absurd (cc)
some_held (Some s) x e = refl

pub plain_none : (s : Option SavedReturn) (x : ℕ) → is_some (number_of (content_at s x)) ≡ true → s ≡ None
plain_none None x e = refl
plain_none (Some s) x e = absurd (cc)

-- a return word at or behind the first word of a range, and before its end, holds one of the bytes
pub range_held : (m : Plain) (a n w : ℕ) → a / 8 ≤ w → 8 * w < a + n → 0 < n → IsSome (saved_at m.returns w) → is_some (bytes_from (plain_in (contents_of m)) a n) ≡ false
range_held m a n w l h p some = each_plain (plain_in (contents_of m)) a n ∙ elim (cases_lt (8 * w) a) [
  | inl q ↦
      let e : a / 8 ≡ w = omega (arith, l, q) in
      each_false (plain_at (plain_in (contents_of m))) a n a (omega arith) (omega (arith, p)) (ap (λ y. is_some (number_of (contents_of m y))) e ∙ some_held (saved_at m.returns w) (first_word m.areas w) some)
  | inr q ↦
      let e : 8 * w / 8 ≡ w = omega arith in
      each_false (plain_at (plain_in (contents_of m))) a n (8 * w) q h (ap (λ y. is_some (number_of (contents_of m y))) e ∙ some_held (saved_at m.returns w) (first_word m.areas w) some)
]

pub range_plain : (m : Plain) (a n : ℕ) → ((w : ℕ) → a / 8 ≤ w → 8 * w < a + n → saved_at m.returns w ≡ None) → is_some (bytes_from (plain_in (contents_of m)) a n) ≡ true
range_plain m a n none =
    each_plain (plain_in (contents_of m)) a n
    ∙ each_true (plain_at (plain_in (contents_of m))) a n (λ b l h. none_plain (saved_at m.returns (b / 8)) (first_word m.areas (b / 8)) (none (b / 8) (omega (arith, l)) (omega (arith, h))))

-- whether the first return word from a range's first word on begins before its end
pub range_some : (m : Plain) (a n w x y z : ℕ) → 0 < n → IsSome (saved_at m.returns w) → a / 8 ≤ w → ((v : ℕ) → a / 8 ≤ v → v < w → saved_at m.returns v ≡ None) → x ≡ w → y ≡ a → z ≡ n → IsTrue (nat_lt (8 * x) (y + z)) ↔ IsNone (bytes_from (plain_in (contents_of m)) a n)
range_some m a n w x y z p some l first ex ey ez = by (nat_lt (8 * x) (y + z)) refl
  where
    by : (b : Bool) → nat_lt (8 * x) (y + z) ≡ b → IsTrue b ↔ IsNone (bytes_from (plain_in (contents_of m)) a n)
    by true q =
        let h : 8 * x < y + z = grind (arith, nat_tests, q) in
        (λ t. range_held m a n w l (omega (arith, h, ex, ey, ez)) p some, λ t. refl)
    by false q =
        let h : y + z ≤ 8 * x = grind (arith, nat_tests, q) in
        let e : is_some (bytes_from (plain_in (contents_of m)) a n) ≡ true = range_plain m a n (λ v lo hi. first v lo (omega (arith, h, ex, ey, ez, hi))) in
        (λ t. absurd (cc), λ t. absurd (cc))

-- no return word from a range's first word on
pub range_free : (m : Plain) (a n : ℕ) → ((v : ℕ) → a / 8 ≤ v → saved_at m.returns v ≡ None) → IsTrue false ↔ IsNone (bytes_from (plain_in (contents_of m)) a n)
range_free m a n none =
    let e : is_some (bytes_from (plain_in (contents_of m)) a n) ≡ true = range_plain m a n (λ v lo hi. none v lo) in
    (λ t. absurd (cc), λ t. absurd (cc))

-- no byte
pub range_empty : (m : Plain) (a n : ℕ) → n ≤ 0 → IsTrue (nat_lt 0 n) ↔ IsNone (bytes_from (plain_in (contents_of m)) a n)
range_empty m a n z =
    let e : is_some (bytes_from (plain_in (contents_of m)) a n) ≡ true = each_plain (plain_in (contents_of m)) a n ∙ each_true (plain_at (plain_in (contents_of m))) a n (λ b lo hi. absurd (omega (arith, lo, hi, z))) in
    let t : nat_lt 0 n ≡ false = grind (arith, nat_tests) in
    (λ q. absurd (cc), λ q. absurd (cc))

-- a byte of a range in no return word
pub range_says : (m : Plain) (a n b : ℕ) → is_some (bytes_from (plain_in (contents_of m)) a n) ≡ true → a ≤ b → b < a + n → saved_at m.returns (b / 8) ≡ None
range_says m a n b e l h =
    plain_none (saved_at m.returns (b / 8)) (first_word m.areas (b / 8)) (each_at (plain_at (plain_in (contents_of m))) a n b (sym (each_plain (plain_in (contents_of m)) a n) ∙ e) l h)

-- ---- bytes that are put

patched_away : (a w : ℕ) (bytes : List ℕ) (v : ℕ) → ((k : ℕ) → k < length bytes → w ≢ (a + k) / 8) → patched a bytes w v ≡ v
unfolding patched
patched_away a w [] v h = refl
patched_away a w (b ∷ bs) v h =
    ap (λ (c : Bool). patched (suc a) bs w (if c then with_part a 1 b v else v)) (flip (h 0 (omega arith)))
    ∙ patched_away (suc a) w bs v (λ k l e. h (suc k) (omega (arith, l)) (e ∙ ap (λ x. x / 8) (omega arith)))
  where
    flip : w ≢ (a + 0) / 8 → (a / 8 == w) ≡ false
    flip ne = let p : a / 8 ≢ w = λ e. ne (sym e ∙ ap (λ x. x / 8) (omega arith)) in grind (arith, nat_tests)

pub plain_filled : (old new : List Region) (returns : Returned) (a : ℕ) (bytes : List ℕ) → IsPlain old returns → Fills old new a bytes → is_some (bytes_from (plain_in (contents_of (plain old returns))) a (length bytes)) ≡ true → IsPlain new returns
plain_filled old new returns a bytes is fills some =
    record {
      zero = λ w h.
          fills.words w
          ∙ patched_away a w bytes (first_word old w) (λ k l. apart_at returns w ((a + k) / 8) h (range_says (plain old returns) a (length bytes) (a + k) some (omega arith) (omega (arith, l))))
          ∙ is.zero w h;
    }

pub contents_filled : (old new : List Region) (returns : Returned) (a : ℕ) (bytes : List ℕ) → Fills old new a bytes → contents_of (plain new returns) ≡ filled a bytes (contents_of (plain old returns))
contents_filled old new returns a bytes fills = fun_ext (λ w. ap (content_at (saved_at returns w)) (fills.words w) ∙ by (patched a bytes w) (saved_at returns w) (first_word old w))
  where
    by : (f : ℕ → ℕ) (s : Option SavedReturn) (x : ℕ) → content_at s (f x) ≡ fill_content f (content_at s x)
    by f None x = refl
    by f (Some s) x = refl

-- ---- bytes that are taken

pub byte_taken : (m : Plain) (a n k x : ℕ) → k < n → is_some (bytes_from (plain_in (contents_of m)) a n) ≡ true → x ≡ part_of (a + k) 1 (first_word m.areas ((a + k) / 8)) → Some x ≡ byte_of (plain_in (contents_of m)) (a + k)
unfolding part_of
byte_taken m a n k x l some e =
    ap Some e
    ∙ ap (λ (t : Option SavedReturn). option_map (λ v. v / 2 ^ (8 * ((a + k) % 8)) % 2 ^ 8) (number_of (content_at t (first_word m.areas ((a + k) / 8))))) (sym (range_says m a n (a + k) some (omega arith) (omega (arith, l))))

step_is : (p : ℕ → Option ℕ) (a n k : ℕ) → k < n → bytes_from p (a + k) (n - k) ≡ both_bytes (byte_of p (a + k)) (bytes_from p (a + (k + 1)) (n - (k + 1)))
unfolding bytes_from
step_is p a n k l =
    let e : n - k ≡ suc (n - (k + 1)) = omega arith in
    let f : suc (a + k) ≡ a + (k + 1) = omega arith in
    ap (bytes_from p (a + k)) e ∙ ap (λ x. both_bytes (byte_of p (a + k)) (bytes_from p x (n - (k + 1)))) f

both_rest : (x : ℕ) (y : Option (List ℕ)) → is_some (both_bytes (Some x) y) ≡ true → unwrap_or (both_bytes (Some x) y) [] ≡ x ∷ unwrap_or y []
both_rest x None e = absurd (cc)
both_rest x (Some bs) e = refl

both_second : (x : ℕ) (y : Option (List ℕ)) → is_some (both_bytes (Some x) y) ≡ true → is_some y ≡ true
both_second x None e = absurd (cc)
both_second x (Some bs) e = refl

-- what is to come, behind what has joined
pub record IsRest (p : ℕ → Option ℕ) (a n k : ℕ) (old all : List ℕ) : Type 0 where
  pub some : is_some (bytes_from p (a + k) (n - k)) ≡ true
  pub list : all ++ unwrap_or (bytes_from p (a + k) (n - k)) [] ≡ old ++ unwrap_or (bytes_from p a n) []

pub rest_next : (p : ℕ → Option ℕ) (a n k : ℕ) (old all : List ℕ) (x : ℕ) → IsRest p a n k old all → k < n → Some x ≡ byte_of p (a + k) → IsRest p a n (k + 1) old (all ++ x ∷ [])
rest_next p a n k old all x r l e =
    let rest : Option (List ℕ) = bytes_from p (a + (k + 1)) (n - (k + 1)) in
    let st : bytes_from p (a + k) (n - k) ≡ both_bytes (Some x) rest = step_is p a n k l ∙ ap (λ y. both_bytes y rest) (sym e) in
    let some : is_some (both_bytes (Some x) rest) ≡ true = sym (ap is_some st) ∙ r.some in
    let here : unwrap_or (bytes_from p (a + k) (n - k)) [] ≡ x ∷ unwrap_or rest [] = ap (λ y. unwrap_or y []) st ∙ both_rest x rest some in
    record {
      some = both_second x rest some;
      list = append_assoc all (x ∷ []) (unwrap_or rest []) ∙ ap (λ ys. all ++ ys) (sym here) ∙ r.list;
    }

pub rest_last : (p : ℕ → Option ℕ) (a n k : ℕ) (old all : List ℕ) → IsRest p a n k old all → n ≤ k → all ≡ old ++ unwrap_or (bytes_from p a n) []
unfolding bytes_from
rest_last p a n k old all r le =
    let z : n - k ≡ 0 = omega (arith, le) in
    sym (append-nil all) ∙ ap (λ j. all ++ unwrap_or (bytes_from p (a + k) j) []) (sym z) ∙ r.list

pub rest_none : (p : ℕ → Option ℕ) (a n : ℕ) (old : List ℕ) → n ≡ 0 → old ≡ old ++ unwrap_or (bytes_from p a n) []
unfolding bytes_from
rest_none p a n old e = sym (append-nil old) ∙ ap (λ j. old ++ unwrap_or (bytes_from p a j) []) (sym e)
