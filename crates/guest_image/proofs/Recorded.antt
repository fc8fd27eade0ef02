-- SPDX-License-Identifier: Apache-2.0
-- The function that a record refuses is the one that has the address that the record names; of several records the first
-- counts.
use Rattle.std.proofs.Common.{◌≡◌, ◌≢◌, ℕ, suc, ◌+◌, ◌<◌, ◌≤◌, Bool, true, false, Option, Some, None, List, [], ◌∷◌, length, drop, replicate, refl, sym, ap, ◌∙◌, inl, inr, arith}
use Rattle.std.specs.Prelude.{◌==◌, ◌&&◌, nat_lt, slice_index_or}
use Rattle.std.proofs.lemmas.Bool.{and_parts, cases_eq, cases_lt, cond_both, both_ways, cond-true, cond-false, eq-eqb, ne_eqb}
use Rattle.std.proofs.lemmas.Bool.Decides.{nat_tests}
use Rattle.std.proofs.lemmas.List.{get_or-replicate, length-replicate}
use Rattle.sh_types.specs.declared.code.Function.{Function}
use Rattle.sh_types.specs.declared.code.Rule.{Rule}
use Rattle.sh_types.specs.declared.code.Rule.TheVariants.{EntryUsed, PointerInside}
use Rattle.sh_types.specs.declared.relocs.Reloc.{Reloc}
use Rattle.sh_machines.specs.Class.{is_number, lies_inside, named_by}
use Rattle.fn_lookup.specs.Apart.{AreApart, home_in, size_in}
use Rattle.fn_lookup.specs.Candidate.{IsCount, IsLast}
use Rattle.fn_lookup.proofs.Holding.{home_is, size_is}
use Rattle.image_rules.specs.Binding.{is_data_pointer, is_pointer, is_pointer_to}
use Rattle.image_rules.specs.Refusals.{offset_in, record_refusal, refusal_by, refusal_or, splits_word}
use Rattle.guest_image.specs.Records.{AreFirst, AreNoted, IsByRecord, Refusal, by_record, first_at, no_function, only_at, refusal_at}

-- ---- a function that is not the one with the address

none_by : (e : Bool) (f : Function) (r : Reloc) → splits_word f (named_by r) ≡ false → is_number (named_by r) f.home ≡ false → refusal_by e f r ≡ None
none_by e f r splits starts =
    cond_both (is_data_pointer r && splits_word f (named_by r)) (Some (offset_in f (named_by r), PointerInside)) _ (λ o. o ≡ None)
    (λ t. absurd (both_ways _ splits (and_parts _ _ t).1))
    (λ n. cond_both (e && is_pointer_to is_pointer f.home r) (Some (0, EntryUsed)) None (λ o. o ≡ None)
    (λ t. absurd (both_ways _ starts (and_parts _ _ (and_parts _ _ t).1).1)) (λ n. refl))

none_named : (e : Bool) (f : Function) (r : Reloc) → named_by r ≡ None → refusal_by e f r ≡ None
none_named e f r n = none_by e f r (ap (splits_word f) n) (ap (λ o. is_number o f.home) n)

none_outside : (e : Bool) (f : Function) (r : Reloc) (a : ℕ) → named_by r ≡ Some a → lies_inside a f ≡ false → f.home ≢ a → refusal_by e f r ≡ None
none_outside e f r a named outside other =
    none_by e f r (ap (splits_word f) named ∙ grind (arith, nat_tests, outside)) (ap (λ o. is_number o f.home) named ∙ ne_eqb a f.home (λ same. other (sym same)))

none_below : (e : Bool) (f : Function) (r : Reloc) (a : ℕ) → named_by r ≡ Some a → a < f.home → refusal_by e f r ≡ None
none_below e f r a named low = none_outside e f r a named (grind (arith, nat_tests, low)) (λ same. omega (arith, low, same))

none_behind : (e : Bool) (f : Function) (r : Reloc) (a : ℕ) → named_by r ≡ Some a → f.home < a → f.home + f.size ≤ a → refusal_by e f r ≡ None
none_behind e f r a named start end = none_outside e f r a named (grind (arith, nat_tests, end)) (λ same. omega (arith, start, same))

-- ---- all functions

abbrev number_in : Option (ℕ × (ℕ × Rule)) → ℕ
number_in None = 0
number_in (Some p) = p.0

abbrev at_number : ℕ → Refusal → ℕ → Refusal
at_number n None f = None
at_number n (Some refusal) f = only_at n refusal f

at_same : (n f : ℕ) (o : Refusal) → n ≡ f → at_number n o f ≡ o
at_same n f None e = refl
at_same n f (Some refusal) e = cond-true (n == f) (Some refusal) None (eq-eqb n f e)

at_other : (n f : ℕ) (o : Refusal) → n ≢ f → at_number n o f ≡ None
at_other n f None other = refl
at_other n f (Some refusal) other = cond-false (n == f) (Some refusal) None (ne_eqb n f other)

module _ (functions : List Function) (entry : ℕ) (r : Reloc) where
  pub unnamed : named_by r ≡ None → IsByRecord functions entry r None
  unnamed n = record { within = λ p e. absurd (cc); each = λ f l. sym (none_named (f == entry) (slice_index_or functions f no_function) r n) }

  pub before_all : (a : ℕ) → named_by r ≡ Some a → IsCount functions a 0 → IsByRecord functions entry r None
  before_all a named c = record {
    within = λ p e. absurd (cc);
    each = λ f l.
        let home = home_is functions f no_function l in
        let up = c.above f (omega arith) l in
        sym (none_below (f == entry) (slice_index_or functions f no_function) r a named (omega (arith, home, up)));
  }

  others : (a n f : ℕ) → AreApart functions → named_by r ≡ Some a → IsCount functions a (suc n) → f < length functions → n ≢ f → by_record functions entry r f ≡ None
  others a n f apart named c l other =
      let home = home_is functions f no_function l in
      let size = size_is functions f no_function l in
      elim (cases_lt f n) [
        | inl below ↦
            let in' : n < length functions = omega (arith, c.bound) in
            let end = apart.apart f n below in' in
            let start = apart.rise f n below in' in
            let low = c.below n (omega arith) in
            none_behind (f == entry) (slice_index_or functions f no_function) r a named (omega (arith, home, start, low)) (omega (arith, home, size, end, low))
        | inr from ↦
            let up = c.above f (omega (arith, from, other)) l in
            none_below (f == entry) (slice_index_or functions f no_function) r a named (omega (arith, home, up))
      ]

  here : (n f : ℕ) (function : Function) (found : Refusal) → n ≡ f → function ≡ slice_index_or functions n no_function → found ≡ refusal_by (n == entry) function r → found ≡ by_record functions entry r f
  here n f function found same is e =
      e ∙ ap (λ (g : Function). refusal_by (n == entry) g r) is ∙ ap (λ (k : ℕ). by_record functions entry r k) same

  -- the last function that starts at or before the address has what is found
  by_last : (a n f : ℕ) (function : Function) (found : Refusal) → AreApart functions → named_by r ≡ Some a → IsCount functions a (suc n) → function ≡ slice_index_or functions n no_function → found ≡ refusal_by (n == entry) function r → f < length functions → at_number n found f ≡ by_record functions entry r f
  by_last a n f function found apart named c is e l =
      elim (cases_eq n f) [
        | inl same ↦ at_same n f found same ∙ here n f function found same is e
        | inr other ↦ at_other n f found other ∙ sym (others a n f apart named c l other)
      ]

  pub last_none : (a n : ℕ) (function : Function) → AreApart functions → named_by r ≡ Some a → IsCount functions a (suc n) → function ≡ slice_index_or functions n no_function → None ≡ refusal_by (n == entry) function r → IsByRecord functions entry r None
  last_none a n function apart named c is e = record { within = λ p q. absurd (cc); each = λ f l. by_last a n f function None apart named c is e l }

  pub last_some : (a n : ℕ) (function : Function) (refusal : ℕ × Rule) → AreApart functions → named_by r ≡ Some a → IsCount functions a (suc n) → function ≡ slice_index_or functions n no_function → Some refusal ≡ refusal_by (n == entry) function r → IsByRecord functions entry r (Some (n, refusal))
  last_some a n function refusal apart named c is e = record {
    within = λ p q. let same : n ≡ p.0 = number_is p q in omega (arith, same, c.bound);
    each = λ f l. by_last a n f function (Some refusal) apart named c is e l;
  }
    where
      number_is : (p : ℕ × (ℕ × Rule)) → Some (n, refusal) ≡ Some p → n ≡ p.0
      number_is p q = ap number_in q

-- ---- several records

or_assoc : (a b c : Refusal) → refusal_or (refusal_or a b) c ≡ refusal_or a (refusal_or b c)
or_assoc None b c = refl
or_assoc (Some x) b c = refl

or_none : (a : Refusal) → refusal_or a None ≡ a
or_none None = refl
or_none (Some x) = refl

-- one record more
pub one_more : (functions : List Function) (entry : ℕ) (r : Reloc) (rs all : List Reloc) (old new : List Refusal) (f : ℕ) → length old ≡ length functions → f < length functions → AreNoted (by_record functions entry r) old new → refusal_or (slice_index_or old f None) (first_at functions entry (r ∷ rs) f) ≡ first_at functions entry all f → refusal_or (slice_index_or new f None) (first_at functions entry rs f) ≡ first_at functions entry all f
one_more functions entry r rs all old new f long l noted h =
    ap (λ o. refusal_or o (first_at functions entry rs f)) (noted.each f (omega (arith, l, long)))
    ∙ or_assoc (slice_index_or old f None) (by_record functions entry r f) (first_at functions entry rs f) ∙ h

pub none_yet : (functions : List Function) (entry n f : ℕ) (rs : List Reloc) → f < n → refusal_or (slice_index_or (replicate n None) f None) (first_at functions entry rs f) ≡ first_at functions entry rs f
none_yet functions entry n f rs l = ap (λ o. refusal_or o (first_at functions entry rs f)) (get_or-replicate n f None None l)

pub all_done : (functions : List Function) (entry f : ℕ) (rs : List Reloc) (o first : Refusal) → rs ≡ [] → refusal_or o (first_at functions entry rs f) ≡ first → o ≡ first
all_done functions entry f rs o first none h = sym (or_none o) ∙ ap (λ ss. refusal_or o (first_at functions entry ss f)) (sym none) ∙ h

-- ---- the last function that starts at or before an address

pub home_from : (functions : List Function) (a n : ℕ) (function : Function) → IsCount functions a (suc n) → function ≡ slice_index_or functions n no_function → function.home ≤ a
home_from functions a n function c is =
    let home = home_is functions n no_function c.bound in
    let low = c.below n (omega arith) in
    let same : function.home ≡ (slice_index_or functions n no_function).home = ap (λ (g : Function). g.home) is in
    omega (arith, home, low, same)
