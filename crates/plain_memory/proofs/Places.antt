-- SPDX-License-Identifier: Apache-2.0
-- Regions in order: which of them has an address, and one of them with other bytes.
use Rattle.std.proofs.Common.{◌≡◌, ℕ, zero, suc, ◌+◌, ◌-◌, ◌<◌, ◌≤◌, Bool, true, false, List, [], ◌∷◌, length, map, refl, sym, ap, ◌∙◌, subst, arith}
use Rattle.std.specs.Prelude.{◌&&◌, ◌||◌, nat_le, nat_lt, if◌then◌else◌, slice_index, slice_index_or, slice_set}
use Rattle.std.specs.List.{list_any}
use Rattle.std.specs.List.Sorted.{IsNonDecreasingBy}
use Rattle.std.proofs.lemmas.Bool.Decides.{nat_tests}
use Rattle.std.proofs.lemmas.List.{get_or_read}
use Rattle.sh_types.specs.declared.code.Region.{Region}
use Rattle.sh_machines.specs.Memory.{is_in_region, first_byte, bytes_number}
use Rattle.plain_memory.specs.Changed.{PutsAt, PutsNumber}
use Rattle.plain_memory.specs.Laid.{IsPlaced, Laid, HasAt, AreFull, AreLow, AreApart, bare, usable}
use Rattle.plain_memory.proofs.Pieces.{Small, number_same}

-- ---- one region

within : (r : Region) (x : ℕ) → r.start ≤ x → x < r.end → is_in_region x r ≡ true
within r x l m = both r.start r.end x l m
  where
    both : (s e x : ℕ) → s ≤ x → x < e → (nat_le s x && nat_lt x e) ≡ true
    both s e x l m = grind (arith, nat_tests)

pub from_start : (r : Region) (x : ℕ) → is_in_region x r ≡ true → r.start ≤ x
from_start r x h = both r.start r.end x h
  where
    both : (s e x : ℕ) → (nat_le s x && nat_lt x e) ≡ true → s ≤ x
    both s e x h = grind (arith, nat_tests)

pub to_end : (r : Region) (x : ℕ) → is_in_region x r ≡ true → x < r.end
to_end r x h = both r.start r.end x h
  where
    both : (s e x : ℕ) → (nat_le s x && nat_lt x e) ≡ true → x < e
    both s e x h = grind (arith, nat_tests)

before : (r : Region) (x : ℕ) → x < r.start → is_in_region x r ≡ false
before r x l = both r.start r.end x l
  where
    both : (s e x : ℕ) → x < s → (nat_le s x && nat_lt x e) ≡ false
    both s e x l = grind (arith, nat_tests)

behind : (r : Region) (x : ℕ) → r.end ≤ x → is_in_region x r ≡ false
behind r x l = both r.start r.end x l
  where
    both : (s e x : ℕ) → e ≤ x → (nat_le s x && nat_lt x e) ≡ false
    both s e x l = grind (arith, nat_tests)

-- a test that fails where the region has not the address
abbrev pub Needs : ℕ → (Region → Bool) → Type 0
Needs x p = (r : Region) → is_in_region x r ≡ false → p r ≡ false

pub usable_needs : (writes : Bool) (x : ℕ) → Needs x (usable writes x)
usable_needs true x r e = by r.writable
  where
    by : (b : Bool) → (b && is_in_region x r) ≡ false
    by true = e
    by false = refl
usable_needs false x r e = e

in_needs : (x : ℕ) → Needs x (is_in_region x)
in_needs x r e = e

-- ---- one of some regions

pub from_on : (from low : ℕ) (r : Region) → low ≤ from → IsPlaced from r → IsPlaced low r
from_on from low r l is = record { start = omega (arith, l, is.start); full = is.full; low = is.low; small = is.small }

pub placed_at : (from : ℕ) (rs : List Region) (k : ℕ) (r : Region) → Laid from rs → k < length rs → r ≡ slice_index_or rs k r → IsPlaced from r
placed_at from [] k r laid l e = absurd (omega (arith, l))
placed_at from (y ∷ ys) zero r laid l e = subst (IsPlaced from) (sym e) laid.0
placed_at from (y ∷ ys) (suc k) r laid l e =
    from_on y.end from r (omega (arith, laid.0.start, laid.0.full.some)) (placed_at y.end ys k r laid.1 (omega (arith, l)) e)

none_below : (p : Region → Bool) (from : ℕ) (rs : List Region) (x : ℕ) → Needs x p → Laid from rs → x < from → list_any p rs ≡ false
none_below p from [] x need laid l = refl
none_below p from (y ∷ ys) x need laid l =
    ap (λ b. b || list_any p ys) (need y (before y x (omega (arith, l, laid.0.start))))
    ∙ none_below p y.end ys x need laid.1 (omega (arith, l, laid.0.start, laid.0.full.some))

-- what the region with an address says, all say
pub any_at : (p : Region → Bool) (from : ℕ) (rs : List Region) (k : ℕ) (r : Region) (x : ℕ) → Needs x p → Laid from rs → k < length rs → r ≡ slice_index_or rs k r → is_in_region x r ≡ true → list_any p rs ≡ p r
any_at p from [] k r x need laid l e h = absurd (omega (arith, l))
any_at p from (y ∷ ys) zero r x need laid l e h =
    ap (λ b. p y || b) (none_below p y.end ys x need laid.1 (subst (λ (z : Region). x < z.end) e (to_end r x h))) ∙ or_none (p y) ∙ ap p (sym e)
  where
    or_none : (b : Bool) → (b || false) ≡ b
    or_none true = refl
    or_none false = refl
any_at p from (y ∷ ys) (suc k) r x need laid l e h =
    ap (λ b. b || list_any p ys) (need y (behind y x (omega (arith, from_start r x h, (placed_at y.end ys k r laid.1 (omega (arith, l)) e).start))))
    ∙ any_at p y.end ys k r x need laid.1 (omega (arith, l)) e h

first_here : (y : Region) (ys : List Region) (x : ℕ) → is_in_region x y ≡ true → first_byte (y ∷ ys) x ≡ slice_index y.bytes (x - y.start)
unfolding first_byte
first_here y ys x e = ap (λ (b : Bool). if b then slice_index y.bytes (x - y.start) else first_byte ys x) e

first_later : (y : Region) (ys : List Region) (x : ℕ) → is_in_region x y ≡ false → first_byte (y ∷ ys) x ≡ first_byte ys x
unfolding first_byte
first_later y ys x e = ap (λ (b : Bool). if b then slice_index y.bytes (x - y.start) else first_byte ys x) e

-- the byte of the region with an address is the byte there
pub first_at : (from : ℕ) (rs : List Region) (k : ℕ) (r : Region) (x : ℕ) → Laid from rs → k < length rs → r ≡ slice_index_or rs k r → is_in_region x r ≡ true → first_byte rs x ≡ slice_index r.bytes (x - r.start)
first_at from [] k r x laid l e h = absurd (omega (arith, l))
first_at from (y ∷ ys) zero r x laid l e h =
    first_here y ys x (subst (λ (z : Region). is_in_region x z ≡ true) e h) ∙ ap (λ (z : Region). slice_index z.bytes (x - z.start)) (sym e)
first_at from (y ∷ ys) (suc k) r x laid l e h =
    first_later y ys x (behind y x (omega (arith, from_start r x h, (placed_at y.end ys k r laid.1 (omega (arith, l)) e).start)))
    ∙ first_at y.end ys k r x laid.1 (omega (arith, l)) e h

pub first_none : (rs : List Region) (x : ℕ) → list_any (is_in_region x) rs ≡ false → first_byte rs x ≡ 0
unfolding first_byte
first_none [] x e = refl
first_none (y ∷ ys) x e = by (is_in_region x y) e (first_none ys x)
  where
    by : (b : Bool) → (b || list_any (is_in_region x) ys) ≡ false → (list_any (is_in_region x) ys ≡ false → first_byte ys x ≡ 0) → (if b then slice_index y.bytes (x - y.start) else first_byte ys x) ≡ 0
    by true e h = absurd (cc)
    by false e h = h e

-- the bytes are below 256
pub small_bytes : (from : ℕ) (rs : List Region) → Laid from rs → Small (first_byte rs)
unfolding first_byte
small_bytes from [] laid x = omega arith
small_bytes from (y ∷ ys) laid x = by (is_in_region x y) (small_bytes y.end ys laid.1 x)
  where
    by : (b : Bool) → first_byte ys x < 256 → (if b then slice_index y.bytes (x - y.start) else first_byte ys x) < 256
    by true h = laid.0.small (x - y.start)
    by false h = h

-- a number of bytes that one region has
pub number_in : (from : ℕ) (rs : List Region) (k : ℕ) (r : Region) (a n : ℕ) → Laid from rs → k < length rs → r ≡ slice_index_or rs k r → r.start ≤ a → a + n ≤ r.end → bytes_number (first_byte rs) a n ≡ bytes_number (λ i. slice_index r.bytes i) (a - r.start) n
number_in from rs k r a n laid l e s t =
    number_same (first_byte rs) (λ i. slice_index r.bytes i) a (a - r.start) n
    (λ i m. first_at from rs k r (a + i) laid l e (within r (a + i) (omega (arith, s)) (omega (arith, m, t))) ∙ ap (slice_index r.bytes) (omega (arith, s)))

-- ---- the search

pub ends_rise : (from : ℕ) (rs : List Region) → Laid from rs → IsNonDecreasingBy (λ (r : Region). r.end) rs
ends_rise from [] laid i j d l m = absurd (omega (arith, m))
ends_rise from (y ∷ ys) laid zero zero d l m = omega arith
ends_rise from (y ∷ ys) laid (suc i) zero d l m = absurd (omega (arith, l))
ends_rise from (y ∷ ys) laid (suc i) (suc j) d l m = ends_rise y.end ys laid.1 i j d (omega (arith, l)) (omega (arith, m))
ends_rise from (y ∷ ys) laid zero (suc j) d l m = later y.end ys j d laid.1 (omega (arith, m))
  where
    later : (low : ℕ) (rs : List Region) (j : ℕ) (d : Region) → Laid low rs → j < length rs → low ≤ (slice_index_or rs j d).end
    later low [] j d laid m = absurd (omega (arith, m))
    later low (z ∷ zs) zero d laid m = omega (arith, laid.0.start, laid.0.full.some)
    later low (z ∷ zs) (suc j) d laid m = omega (arith, laid.0.start, laid.0.full.some, later z.end zs j d laid.1 (omega (arith, m)))

-- where the regions below a number end at or below an address, and that one has it not, none has it
pub none_found : (from : ℕ) (rs : List Region) (k x : ℕ) → Laid from rs → ((j : ℕ) (d : Region) → j < k → (slice_index_or rs j d).end ≤ x) → ((d : Region) → k < length rs → is_in_region x (slice_index_or rs k d) ≡ false) → ((d : Region) → k < length rs → x < (slice_index_or rs k d).end) → k ≤ length rs → list_any (is_in_region x) rs ≡ false
none_found from [] k x laid lo out hi m = refl
none_found from (y ∷ ys) zero x laid lo out hi m =
    ap (λ b. b || list_any (is_in_region x) ys) (out y (omega arith)) ∙ none_below (is_in_region x) y.end ys x (in_needs x) laid.1 (hi y (omega arith))
none_found from (y ∷ ys) (suc k) x laid lo out hi m =
    ap (λ b. b || list_any (is_in_region x) ys) (behind y x (lo 0 y (omega arith)))
    ∙ none_found y.end ys k x laid.1 (λ j d l. lo (suc j) d (omega (arith, l))) (λ d l. out d (omega (arith, l))) (λ d l. hi d (omega (arith, l))) (omega (arith, m))

-- ---- a region with other bytes

pub set_placed : (from : ℕ) (r r' : Region) → IsPlaced from r → bare r' ≡ bare r → length r'.bytes ≡ length r.bytes → ((i : ℕ) → slice_index r'.bytes i < 256) → IsPlaced from r'
set_placed from r r' is b n small =
    let s : r'.start ≡ r.start = ap (λ (z : Region). z.start) b in
    let e : r'.end ≡ r.end = ap (λ (z : Region). z.end) b in
    record {
      start = omega (arith, s, is.start);
      full = record { some = omega (arith, s, e, is.full.some); bytes = omega (arith, s, e, n, is.full.bytes) };
      low = omega (arith, e, is.low);
      small = small;
    }

pub set_laid : (from : ℕ) (rs : List Region) (k : ℕ) (r r' : Region) → Laid from rs → k < length rs → r ≡ slice_index_or rs k r → bare r' ≡ bare r → length r'.bytes ≡ length r.bytes → ((i : ℕ) → slice_index r'.bytes i < 256) → Laid from (slice_set rs k r')
set_laid from [] k r r' laid l e b n small = absurd (omega (arith, l))
set_laid from (y ∷ ys) zero r r' laid l e b n small =
    (set_placed from r r' (subst (IsPlaced from) (sym e) laid.0) b n small, subst (λ z. Laid z ys) (sym (ap (λ (z : Region). z.end) b ∙ ap (λ (z : Region). z.end) e)) laid.1)
set_laid from (y ∷ ys) (suc k) r r' laid l e b n small = (laid.0, set_laid y.end ys k r r' laid.1 (omega (arith, l)) e b n small)

pub set_bare : (rs : List Region) (k : ℕ) (r r' : Region) → k < length rs → r ≡ slice_index_or rs k r → bare r' ≡ bare r → map bare (slice_set rs k r') ≡ map bare rs
set_bare [] k r r' l e b = absurd (omega (arith, l))
set_bare (y ∷ ys) zero r r' l e b = ap (λ z. z ∷ map bare ys) (b ∙ ap bare e)
set_bare (y ∷ ys) (suc k) r r' l e b = ap (λ zs. bare y ∷ zs) (set_bare ys k r r' (omega (arith, l)) e b)

set_read : (rs : List Region) (k : ℕ) (r' : Region) → k < length rs → (k < length (slice_set rs k r')) × (r' ≡ slice_index_or (slice_set rs k r') k r')
set_read [] k r' l = absurd (omega (arith, l))
set_read (y ∷ ys) zero r' l = (omega arith, refl)
set_read (y ∷ ys) (suc k) r' l = let h = set_read ys k r' (omega (arith, l)) in (omega (arith, h.0), h.1)

-- the bytes of the others are as they were
set_other : (rs : List Region) (k : ℕ) (r r' : Region) (x : ℕ) → k < length rs → r ≡ slice_index_or rs k r → bare r' ≡ bare r → is_in_region x r ≡ false → first_byte (slice_set rs k r') x ≡ first_byte rs x
set_other [] k r r' x l e b out = absurd (omega (arith, l))
set_other (y ∷ ys) zero r r' x l e b out =
    first_later r' ys x (ap (is_in_region x) b ∙ out) ∙ sym (first_later y ys x (subst (λ (z : Region). is_in_region x z ≡ false) e out))
set_other (y ∷ ys) (suc k) r r' x l e b out = by (is_in_region x y) refl (set_other ys k r r' x (omega (arith, l)) e b out)
  where
    by : (c : Bool) → is_in_region x y ≡ c → first_byte (slice_set ys k r') x ≡ first_byte ys x → first_byte (y ∷ slice_set ys k r') x ≡ first_byte (y ∷ ys) x
    by true q h = first_here y (slice_set ys k r') x q ∙ sym (first_here y ys x q)
    by false q h = first_later y (slice_set ys k r') x q ∙ h ∙ sym (first_later y ys x q)

-- a byte where the region's byte is as it was, or that another has
set_kept : (rs : List Region) (k : ℕ) (r r' : Region) (x : ℕ) → Laid 0 rs → Laid 0 (slice_set rs k r') → k < length rs → r ≡ slice_index_or rs k r → bare r' ≡ bare r → (r.start ≤ x → slice_index r'.bytes (x - r.start) ≡ slice_index r.bytes (x - r.start)) → first_byte (slice_set rs k r') x ≡ first_byte rs x
set_kept rs k r r' x laid laid' l e b same = by (is_in_region x r) refl
  where
    by : (c : Bool) → is_in_region x r ≡ c → first_byte (slice_set rs k r') x ≡ first_byte rs x
    by true q =
        let new = set_read rs k r' l in
        first_at 0 (slice_set rs k r') k r' x laid' new.0 new.1 (ap (is_in_region x) b ∙ q)
        ∙ ap (λ (z : Region). slice_index r'.bytes (x - z.start)) b ∙ same (from_start r x q) ∙ sym (first_at 0 rs k r x laid l e q)
    by false q = set_other rs k r r' x l e b q

-- bytes of one region are replaced
pub set_puts : (rs : List Region) (k : ℕ) (r r' : Region) (a n v : ℕ) → Laid 0 rs → k < length rs → r ≡ slice_index_or rs k r → bare r' ≡ bare r → length r'.bytes ≡ length r.bytes → ((i : ℕ) → slice_index r'.bytes i < 256) → r.start ≤ a → a + n ≤ r.end → PutsAt r.bytes r'.bytes (a - r.start) n v → PutsNumber rs (slice_set rs k r') a n v
set_puts rs k r r' a n v laid l e b len small s t puts =
    let laid' = set_laid 0 rs k r r' laid l e b len small in
    let new = set_read rs k r' l in
    let es : r'.start ≡ r.start = ap (λ (z : Region). z.start) b in
    let ee : r'.end ≡ r.end = ap (λ (z : Region). z.end) b in
    record {
      number = number_in 0 (slice_set rs k r') k r' a n laid' new.0 new.1 (omega (arith, es, s)) (omega (arith, ee, t)) ∙ ap (λ z. bytes_number (λ i. slice_index r'.bytes i) (a - z) n) es ∙ puts.number;
      below = λ x m. set_kept rs k r r' x laid laid' l e b (λ h. puts.below (x - r.start) (omega (arith, m, h, s)));
      above = λ x m. set_kept rs k r r' x laid laid' l e b (λ h. puts.above (x - r.start) (omega (arith, m, h, s)));
      same = set_bare rs k r r' l e b;
    }

-- ---- without the bytes

pub any_bare : (p : Region → Bool) (rs : List Region) → ((r : Region) → p (bare r) ≡ p r) → list_any p (map bare rs) ≡ list_any p rs
any_bare p [] h = refl
any_bare p (r ∷ rs) h = ap (λ b. b || list_any p (map bare rs)) (h r) ∙ ap (λ b. p r || b) (any_bare p rs h)

pub usable_bare : (writes : Bool) (x : ℕ) (rs : List Region) → list_any (usable writes x) (map bare rs) ≡ list_any (usable writes x) rs
usable_bare true x rs = any_bare (usable true x) rs (λ r. refl)
usable_bare false x rs = any_bare (usable false x) rs (λ r. refl)

-- ---- at first

pub all_laid : (from : ℕ) (rs : List Region) → AreLow rs → AreApart rs → AreFull rs → ((k : ℕ) (d : Region) → k < length rs → (i : ℕ) → slice_index (slice_index_or rs k d).bytes i < 256) → ((d : Region) → 0 < length rs → from ≤ (slice_index_or rs 0 d).start) → Laid from rs
all_laid from [] low apart full small start = tt
all_laid from (y ∷ ys) low apart full small start = (
  record { start = start y (omega arith); full = full 0 y (omega arith); low = low 0 y refl; small = small 0 y (omega arith) },
  all_laid y.end ys (λ k r e. low (suc k) r e) (λ j k d l m. apart (suc j) (suc k) d (omega (arith, l)) (omega (arith, m))) (λ k d l. full (suc k) d (omega (arith, l))) (λ k d l. small (suc k) d (omega (arith, l))) (λ d l. apart 0 1 d (omega arith) (omega (arith, l))),
)

-- a region that has an address, and none, by their numbers
pub found_at : (rs : List Region) (k a : ℕ) (r : Region) → HasAt rs k a → r ≡ slice_index_or rs k r → is_in_region a r ≡ true
found_at rs k a r has e = ap (is_in_region a) e ∙ has.1 r

pub other_read : (rs : List Region) (k : ℕ) (r s : Region) → k < length rs → r ≡ slice_index_or rs k r → s ≡ slice_index_or rs k s → r ≡ s
other_read rs k r s l e f = get_or_read rs k r l e s ∙ sym f

-- what a region says of an address that it has
pub rest_none : (rs : List Region) (k : ℕ) (r : Region) (a n : ℕ) (writes : Bool) → Laid 0 rs → HasAt rs k a → r ≡ slice_index_or rs k r → n ≡ (if writes then (if r.writable then r.end - a else 0) else r.end - a) → n ≡ 0 → list_any (usable writes a) rs ≡ false
rest_none rs k r a n writes laid has e en z =
    any_at (usable writes a) 0 rs k r a (usable_needs writes a) laid has.0 e (found_at rs k a r has e) ∙ by writes r.writable refl en
  where
    none : n ≡ r.end - a → ⊥
    none f = omega (arith, f, z, to_end r a (found_at rs k a r has e))

    by : (w b : Bool) → r.writable ≡ b → n ≡ (if w then (if b then r.end - a else 0) else r.end - a) → usable w a r ≡ false
    by true true q f = absurd (none f)
    by true false q f = ap (λ (b : Bool). b && is_in_region a r) q
    by false b q f = absurd (none f)

pub rest_each : (rs : List Region) (k : ℕ) (r : Region) (a n : ℕ) (writes : Bool) → Laid 0 rs → HasAt rs k a → r ≡ slice_index_or rs k r → n ≡ (if writes then (if r.writable then r.end - a else 0) else r.end - a) → (x : ℕ) → a ≤ x → x < a + n → list_any (usable writes x) rs ≡ true
rest_each rs k r a n writes laid has e en x l m = by writes r.writable refl en
  where
    inside : n ≡ r.end - a → is_in_region x r ≡ true
    inside f = let s : r.start ≤ a = from_start r a (found_at rs k a r has e) in within r x (omega (arith, s, l)) (omega (arith, f, m, l))

    at : (w : Bool) → is_in_region x r ≡ true → list_any (usable w x) rs ≡ usable w x r
    at w h = any_at (usable w x) 0 rs k r x (usable_needs w x) laid has.0 e h

    by : (w b : Bool) → r.writable ≡ b → n ≡ (if w then (if b then r.end - a else 0) else r.end - a) → list_any (usable w x) rs ≡ true
    by true true q f = at true (inside f) ∙ ap (λ (b : Bool). b && is_in_region x r) q ∙ inside f
    by true false q f = absurd (omega (arith, f, l, m))
    by false b q f = at false (inside f) ∙ inside f

pub rest_low : (rs : List Region) (k : ℕ) (r : Region) (a n : ℕ) (writes : Bool) → Laid 0 rs → HasAt rs k a → r ≡ slice_index_or rs k r → n ≡ (if writes then (if r.writable then r.end - a else 0) else r.end - a) → 0 < n → a + n ≤ 0x40000000
rest_low rs k r a n writes laid has e en p = by writes r.writable en
  where
    low : n ≡ r.end - a → a + n ≤ 0x40000000
    low f = omega (arith, f, to_end r a (found_at rs k a r has e), (placed_at 0 rs k r laid has.0 e).low)

    by : (w b : Bool) → n ≡ (if w then (if b then r.end - a else 0) else r.end - a) → a + n ≤ 0x40000000
    by true true f = low f
    by true false f = absurd (omega (arith, f, p))
    by false b f = low f

-- where a byte can be read, its address is low
pub in_low : (from : ℕ) (rs : List Region) (x : ℕ) → Laid from rs → list_any (is_in_region x) rs ≡ true → x < 0x40000000
in_low from [] x laid h = absurd (cc)
in_low from (y ∷ ys) x laid h = by (is_in_region x y) refl h (in_low y.end ys x laid.1)
  where
    by : (b : Bool) → is_in_region x y ≡ b → (b || list_any (is_in_region x) ys) ≡ true → (list_any (is_in_region x) ys ≡ true → x < 0x40000000) → x < 0x40000000
    by true q h rest = omega (arith, to_end y x q, laid.0.low)
    by false q h rest = rest h

-- what can be written can be read
pub write_reads : (rs : List Region) (a : ℕ) → list_any (usable true a) rs ≡ true → list_any (is_in_region a) rs ≡ true
write_reads [] a e = absurd (cc)
write_reads (r ∷ rs) a e = by (write_reads rs a) r.writable (is_in_region a r) e
  where
    by : (list_any (usable true a) rs ≡ true → list_any (is_in_region a) rs ≡ true) → (w i : Bool) → ((w && i) || list_any (usable true a) rs) ≡ true → (i || list_any (is_in_region a) rs) ≡ true
    by rest w true q = refl
    by rest true false q = rest q
    by rest false false q = rest q

-- without the bytes the same regions have an address
pub same_in : (old new : List Region) (x : ℕ) → map bare new ≡ map bare old → list_any (is_in_region x) new ≡ list_any (is_in_region x) old
same_in old new x e = sym (any_bare (is_in_region x) new (λ r. refl)) ∙ ap (list_any (is_in_region x)) e ∙ any_bare (is_in_region x) old (λ r. refl)

pub none_usable : (rs : List Region) (a : ℕ) (writes : Bool) → list_any (is_in_region a) rs ≡ false → list_any (usable writes a) rs ≡ false
none_usable rs a true e = by (list_any (usable true a) rs) refl
  where
    by : (b : Bool) → list_any (usable true a) rs ≡ b → b ≡ false
    by true q = let h : list_any (is_in_region a) rs ≡ true = write_reads rs a q in absurd (cc)
    by false q = refl
none_usable rs a false e = e
