-- SPDX-License-Identifier: Apache-2.0
-- A round of the serial order: what stands before a turn, and the turn.
use Rattle.std.proofs.Common.{◌≡◌, ℕ, zero, suc, ◌+◌, ◌-◌, ◌*◌, ◌%◌, ◌==◌, ◌||◌, ◌≤◌, ◌<◌, Bool, true, false, not, List, [], ◌∷◌, ◌++◌, length, replicate, refl, sym, ap, ◌∙◌, subst, arith, append_assoc, length-append}
use Rattle.std.specs.Prelude.{if◌then◌else◌}
use Rattle.std.proofs.lemmas.Bool.Decides.{nat_tests}
use Rattle.std.proofs.lemmas.List.{length-replicate}
use Rattle.sh_types.specs.declared.code.Image.{Image}
use Rattle.sh_types.specs.declared.runs.Event.{Event}
use Rattle.sh_types.specs.declared.runs.Event.TheVariants.{Run, Migrate, Publish, Erase}
use Rattle.sh_machines.specs.Event.{written}
use Rattle.sh_machines.specs.Next.{may_come, all_may}
use Rattle.sh_machines.specs.Pace.{Pace, live_from, without, is_among, paced_on, followed}
use Rattle.sh_machines.specs.PlainSerial.{goes_for}
use Rattle.sh_machines.specs.Serial.{Schedule, turn_in, turn, migrations, cleared_away, publication, boundary, is_done, is_due, ready, next_hart, turn_limit, serial_in}
use Rattle.sh_machines.specs.Unmoved.{Unmoved, goes_still, unmoved_from}
use Rattle.sh_law.proofs.Pacing.{guest_is}
use Rattle.sh_law.proofs.Prefixes.{followed_append}
use Rattle.pace_law.specs.Step.{InStep}
use Rattle.pace_law.proofs.Alive.{StillLive, from_live}
use Rattle.pace_law.proofs.Bools.{and_first, and_second, both_true}
use Rattle.pace_law.proofs.Serials.{with_behind, same_test, without_first, all_move, cleared_follows, turn_goes, ready_goes, turn_few, turn_short, turn_is, after_turn}
use Rattle.pace_law.proofs.Turning.{turn_written, turn_may, goes_some, next_goes}

-- ---- lists of events

pub may_append : (i : Image) (es fs : List Event) (b : Pace) → all_may i es b ≡ true → all_may i fs (followed i es b) ≡ true → all_may i (es ++ fs) b ≡ true
may_append i [] fs b k l = l
may_append i (e ∷ es) fs b k l = both_true _ _ (and_first _ _ k) (may_append i es fs (paced_on i e b) (and_second (may_come i e b) _ k) l)

pub written_append : (es fs : List Event) → written (es ++ fs) ≡ written es ++ written fs
written_append [] fs = refl
written_append (Run n k ∷ es) fs = ap (λ ns. replicate k n ++ ns) (written_append es fs) ∙ sym (append_assoc (replicate k n) (written es) (written fs))
written_append (Migrate n ∷ es) fs = written_append es fs
written_append (Publish k ∷ es) fs = written_append es fs
written_append (Erase k ∷ es) fs = written_append es fs

pub count_is : (i : Image) (es : List Event) (b : Pace) → (followed i es b).count ≡ b.count + length (written es)
count_is i [] b = omega arith
count_is i (Run h k ∷ es) b =
    let a = count_is i es (paced_on i (Run h k) b) in
    let l : length (replicate k h ++ written es) ≡ k + length (written es) = length-append (replicate k h) (written es) ∙ ap (λ x. x + length (written es)) (length-replicate k h) in
    omega (arith, a, l)
count_is i (Migrate h ∷ es) b = count_is i es (paced_on i (Migrate h) b)
count_is i (Publish k ∷ es) b = count_is i es (paced_on i (Publish k) b)
count_is i (Erase k ∷ es) b = count_is i es (paced_on i (Erase k) b)

none_moved : (hs : List ℕ) → written (migrations hs) ≡ []
none_moved [] = refl
none_moved (h ∷ hs) = none_moved hs

-- ---- what stands before a turn

moves_may : (i : Image) (hs : List ℕ) (b : Pace) → goes_still b.guest.end ≡ true → b.behind ≡ hs → all_may i (migrations hs) b ≡ true
moves_may i [] b g e = refl
moves_may i (h ∷ hs) b g e =
    let a : is_among h b.behind ≡ true = ap (is_among h) e ∙ ap (λ c. if c then true else is_among h hs) (same_test h) in
    both_true _ _ (both_true _ _ g a) (moves_may i hs (paced_on i (Migrate h) b) g (ap (without h) e ∙ without_first h hs))

-- the older layout goes, where no hart is behind
erase_may : (i : Image) (k : ℕ) (b : Pace) → goes_still b.guest.end ≡ true → b.older ≡ true → k + 1 ≡ b.newest → all_may i (Erase k ∷ []) (with_behind b []) ≡ true
erase_may i k b g o e = both_true _ _ (both_true _ _ g (both_true _ _ o (both_true _ _ (same k b.newest e) refl))) refl
  where
    same : (k n : ℕ) → k + 1 ≡ n → (k + 1 == n) ≡ true
    same k n e = grind (arith, nat_tests)

leave_may : (i : Image) (k : ℕ) (b : Pace) → goes_still b.guest.end ≡ true → b.older ≡ true → k + 1 ≡ b.newest → all_may i (migrations b.behind ++ Erase k ∷ []) b ≡ true
leave_may i k b g o e = may_append i (migrations b.behind) (Erase k ∷ []) b (moves_may i b.behind b g refl) (subst (λ x. all_may i (Erase k ∷ []) x ≡ true) (sym (all_move i b.behind b refl)) (erase_may i k b g o e))

cleared_may : (i : Image) (b : Pace) → goes_still b.guest.end ≡ true → 1 ≤ b.newest → all_may i (cleared_away b) b ≡ true
cleared_may i b g l = by b.older refl
  where
    by : (t : Bool) → b.older ≡ t → all_may i (if t then migrations b.behind ++ Erase (b.newest - 1) ∷ [] else []) b ≡ true
    by true e = leave_may i (b.newest - 1) b g e (omega (arith, l))
    by false e = refl

publication_may : (i : Image) (b : Pace) → goes_still b.guest.end ≡ true → b.older ≡ false → all_may i (publication (b.newest + 1) (live_from 0 b.guest.threads)) b ≡ true
publication_may i b g o =
    let p : may_come i (Publish (b.newest + 1)) b ≡ true = both_true _ _ g (both_true _ _ (ap not o) (same_test (b.newest + 1))) in
    both_true _ _ p (leave_may i (b.newest + 1 - 1) (paced_on i (Publish (b.newest + 1)) b) g refl (omega arith))

ready_may : (i : Image) (p : ℕ) (b : Pace) → goes_still b.guest.end ≡ true → 1 ≤ b.newest → all_may i (ready p b) b ≡ true
ready_may i p b g l = by (is_due p b)
  where
    by : (t : Bool) → all_may i (if t then boundary b else migrations b.behind) b ≡ true
    by true =
        may_append i (cleared_away b) (publication (b.newest + 1) (live_from 0 b.guest.threads)) b (cleared_may i b g l) (subst (λ x. all_may i (publication (b.newest + 1) (live_from 0 b.guest.threads)) x ≡ true) (sym (cleared_follows i b)) (publication_may i (record { newest = b.newest; older = false; behind = if b.older then [] else b.behind; count = b.count; guest = b.guest }) g refl))
    by false = moves_may i b.behind b g refl

left_unwritten : (k : ℕ) (hs : List ℕ) → written (migrations hs ++ Erase k ∷ []) ≡ []
left_unwritten k hs = written_append (migrations hs) (Erase k ∷ []) ∙ ap (λ ns. ns ++ []) (none_moved hs)

ready_unwritten : (p : ℕ) (b : Pace) → written (ready p b) ≡ []
ready_unwritten p b = by (is_due p b) b.older
  where
    by : (t o : Bool) → written (if t then (if o then migrations b.behind ++ Erase (b.newest - 1) ∷ [] else []) ++ publication (b.newest + 1) (live_from 0 b.guest.threads) else migrations b.behind) ≡ []
    by true true =
        written_append (migrations b.behind ++ Erase (b.newest - 1) ∷ []) (publication (b.newest + 1) (live_from 0 b.guest.threads))
        ∙ ap (λ ns. ns ++ written (publication (b.newest + 1) (live_from 0 b.guest.threads))) (left_unwritten (b.newest - 1) b.behind)
        ∙ left_unwritten (b.newest + 1 - 1) (live_from 0 b.guest.threads)
    by true false = left_unwritten (b.newest + 1 - 1) (live_from 0 b.guest.threads)
    by false o = none_moved b.behind

-- ---- the round

abbrev pub readied : Image → Schedule → Pace → Pace
readied i p b = followed i (ready p.period b) b

abbrev pub turn_now : Image → Schedule → ℕ → Pace → List Event
turn_now i p low b = let c = readied i p b in turn i (next_hart low c.guest) (turn_limit p c.count) c

abbrev pub after_round : Image → Schedule → ℕ → Pace → Pace
after_round i p low b = followed i (turn_now i p low b) (readied i p b)

-- the instructions of a round, from where it begins
abbrev pub round_count : Image → Schedule → ℕ → Pace → ℕ
round_count i p low b = goes_for i (next_hart low b.guest) (turn_limit p b.count) b.guest

pub record Round (i : Image) (p : Schedule) (low : ℕ) (b : Pace) : Type 0 where
  pub step : InStep p.period (after_round i p low b)
  pub few : (after_round i p low b).count ≤ p.steps
  pub hart : next_hart low (readied i p b).guest ≡ next_hart low b.guest
  pub written : written (ready p.period b ++ turn_now i p low b) ≡ replicate (round_count i p low b) (next_hart low b.guest)
  pub count : (after_round i p low b).count ≡ b.count + round_count i p low b
  pub guest : (after_round i p low b).guest ≡ unmoved_from i (replicate (round_count i p low b) (next_hart low b.guest)) b.guest
  pub may : goes_still b.guest.end ≡ true → all_may i (ready p.period b ++ turn_now i p low b) b ≡ true

pub round_goes : (i : Image) (p : Schedule) (low : ℕ) (b : Pace) → 1 ≤ p.period → InStep p.period b → b.count ≤ p.steps → Round i p low b
round_goes i p low b l s f =
    let r = (ready_goes i p.period b l s).1 in
    let c : Pace = readied i p b in
    let h : ℕ = next_hart low c.guest in
    let m : ℕ = turn_limit p c.count in
    let room : c.count + m ≤ p.period * c.newest = turn_short p c.count (p.period * c.newest) r.room in
    let is : turn i h m c ≡ turn_in i h m m c = turn_is i h m c in
    let t = (turn_goes i p.period h m m c r.behind room).1 in
    let few1 : c.count ≤ p.steps = omega (arith, r.count, f) in
    let written_is : written (turn i h m c) ≡ replicate (goes_for i h m c.guest) h = ap written is ∙ turn_written i h m m c (omega arith) in
    let same_hart : h ≡ next_hart low b.guest = ap (next_hart low) r.guest in
    let same_round : replicate (goes_for i h m c.guest) h ≡ replicate (round_count i p low b) (next_hart low b.guest) =
    ap (λ (u : Unmoved). replicate (goes_for i (next_hart low u) m u) (next_hart low u)) r.guest ∙ ap (λ k. replicate (goes_for i (next_hart low b.guest) (turn_limit p k) b.guest) (next_hart low b.guest)) r.count in
    let all : written (ready p.period b ++ turn i h m c) ≡ replicate (round_count i p low b) (next_hart low b.guest) =
    written_append (ready p.period b) (turn i h m c) ∙ ap (λ ns. ns ++ written (turn i h m c)) (ready_unwritten p.period b) ∙ written_is ∙ same_round in
    let q : followed i (ready p.period b ++ turn i h m c) b ≡ followed i (turn i h m c) c = followed_append i (ready p.period b) (turn i h m c) b in
    record {
      step = subst (λ x. InStep p.period (followed i x c)) (sym is) (after_turn i p.period m c (followed i (turn_in i h m m c) c) r.step room t);
      few = subst (λ x. (followed i x c).count ≤ p.steps) (sym is) (omega (arith, t.few, turn_few p c.count few1));
      hart = same_hart;
      written = all;
      count = sym (ap (λ (x : Pace). x.count) q) ∙ count_is i (ready p.period b ++ turn i h m c) b ∙ ap (λ ns. b.count + length ns) all ∙ ap (λ k. b.count + k) (length-replicate (round_count i p low b) (next_hart low b.guest));
      guest = sym (ap (λ (x : Pace). x.guest) q) ∙ guest_is i (ready p.period b ++ turn i h m c) b ∙ ap (λ ns. unmoved_from i ns b.guest) all;
      may = λ g. may_append i (ready p.period b) (turn i h m c) b (ready_may i p.period b g s.some) (subst (λ x. all_may i x c ≡ true) (sym is) (turn_may i h m m c));
    }

-- ---- all rounds

not_over : (i : Image) (b : Pace) (p : Schedule) → is_done p b ≡ false → goes_still b.guest.end ≡ true
not_over i b p e = by (goes_still b.guest.end) e
  where
    by : (x : Bool) → (not x || (b.count == p.steps)) ≡ false → x ≡ true
    by true e = refl
    by false e = absurd (cc)

pub serial_may : (i : Image) (p : Schedule) (k low : ℕ) (b : Pace) → 1 ≤ p.period → InStep p.period b → b.count ≤ p.steps → all_may i (serial_in i p k low b) b ≡ true
serial_may i p zero low b l s f = refl
serial_may i p (suc k) low b l s f =
    let r = round_goes i p low b l s f in
    let es : List Event = ready p.period b ++ turn_now i p low b in
    let rest : List Event = serial_in i p k (next_hart low (readied i p b).guest + 1) (after_round i p low b) in
    let ih : all_may i rest (after_round i p low b) ≡ true = serial_may i p k (next_hart low (readied i p b).guest + 1) (after_round i p low b) l r.step r.few in
    let q : followed i es b ≡ after_round i p low b = followed_append i (ready p.period b) (turn_now i p low b) b in
    by (is_done p b) refl (λ g. may_append i es rest b (r.may g) (subst (λ x. all_may i rest x ≡ true) (sym q) ih))
  where
    by : (t : Bool) → is_done p b ≡ t → (goes_still b.guest.end ≡ true → all_may i ((ready p.period b ++ turn_now i p low b) ++ serial_in i p k (next_hart low (readied i p b).guest + 1) (after_round i p low b)) b ≡ true) → all_may i (if t then [] else (ready p.period b ++ turn_now i p low b) ++ serial_in i p k (next_hart low (readied i p b).guest + 1) (after_round i p low b)) b ≡ true
    by true e w = refl
    by false e w = w (not_over i b p e)

at_end : (p : Schedule) (b : Pace) → b.count ≡ p.steps → is_done p b ≡ true
at_end p b e = ap (λ x. not (goes_still b.guest.end) || x) (same b.count p.steps e) ∙ or_true (not (goes_still b.guest.end))
  where
    same : (n m : ℕ) → n ≡ m → (n == m) ≡ true
    same n m e = grind (arith, nat_tests)

    or_true : (x : Bool) → (x || true) ≡ true
    or_true true = refl
    or_true false = refl

fewer : (p : Schedule) (b : Pace) → b.count ≤ p.steps → is_done p b ≡ false → b.count < p.steps
fewer p b f e = by (b.count == p.steps) refl
  where
    by : (x : Bool) → (b.count == p.steps) ≡ x → b.count < p.steps
    by true q = let c : true ≡ false = sym (at_end p b (grind (arith, nat_tests))) ∙ e in absurd (cc)
    by false q = grind (arith, nat_tests)

limit_some : (p : Schedule) (c : ℕ) → 1 ≤ p.period → 1 ≤ p.quantum → c < p.steps → 1 ≤ turn_limit p c
limit_some p c l q f = let d : c % p.period < p.period = omega (arith, l) in omega (arith, d, q, f)

-- with as many rounds as there are instructions left the serial order comes to its end
pub serial_ends : (i : Image) (p : Schedule) (k low : ℕ) (b : Pace) → 1 ≤ p.period → 1 ≤ p.quantum → InStep p.period b → b.count ≤ p.steps → StillLive b.guest → p.steps - b.count ≤ k → is_done p (followed i (serial_in i p k low b) b) ≡ true
serial_ends i p zero low b l q s f v m = at_end p b (omega (arith, f, m))
serial_ends i p (suc k) low b l q s f v m =
    let r = round_goes i p low b l s f in
    let es : List Event = ready p.period b ++ turn_now i p low b in
    let c : Pace = after_round i p low b in
    let rest : List Event = serial_in i p k (next_hart low (readied i p b).guest + 1) c in
    let live : StillLive c.guest = subst StillLive (sym r.guest) (from_live i (replicate (round_count i p low b) (next_hart low b.guest)) b.guest v) in
    let joined : followed i (es ++ rest) b ≡ followed i rest c = followed_append i es rest b ∙ ap (followed i rest) (followed_append i (ready p.period b) (turn_now i p low b) b) in
    by (is_done p b) refl (λ less. subst (λ x. is_done p x ≡ true) (sym joined) (serial_ends i p k (next_hart low (readied i p b).guest + 1) c l q r.step r.few live (omega (arith, m, r.count, less))))
  where
    by : (t : Bool) → is_done p b ≡ t → (1 ≤ round_count i p low b → is_done p (followed i ((ready p.period b ++ turn_now i p low b) ++ serial_in i p k (next_hart low (readied i p b).guest + 1) (after_round i p low b)) b) ≡ true) → is_done p (followed i (if t then [] else (ready p.period b ++ turn_now i p low b) ++ serial_in i p k (next_hart low (readied i p b).guest + 1) (after_round i p low b)) b) ≡ true
    by true e w = e
    by false e w = w (goes_some i (next_hart low b.guest) (turn_limit p b.count) b.guest (limit_some p b.count l q (fewer p b f e)) (next_goes low b.guest (not_over i b p e) v))
