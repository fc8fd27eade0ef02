-- SPDX-License-Identifier: Apache-2.0
-- The serial order, by what was executed and what is still to come.
use Rattle.std.proofs.Common.{◌≡◌, ℕ, zero, suc, ◌+◌, ◌-◌, ◌==◌, ◌||◌, ◌≤◌, ◌<◌, nat_le, Bool, true, false, not, Some, List, [], ◌∷◌, ◌++◌, length, min, replicate, drop, refl, sym, ap, ◌∙◌, subst, arith, append_assoc, append-nil, length-append}
use Rattle.std.specs.Prelude.{Option, None, IfSome, IfNone, unwrap_or, if◌then◌else◌}
use Rattle.std.proofs.lemmas.Bool.Decides.{nat_tests}
use Rattle.std.proofs.lemmas.List.{length-replicate, replicate-append-replicate}
use Rattle.sh_types.specs.declared.code.Image.{Image}
use Rattle.sh_machines.specs.Pace.{live_from}
use Rattle.sh_machines.specs.PlainSerial.{Turn, goes_for, written_turn, written_turns, is_over, next_turn, turns_in, plain_turns}
use Rattle.sh_machines.specs.Serial.{first_or, next_from, next_hart}
use Rattle.sh_machines.specs.Unmoved as unmoved
use Rattle.sh_machines.specs.Unmoved.{Unmoved, goes_still, unmoved_from}
use Rattle.thread_acts.specs.Done.{meant}
use Rattle.thread_acts.specs.declared.threads.Thread.{Thread}
use Rattle.sh_law.proofs.Whole.{run_append}
use Rattle.ref_machine.specs.Meant.{IsSound, threads_of}
use Rattle.ref_machine.specs.Ran.{IsTurn, RanShort, Listed, ListedPart}
use Rattle.ref_machine.proofs.Nexts.{goes_few, goes_some, next_goes}
use Rattle.ref_machine.proofs.Rans.{ran_listed}

-- ---- the least live hart from a number on

-- how the list of live harts is looked through from a place on
abbrev pub least_from : ℕ → ℕ → List Thread → ℕ → ℕ
least_from low k ts d = next_from low (live_from k (threads_of (drop k ts))) d

pub first_next : (ns : List ℕ) → first_or 0 ns ≡ next_from 0 ns 0
first_next [] = refl
first_next (n ∷ ns) = let t : nat_le 0 n ≡ true = grind (arith, nat_tests) in sym (ap (λ b. if b then n else next_from 0 ns 0) t)

-- the least live hart, or 0
pub least_or : (ns : List ℕ) (r : Option ℕ) → IfSome r (λ h. (d : ℕ) → next_from 0 ns d ≡ h) → IfNone r ((d : ℕ) → next_from 0 ns d ≡ d) → unwrap_or r 0 ≡ first_or 0 ns
least_or ns (Some h) some none = sym (first_next ns ∙ some 0)
least_or ns None some none = sym (first_next ns ∙ none 0)

-- ---- lists of instructions

pub listed_more : (i : Image) (ms ns : List ℕ) (c : ℕ) (u : Unmoved) (c' : ℕ) (u' : Unmoved) (c'' : ℕ) (u'' : Unmoved) → Listed i ms c u c' u' → Listed i ns c' u' c'' u'' → Listed i (ms ++ ns) c u c'' u''
listed_more i ms ns c u c' u' c'' u'' a b =
    record { count = omega (arith, a.count, b.count, length-append ms ns); state = b.state ∙ ap (unmoved_from i ns) a.state ∙ sym (run_append i ms ns u) }

-- ---- rounds

-- from where the run began, and where it stands now
pub record Serving (i : Image) (q steps c0 : ℕ) (u0 : Unmoved) (low c : ℕ) (u : Unmoved) : Type 0 where
  pub room : ℕ
  pub first : List ℕ
  pub enough : steps - c ≤ room
  pub few : c ≤ steps
  pub listed : Listed i first c0 u0 c u
  pub rest : first ++ written_turns (turns_in i q steps room low c u) ≡ written_turns (plain_turns i q steps c0 u0)

pub serving_first : (i : Image) (q steps c : ℕ) (u : Unmoved) → c ≤ steps → Serving i q steps c u 0 c u
unfolding plain_turns
serving_first i q steps c u l = record { room = steps; first = []; enough = omega arith; few = l; listed = record { count = omega arith; state = refl }; rest = refl }

-- the turns from here on, where one is taken
abbrev turns_on : Image → (q steps k low c : ℕ) → Unmoved → List Turn
turns_on i q steps k low c u =
    next_turn i q steps low c u ∷ turns_in i q steps k (next_hart low u + 1) (c + goes_for i (next_hart low u) (min q (steps - c)) u) (unmoved_from i (replicate (goes_for i (next_hart low u) (min q (steps - c)) u) (next_hart low u)) u)

turns_over : (i : Image) (q steps room low c : ℕ) (u : Unmoved) → is_over steps c u ≡ true → turns_in i q steps room low c u ≡ []
turns_over i q steps zero low c u o = refl
turns_over i q steps (suc k) low c u o = ap (λ b. if b then [] else turns_on i q steps k low c u) o

turns_more : (i : Image) (q steps k low c : ℕ) (u : Unmoved) → is_over steps c u ≡ false → turns_in i q steps (suc k) low c u ≡ turns_on i q steps k low c u
turns_more i q steps k low c u o = ap (λ b. if b then [] else turns_on i q steps k low c u) o

pub served : (i : Image) (q steps c0 : ℕ) (u0 : Unmoved) (low c : ℕ) (u : Unmoved) → Serving i q steps c0 u0 low c u → is_over steps c u ≡ true → Listed i (written_turns (plain_turns i q steps c0 u0)) c0 u0 c u
served i q steps c0 u0 low c u s o =
    subst (λ ns. Listed i ns c0 u0 c u) (sym (append-nil s.first) ∙ ap (λ ts. s.first ++ written_turns ts) (sym (turns_over i q steps s.room low c u o)) ∙ s.rest) s.listed

parts : (a b : Bool) → (not a || b) ≡ false → (a ≡ true) × (b ≡ false)
parts true b e = (refl, e)
parts false b e = absurd (cc)

pub going : (steps c : ℕ) (u : Unmoved) → is_over steps c u ≡ false → c ≤ steps → (goes_still u.end ≡ true) × (c < steps)
going steps c u o l = let p = parts (goes_still u.end) (c == steps) o in (p.0, grind (arith, nat_tests, p.1, l))

-- a round's turn, as the order has it
record Round (i : Image) (q steps low c : ℕ) (u : Unmoved) (h limit : ℕ) : Type 0 where
  hart : h ≡ next_hart low u
  most : limit - c ≡ min q (steps - c)
  some : 1 ≤ goes_for i h (limit - c) u
  few : goes_for i h (limit - c) u ≤ steps - c
  same : (room : ℕ) → steps - c ≤ room → written_turns (turns_in i q steps room low c u) ≡ replicate (goes_for i h (limit - c) u) h ++ written_turns (turns_in i q steps (room - 1) (h + 1) (c + goes_for i h (limit - c) u) (unmoved_from i (replicate (goes_for i h (limit - c) u) h) u))

round : (i : Image) (q steps low c : ℕ) (u : Unmoved) (h limit : ℕ) → IsSound u → 1 ≤ q → c ≤ steps → is_over steps c u ≡ false → h ≡ next_hart low u → limit ≡ c + min q (steps - c) → Round i q steps low c u h limit
round i q steps low c u h limit so some l o eh el =
    let g = going steps c u o l in
    let m : limit - c ≡ min q (steps - c) = omega (arith, el) in
    let go = next_goes low u g.0 so.live in
    record {
      hart = eh;
      most = m;
      some = subst (λ x. 1 ≤ goes_for i x (limit - c) u) (sym eh) (goes_some i (next_hart low u) (limit - c) u (omega (arith, m, some, g.1)) go);
      few = omega (arith, goes_few i h (limit - c) u, m);
      same = same m g.1;
    }
  where
    at : (x y : ℕ) → x ≡ next_hart low u → y ≡ min q (steps - c) → (k : ℕ) → written_turns (turns_in i q steps (suc k) low c u) ≡ replicate (goes_for i x y u) x ++ written_turns (turns_in i q steps k (x + 1) (c + goes_for i x y u) (unmoved_from i (replicate (goes_for i x y u) x) u))
    at x y ex ey k =
        ap written_turns (turns_more i q steps k low c u o)
        ∙ ap (λ y. replicate (goes_for i (next_hart low u) y u) (next_hart low u) ++ written_turns (turns_in i q steps k (next_hart low u + 1) (c + goes_for i (next_hart low u) y u) (unmoved_from i (replicate (goes_for i (next_hart low u) y u) (next_hart low u)) u))) (sym ey)
        ∙ ap (λ x. replicate (goes_for i x y u) x ++ written_turns (turns_in i q steps k (x + 1) (c + goes_for i x y u) (unmoved_from i (replicate (goes_for i x y u) x) u))) (sym ex)

    same : limit - c ≡ min q (steps - c) → c < steps → (room : ℕ) → steps - c ≤ room → written_turns (turns_in i q steps room low c u) ≡ replicate (goes_for i h (limit - c) u) h ++ written_turns (turns_in i q steps (room - 1) (h + 1) (c + goes_for i h (limit - c) u) (unmoved_from i (replicate (goes_for i h (limit - c) u) h) u))
    same m less zero r = absurd (omega (arith, r, less))
    same m less (suc k) r =
        let z : k ≡ suc k - 1 = omega arith in
        at h (limit - c) eh m k
        ∙ ap (λ j. replicate (goes_for i h (limit - c) u) h ++ written_turns (turns_in i q steps j (h + 1) (c + goes_for i h (limit - c) u) (unmoved_from i (replicate (goes_for i h (limit - c) u) h) u))) z

pub record Served (i : Image) (q steps c0 : ℕ) (u0 : Unmoved) (low c c' : ℕ) (u' : Unmoved) : Type 0 where
  pub serving : Serving i q steps c0 u0 low c' u'
  pub more : c < c'

pub serving_on : (i : Image) (q steps c0 : ℕ) (u0 : Unmoved) (low c : ℕ) (u : Unmoved) (h limit c' : ℕ) (u' : Unmoved) → Serving i q steps c0 u0 low c u → IsSound u → 1 ≤ q → is_over steps c u ≡ false → h ≡ next_hart low u → limit ≡ c + min q (steps - c) → IsTurn i h limit c u c' u' → Served i q steps c0 u0 (h + 1) c c' u'
serving_on i q steps c0 u0 low c u h limit c' u' s so some o eh el t =
    let r : Round i q steps low c u h limit = round i q steps low c u h limit so some s.few o eh el in
    let g : ℕ = goes_for i h (limit - c) u in
    let turn : List ℕ = replicate g h in
    let listed : Listed i turn c u c' u' = record { count = t.count ∙ ap (λ m. c + m) (sym (length-replicate g h)); state = t.state } in
    let later : ℕ → Unmoved → List ℕ = λ x y. written_turns (turns_in i q steps (s.room - 1) (h + 1) x y) in
    record {
      serving = record {
        room = s.room - 1;
        first = s.first ++ turn;
        enough = omega (arith, s.enough, t.count, r.some, r.few);
        few = omega (arith, t.count, r.few, s.few);
        listed = listed_more i s.first turn c0 u0 c u c' u' s.listed listed;
        rest =
            append_assoc s.first turn (later c' u')
            ∙ ap (λ x. s.first ++ (turn ++ later x u')) t.count
            ∙ ap (λ y. s.first ++ (turn ++ later (c + g) y)) t.state
            ∙ ap (λ ns. s.first ++ ns) (sym (r.same s.room s.enough))
            ∙ s.rest;
      };
      more = omega (arith, t.count, r.some);
    }

-- where memory was refused within a turn
pub serving_short : (i : Image) (q steps c0 : ℕ) (u0 : Unmoved) (low c : ℕ) (u : Unmoved) (h limit c' : ℕ) (u' : Unmoved) → Serving i q steps c0 u0 low c u → IsSound u → 1 ≤ q → is_over steps c u ≡ false → h ≡ next_hart low u → limit ≡ c + min q (steps - c) → RanShort i h limit c u c' u' → ListedPart i (written_turns (plain_turns i q steps c0 u0)) c0 u0 c' u'
serving_short i q steps c0 u0 low c u h limit c' u' s so some o eh el t =
    let r : Round i q steps low c u h limit = round i q steps low c u h limit so some s.few o eh el in
    let g : ℕ = goes_for i h (limit - c) u in
    let done : List ℕ = replicate t.ran.k h in
    let left : List ℕ = replicate (goes_for i h (limit - c') u') h in
    let later : List ℕ = written_turns (turns_in i q steps (s.room - 1) (h + 1) (c + g) (unmoved_from i (replicate g h) u)) in
    record {
      first = s.first ++ done;
      rest = left ++ later;
      is =
          append_assoc s.first done (left ++ later)
          ∙ ap (λ ns. s.first ++ ns) (sym (append_assoc done left later))
          ∙ ap (λ ns. s.first ++ (ns ++ later)) (replicate-append-replicate t.ran.k (goes_for i h (limit - c') u') h)
          ∙ ap (λ k. s.first ++ (replicate k h ++ later)) (sym t.ran.rest)
          ∙ ap (λ ns. s.first ++ ns) (sym (r.same s.room s.enough))
          ∙ s.rest;
      listed = listed_more i s.first done c0 u0 c u c' u' s.listed (ran_listed i h limit c u c' u' t.ran);
    }
