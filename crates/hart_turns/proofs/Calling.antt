-- SPDX-License-Identifier: Apache-2.0
-- What an environment call leaves.
use Rattle.std.proofs.Common.{◌≡◌, ℕ, zero, suc, ◌%◌, ◌<◌, ◌≤◌, Bool, true, false, Option, Some, None, List, [], ◌∷◌, ◌++◌, length, take, drop, refl, sym, ap, ◌∙◌, subst, arith, append-nil}
use Rattle.std.specs.Prelude.{map, slice_get, slice_set, slice_index, ◌==◌, ◌&&◌, ◌||◌, nat_lt, is_some, IsSome, if◌then◌else◌}
use Rattle.std.proofs.lemmas.Bool.Decides.{nat_tests}
use Rattle.sh_types.specs.declared.code.Region.{Region}
use Rattle.sh_types.specs.declared.runs.Hart.{Hart}
use Rattle.sh_types.specs.declared.runs.Stored.{Stored}
use Rattle.sh_machines.specs.Environment as defined
use Rattle.sh_machines.specs.Environment.{Answers, Reads, Starts, ExitsHart, ExitsRun, LeaksWord, Request, answer, failure, read_into, read_call, written_from, write_call, start_at, ended_call, call_of}
use Rattle.sh_machines.specs.Fine.{IsFine}
use Rattle.sh_machines.specs.Memory.{each_from, readable, writable, byte_of, both_bytes, bytes_from}
use Rattle.sh_machines.specs.Need.{Calls, stored_at}
use Rattle.sh_machines.specs.Shuffled.{Setting, Shuffled, left, set_hart, harts_lose, fills, after_call, hart_asks, shuffled_step}
use Rattle.sh_machines.specs.Tokens.{token_of, row_named}
use Rattle.guest_calls.specs.Answer.{answer_of}
use Rattle.guest_calls.specs.Seen.{Seen, Put, put, after, request, called as called_of}
use Rattle.guest_calls.specs.Seen as seen
use Rattle.guest_mem.specs.Held.{Held, regions_of, plain_of}
use Rattle.hart_turns.specs.declared.asking.Answer.{Answer}
use Rattle.hart_turns.specs.declared.asking.Answer.TheVariants as to
use Rattle.hart_turns.specs.declared.asking.Begun.{Begun}
use Rattle.hart_turns.specs.declared.asking.Taken.{Taken}
use Rattle.hart_turns.specs.declared.state.LiveCode.{LiveCode}
use Rattle.hart_turns.specs.declared.state.State.{State}
use Rattle.hart_turns.specs.Calling.{stored_of, started_of, seen_of, answer_by, answer_for, more_of, call_at, lives_of, CanAct, acted, with_output}
use Rattle.hart_turns.specs.Meant.{meant, IsLive, IsMapped, setting_of}
use Rattle.hart_turns.specs.Next.{next_outcome}
use Rattle.hart_turns.proofs.Next.{done_by, reads_alike, writes_alike}

-- ---- what calls read and start

-- a call that reads: its bytes are the input's next, and can be put there
pub record Readable (regions : List Region) (c : Request) (a : ℕ) (bytes : List ℕ) : Type 0 where
  pub writable : writable regions a (length bytes) ≡ true
  pub plain : IsSome (bytes_from c.plain a (length bytes))
  pub few : length bytes ≤ length c.unread
  pub next : bytes ≡ take (length bytes) c.unread

pub record Startable (rows : List ℕ) (c : Request) (f : ℕ) : Type 0 where
  pub row : (k : ℕ) × (slice_get rows k ≡ Some f)
  pub few : length c.lives < 64

abbrev pub Fits : List Region → List ℕ → Request → defined.CallDid → Type 0
Fits regions rows c (Answers v more) = Unit {0}
Fits regions rows c (Reads a bytes) = Readable regions c a bytes
Fits regions rows c (Starts f a0 sp tp) = Startable rows c f
Fits regions rows c (ExitsHart code) = Unit {0}
Fits regions rows c (ExitsRun code) = Unit {0}
Fits regions rows c LeaksWord = Unit {0}

and_first : (a b : Bool) → (a && b) ≡ true → a ≡ true
and_first a b e = grind arith

and_second : (a b : Bool) → (a && b) ≡ true → b ≡ true
and_second a b e = grind arith

both_true : (a b : Bool) → a ≡ true → b ≡ true → (a && b) ≡ true
both_true a b e f = rw (e, f) refl

each_less : (test : ℕ → Bool) (a n k : ℕ) → k ≤ n → each_from test a n ≡ true → each_from test a k ≡ true
unfolding each_from
each_less test a n zero le e = refl
each_less test a zero (suc k) le e = absurd (omega (arith, le))
each_less test a (suc n) (suc k) le e = both_true (test a) _ (and_first _ _ e) (each_less test (suc a) n k (omega (arith, le)) (and_second _ _ e))

both_some : (x : Option ℕ) (y : Option (List ℕ)) → is_some (both_bytes x y) ≡ (is_some x && is_some y)
both_some None y = refl
both_some (Some b) None = refl
both_some (Some b) (Some bs) = refl

plain_less : (p : ℕ → Option ℕ) (a n k : ℕ) → k ≤ n → is_some (bytes_from p a n) ≡ true → is_some (bytes_from p a k) ≡ true
unfolding bytes_from
plain_less p a n zero le e = refl
plain_less p a zero (suc k) le e = absurd (omega (arith, le))
plain_less p a (suc n) (suc k) le e =
    let q : (is_some (byte_of p a) && is_some (bytes_from p (suc a) n)) ≡ true = sym (both_some (byte_of p a) (bytes_from p (suc a) n)) ∙ e in
    both_some (byte_of p a) (bytes_from p (suc a) k) ∙ both_true (is_some (byte_of p a)) _ (and_first _ _ q) (plain_less p (suc a) n k (omega (arith, le)) (and_second _ _ q))

take_few : (n : ℕ) (xs : List ℕ) → length (take n xs) ≤ n
take_few zero xs = omega arith
take_few (suc n) [] = omega arith
take_few (suc n) (x ∷ xs) = omega (arith, take_few n xs)

take_less : (n : ℕ) (xs : List ℕ) → length (take n xs) ≤ length xs
take_less zero xs = omega arith
take_less (suc n) [] = omega arith
take_less (suc n) (x ∷ xs) = omega (arith, take_less n xs)

pub take_length : (n : ℕ) (xs : List ℕ) → take n xs ≡ take (length (take n xs)) xs
take_length zero xs = refl
take_length (suc n) [] = refl
take_length (suc n) (x ∷ xs) = ap (λ ys. x ∷ ys) (take_length n xs)

reads_fit : (regions : List Region) (rows : List ℕ) (c : Request) → Fits regions rows c (read_call regions c)
unfolding writable
reads_fit regions rows c = by (c.a0 == 0) (c.a2 == 0) (writable regions c.a1 c.a2) refl (bytes_from c.plain c.a1 c.a2) refl
  where
    by : (b d w : Bool) → writable regions c.a1 c.a2 ≡ w → (p : Option (List ℕ)) → bytes_from c.plain c.a1 c.a2 ≡ p → Fits regions rows c (if b then (if d then answer 0 else if w then read_into c.a1 (take c.a2 c.unread) p else failure 14) else failure 9)
    by false d w ew p ep = tt
    by true true w ew p ep = tt
    by true false false ew p ep = tt
    by true false true ew None ep = tt
    by true false true ew (Some bytes) ep =
        record {
          writable = each_less _ c.a1 c.a2 (length (take c.a2 c.unread)) (take_few c.a2 c.unread) ew;
          plain = plain_less c.plain c.a1 c.a2 (length (take c.a2 c.unread)) (take_few c.a2 c.unread) (ap is_some ep);
          few = take_less c.a2 c.unread;
          next = take_length c.a2 c.unread;
        }

row_there : (rows : List ℕ) (v f : ℕ) → row_named rows v ≡ Some f → (k : ℕ) × (slice_get rows k ≡ Some f)
row_there [] v f e = absurd (cc)
row_there (x ∷ rows) v f e = by (row_there rows v f) (token_of x == v) e
  where
    by : (row_named rows v ≡ Some f → (k : ℕ) × (slice_get rows k ≡ Some f)) → (b : Bool) → (if b then Some x else row_named rows v) ≡ Some f → (k : ℕ) × (slice_get (x ∷ rows) k ≡ Some f)
    by rest true q = (0, q)
    by rest false q = let r = rest q in (suc r.0, r.1)

starts_fit : (regions : List Region) (rows : List ℕ) (c : Request) → Fits regions rows c (start_at (row_named rows c.a0) c)
starts_fit regions rows c = by (row_named rows c.a0) refl (nat_lt (length c.lives) 64) refl
  where
    by : (x : Option ℕ) → row_named rows c.a0 ≡ x → (b : Bool) → nat_lt (length c.lives) 64 ≡ b → Fits regions rows c (start_at x c)
    by None e b eb = tt
    by (Some f) e false eb = rw eb tt
    by (Some f) e true eb = rw eb (record { row = row_there rows c.a0 f e; few = grind (arith, nat_tests) })

writes_fit : (regions : List Region) (rows : List ℕ) (c : Request) → Fits regions rows c (write_call regions c)
writes_fit regions rows c = by ((c.a0 == 1) || (c.a0 == 2)) (c.a2 == 0) (readable regions c.a1 c.a2) (bytes_from c.plain c.a1 c.a2)
  where
    by : (b d r : Bool) (p : Option (List ℕ)) → Fits regions rows c (if b then (if d then answer 0 else if r then written_from c.a2 p else failure 14) else failure 9)
    by false d r p = tt
    by true true r p = tt
    by true false false p = tt
    by true false true None = tt
    by true false true (Some bytes) = tt

ended_fits : (regions : List Region) (rows : List ℕ) (c : Request) (x : Option Bool) → Fits regions rows c (ended_call x)
ended_fits regions rows c None = tt
ended_fits regions rows c (Some true) = tt
ended_fits regions rows c (Some false) = tt

pub call_fits : (regions : List Region) (rows : List ℕ) (c : Request) → Fits regions rows c (call_of regions rows c)
unfolding call_of
call_fits regions rows c = by (c.number == 63) (c.number == 64) (c.number == 93) (c.number == 94) (c.number == 2000) (c.number == 2001) (c.number == 2002)
  where
    by : (b63 b64 b93 b94 b2000 b2001 b2002 : Bool) → Fits regions rows c (if b63 then read_call regions c else if b64 then write_call regions c else if b93 then ExitsHart (c.a0 % 256) else if b94 then ExitsRun (c.a0 % 256) else if b2000 then start_at (row_named rows c.a0) c else if b2001 then ended_call (slice_get c.lives c.a0) else if b2002 then answer c.hart else failure 38)
    by true b64 b93 b94 b2000 b2001 b2002 = reads_fit regions rows c
    by false true b93 b94 b2000 b2001 b2002 = writes_fit regions rows c
    by false false true b94 b2000 b2001 b2002 = tt
    by false false false true b2000 b2001 b2002 = tt
    by false false false false true b2001 b2002 = starts_fit regions rows c
    by false false false false false true b2002 = ended_fits regions rows c (slice_get c.lives c.a0)
    by false false false false false false true = tt
    by false false false false false false false = tt

-- what can be read and written is all that a call asks of the regions
pub call_alike : (r r' : List Region) (rows : List ℕ) (c : Request) → readable r ≡ readable r' → writable r ≡ writable r' → call_of r rows c ≡ call_of r' rows c
unfolding call_of
call_alike r r' rows c er ew =
    ap (λ can. if c.number == 63 then (if c.a0 == 0 then (if c.a2 == 0 then answer 0 else if can c.a1 c.a2 then read_into c.a1 (take c.a2 c.unread) (bytes_from c.plain c.a1 c.a2) else failure 14) else failure 9) else if c.number == 64 then write_call r c else if c.number == 93 then ExitsHart (c.a0 % 256) else if c.number == 94 then ExitsRun (c.a0 % 256) else if c.number == 2000 then start_at (row_named rows c.a0) c else if c.number == 2001 then ended_call (slice_get c.lives c.a0) else if c.number == 2002 then answer c.hart else failure 38) ew
    ∙ ap (λ can. if c.number == 63 then read_call r' c else if c.number == 64 then (if (c.a0 == 1) || (c.a0 == 2) then (if c.a2 == 0 then answer 0 else if can c.a1 c.a2 then written_from c.a2 (bytes_from c.plain c.a1 c.a2) else failure 14) else failure 9) else if c.number == 93 then ExitsHart (c.a0 % 256) else if c.number == 94 then ExitsRun (c.a0 % 256) else if c.number == 2000 then start_at (row_named rows c.a0) c else if c.number == 2001 then ended_call (slice_get c.lives c.a0) else if c.number == 2002 then answer c.hart else failure 38) er

-- ---- what was kept is what the call did

none_taken : (t : Option Taken) → stored_of t ≡ [] → t ≡ None
none_taken None e = refl
none_taken (Some t) e = absurd (cc)

none_begun : (b : Option Begun) → started_of b ≡ [] → b ≡ None
none_begun None e = refl
none_begun (Some b) e = absurd (cc)

abbrev first_range : List Put → Stored
first_range [] = stored_at 0 0
first_range (p ∷ ps) = p.range

abbrev first_begun : List seen.Begun → seen.Begun
first_begun [] = record { by = 0; func = 0; a0 = 0; sp = 0; tp = 0 }
first_begun (b ∷ bs) = b

abbrev starting : seen.Begun → Answer
starting b = to.Starts b.func b.a0 b.sp b.tp

answer_none : (n : ℕ) (d : defined.CallDid) (t : Option Taken) (b : Option Begun) → t ≡ None → b ≡ None → answer_by (answer_of n d) t b ≡ answer_by (answer_of n d) None None
answer_none n d t b et eb = ap (λ x. answer_by (answer_of n d) x b) et ∙ ap (answer_by (answer_of n d) None) eb

pub told : (hart n : ℕ) (d : defined.CallDid) (hs hs' : List Hart) (regions regions' : List Region) (plain plain' : ℕ → Option ℕ) (rows rows' input input' out out' : List ℕ) (t : Option Taken) (b : Option Begun) → seen_of hs' regions' plain' rows' input' out' t b ≡ after hart d (seen_of hs regions plain rows input out None None) → answer_by (answer_of n d) t b ≡ answer_for d
told hart n (Answers v more) hs hs' regions regions' plain plain' rows rows' input input' out out' t b e =
    answer_none n (Answers v more) t b (none_taken t (ap (λ (s : Seen). s.stored) e)) (none_begun b (ap (λ (s : Seen). s.started) e))
told hart n (Reads a bytes) hs hs' regions regions' plain plain' rows rows' input input' out out' t b e = by t (ap (λ (s : Seen). s.stored) e)
  where
    by : (t : Option Taken) → stored_of t ≡ put hart a (length bytes) ∷ [] → answer_by (answer_of n (Reads a bytes)) t b ≡ to.Reads a (length bytes)
    by None q = absurd (cc)
    by (Some t) q = ap (λ (ps : List Put). to.Reads (first_range ps).address (first_range ps).length) q
told hart n (Starts f a0 sp tp) hs hs' regions regions' plain plain' rows rows' input input' out out' t b e = ap (λ x. answer_by (answer_of n (Starts f a0 sp tp)) x b) (none_taken t (ap (λ (s : Seen). s.stored) e)) ∙ by b (ap (λ (s : Seen). s.started) e)
  where
    by : (b : Option Begun) → started_of b ≡ record { by = hart; func = f; a0 = a0; sp = sp; tp = tp } ∷ [] → answer_by (answer_of n (Starts f a0 sp tp)) None b ≡ to.Starts f a0 sp tp
    by None q = absurd (cc)
    by (Some b) q = ap (λ (bs : List seen.Begun). starting (first_begun bs)) q
told hart n (ExitsHart code) hs hs' regions regions' plain plain' rows rows' input input' out out' t b e = refl
told hart n (ExitsRun code) hs hs' regions regions' plain plain' rows rows' input input' out out' t b e = refl
told hart n LeaksWord hs hs' regions regions' plain plain' rows rows' input input' out out' t b e = refl

pub joined : (hart : ℕ) (d : defined.CallDid) (hs hs' : List Hart) (regions regions' : List Region) (plain plain' : ℕ → Option ℕ) (rows rows' input input' out out' : List ℕ) (t : Option Taken) (b : Option Begun) → seen_of hs' regions' plain' rows' input' out' t b ≡ after hart d (seen_of hs regions plain rows input out None None) → out' ≡ out ++ more_of d
joined hart (Answers v more) hs hs' regions regions' plain plain' rows rows' input input' out out' t b e = ap (λ (s : Seen). s.output) e
joined hart (Reads a bytes) hs hs' regions regions' plain plain' rows rows' input input' out out' t b e = ap (λ (s : Seen). s.output) e ∙ sym (append-nil out)
joined hart (Starts f a0 sp tp) hs hs' regions regions' plain plain' rows rows' input input' out out' t b e = ap (λ (s : Seen). s.output) e ∙ sym (append-nil out)
joined hart (ExitsHart code) hs hs' regions regions' plain plain' rows rows' input input' out out' t b e = ap (λ (s : Seen). s.output) e ∙ sym (append-nil out)
joined hart (ExitsRun code) hs hs' regions regions' plain plain' rows rows' input input' out out' t b e = ap (λ (s : Seen). s.output) e ∙ sym (append-nil out)
joined hart LeaksWord hs hs' regions regions' plain plain' rows rows' input input' out out' t b e = ap (λ (s : Seen). s.output) e ∙ sym (append-nil out)

-- ---- the state that the call leaves

pub acted_is : (o : Setting) (s : Shuffled) (n : ℕ) (h : Hart) (regions : List Region) (rows : List ℕ) (c : Request) (d : defined.CallDid) → c.unread ≡ s.unread → Fits regions rows c d → acted o n h (answer_for d) (with_output s (s.output ++ more_of d)) ≡ after_call o s n h d
acted_is o s n h regions rows c (Answers v more) eu f = ap (λ out. with_output (left s (slice_set s.harts n (set_hart h 10 v)) s.words s.unread [] None) out) (append-nil (s.output ++ more))
acted_is o s n h regions rows c (Reads a bytes) eu f =
    ap (λ bs. left (with_output s (s.output ++ [])) (harts_lose n (Some (stored_at a (length bytes))) (slice_set s.harts n (set_hart h 10 (length bytes)))) (fills a bs s.words) (drop (length bytes) s.unread) [] None) (sym (f.next ∙ ap (take (length bytes)) eu))
    ∙ ap (λ out. left (with_output s out) (harts_lose n (Some (stored_at a (length bytes))) (slice_set s.harts n (set_hart h 10 (length bytes)))) (fills a bytes s.words) (drop (length bytes) s.unread) [] None) (append-nil s.output)
acted_is o s n h regions rows c (Starts f a0 sp tp) eu fits = ap (λ out. acted o n h (to.Starts f a0 sp tp) (with_output s out)) (append-nil s.output)
acted_is o s n h regions rows c (ExitsHart code) eu f = ap (λ out. acted o n h (to.ExitsHart code) (with_output s out)) (append-nil s.output)
acted_is o s n h regions rows c (ExitsRun code) eu f = ap (λ out. acted o n h (to.ExitsRun code) (with_output s out)) (append-nil s.output)
acted_is o s n h regions rows c LeaksWord eu f = ap (λ out. acted o n h to.Leaks (with_output s out)) (append-nil s.output)

length_map : {A B : Type 0} (f : A → B) (xs : List A) → length (map f xs) ≡ length xs
length_map f [] = refl
length_map f (x ∷ xs) = ap suc (length_map f xs)

-- what the call came to can be done
pub can_act : (o : Setting) (s : Shuffled) (h : Hart) (out : List ℕ) (d : defined.CallDid) → IsFine o.image → Fits o.image.regions o.image.rows (hart_asks s h) d → CanAct o (with_output s out) (answer_for d)
can_act o s h out (Answers v more) fine f = tt
can_act o s h out (Reads a bytes) fine f = record { writable = f.writable; plain = f.plain; few = f.few }
can_act o s h out (Starts g a0 sp tp) fine f =
    record { func = (fine.rows f.row.0 g f.row.1).0; few = omega (arith, f.few, length_map (λ (x : Hart). x.live) s.harts) }
can_act o s h out (ExitsHart code) fine f = tt
can_act o s h out (ExitsRun code) fine f = tt
can_act o s h out LeaksWord fine f = tt

pub can_do : (o : Setting) (s s1 : Shuffled) (h : Hart) (a : Answer) → IsFine o.image → a ≡ answer_for (call_at o s h) → s1 ≡ with_output s (s.output ++ more_of (call_at o s h)) → CanAct o s1 a
can_do o s s1 h a fine ea es =
    subst (λ x. CanAct o s1 x) (sym ea) (subst (λ x. CanAct o x (answer_for (call_at o s h))) (sym es) (can_act o s h (s.output ++ more_of (call_at o s h)) (call_at o s h) fine (call_fits o.image.regions o.image.rows (hart_asks s h))))

-- the call is the hart's next instruction
pub called : (o : Setting) (s s0 s1 s' : Shuffled) (n : ℕ) (h : Hart) (a : Answer) → slice_get s.harts n ≡ Some h → next_outcome o n s ≡ Calls → s0 ≡ s → a ≡ answer_for (call_at o s0 h) → s1 ≡ with_output s0 (s0.output ++ more_of (call_at o s0 h)) → s' ≡ acted o n h a s1 → s' ≡ shuffled_step o n s
called o s s0 s1 s' n h a e next e0 ea e1 es =
    done_by o n s s' h Calls e next
    (es
    ∙ ap (λ x. acted o n h x s1) ea
    ∙ ap (acted o n h (answer_for (call_at o s0 h))) e1
    ∙ ap (λ (x : Shuffled). acted o n h (answer_for (call_at o x h)) (with_output x (x.output ++ more_of (call_at o x h)))) e0
    ∙ acted_is o s n h o.image.regions o.image.rows (hart_asks s h) (call_at o s h) refl (call_fits o.image.regions o.image.rows (hart_asks s h)))

-- the call that the code asks for is the hart's
pub asks_alike : (c : LiveCode) (m : Held) (r : Request) → IsLive c → IsMapped c.image.now m → call_of (regions_of m) c.image.now.rows r ≡ call_of (setting_of c).image.regions (setting_of c).image.rows r
asks_alike c m r ic im =
    call_alike (regions_of m) c.image.now.regions c.image.now.rows r (reads_alike c.image.now m im) (writes_alike c.image.now m im)

abbrev asked : (number a0 a1 a2 a3 hart : ℕ) → List Bool → (ℕ → Option ℕ) → (unread : List ℕ) → Request
asked number a0 a1 a2 a3 hart lives plain unread =
    record { number = number; a0 = a0; a1 = a1; a2 = a2; a3 = a3; hart = hart; lives = lives; plain = plain; unread = unread }

-- what the code hands over of a machine, a hart and its registers
pub call_is : (c : LiveCode) (st : State) (h : Hart) (hs : List Hart) (rows input out args : List ℕ) → IsLive c → IsMapped c.image.now st.memory → hs ≡ st.harts.items → rows ≡ c.image.now.rows → input ≡ drop st.read c.input.now → slice_index args 7 ≡ slice_index h.regs 17 → slice_index args 0 ≡ slice_index h.regs 10 → slice_index args 1 ≡ slice_index h.regs 11 → slice_index args 2 ≡ slice_index h.regs 12 → slice_index args 3 ≡ slice_index h.regs 13 → called_of h.number args (seen_of hs (regions_of st.memory) (plain_of st.memory) rows input out None None) ≡ call_at (setting_of c) (meant c st) h
call_is c st h hs rows input out args ic im eh er ei e7 e0 e1 e2 e3 =
    let m = regions_of st.memory in
    let p = plain_of st.memory in
    ap (λ (x : List ℕ). call_of m x (asked (slice_index args 7) (slice_index args 0) (slice_index args 1) (slice_index args 2) (slice_index args 3) h.number (lives_of hs) p input)) er
    ∙ ap (λ x. call_of m c.image.now.rows (asked x (slice_index args 0) (slice_index args 1) (slice_index args 2) (slice_index args 3) h.number (lives_of hs) p input)) e7
    ∙ ap (λ x. call_of m c.image.now.rows (asked (slice_index h.regs 17) x (slice_index args 1) (slice_index args 2) (slice_index args 3) h.number (lives_of hs) p input)) e0
    ∙ ap (λ x. call_of m c.image.now.rows (asked (slice_index h.regs 17) (slice_index h.regs 10) x (slice_index args 2) (slice_index args 3) h.number (lives_of hs) p input)) e1
    ∙ ap (λ x. call_of m c.image.now.rows (asked (slice_index h.regs 17) (slice_index h.regs 10) (slice_index h.regs 11) x (slice_index args 3) h.number (lives_of hs) p input)) e2
    ∙ ap (λ x. call_of m c.image.now.rows (asked (slice_index h.regs 17) (slice_index h.regs 10) (slice_index h.regs 11) (slice_index h.regs 12) x h.number (lives_of hs) p input)) e3
    ∙ ap (λ (x : List Hart). call_of m c.image.now.rows (asked (slice_index h.regs 17) (slice_index h.regs 10) (slice_index h.regs 11) (slice_index h.regs 12) (slice_index h.regs 13) h.number (lives_of x) p input)) eh
    ∙ ap (λ (x : List ℕ). call_of m c.image.now.rows (asked (slice_index h.regs 17) (slice_index h.regs 10) (slice_index h.regs 11) (slice_index h.regs 12) (slice_index h.regs 13) h.number (lives_of st.harts.items) p x)) ei
    ∙ asks_alike c st.memory (hart_asks (meant c st) h) ic im
