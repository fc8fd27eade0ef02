-- SPDX-License-Identifier: Apache-2.0
-- What an environment call leaves.
use Rattle.std.proofs.Common.{◌≡◌, ℕ, zero, suc, ◌%◌, ◌+◌, ◌<◌, ◌≤◌, ◌^◌, Bool, true, false, Option, Some, None, List, [], ◌∷◌, ◌++◌, length, take, drop, refl, sym, ap, ◌∙◌, subst, arith, append-nil}
use Rattle.std.specs.Prelude.{map, slice_get, slice_set, slice_index, ◌==◌, ◌&&◌, ◌||◌, nat_lt, is_some, IsSome, if◌then◌else◌}
use Rattle.std.proofs.lemmas.Bool.Decides.{nat_tests}
use Rattle.sh_types.specs.declared.code.Image.{Image}
use Rattle.sh_types.specs.declared.code.Region.{Region}
use Rattle.sh_types.specs.declared.runs.Stored.{Stored}
use Rattle.sh_types.specs.Limits.{most_harts}
use Rattle.sh_machines.specs.Environment as defined
use Rattle.sh_machines.specs.Environment.{Answers, Reads, Starts, ExitsHart, ExitsRun, LeaksWord, Request, answer, failure, read_into, read_call, written_from, write_call, start_at, ended_call, call_of}
use Rattle.sh_machines.specs.Kind.{Asks, kind_at}
use Rattle.sh_machines.specs.Memory.{each_from, readable, writable, byte_of, both_bytes, bytes_from}
use Rattle.sh_machines.specs.Need.{Calls, stored_at}
use Rattle.sh_machines.specs.Tokens.{token_of, row_named}
use Rattle.sh_machines.specs.Unmoved as unmoved
use Rattle.sh_machines.specs.Unmoved.{Content, Unmoved, leaves, set_thread, threads_lose, filled, then_call, thread_asks, unmoved_step}
use Rattle.guest_calls.specs.Answer.{answer_of}
use Rattle.guest_calls.specs.Seen.{Seen, Put, put, after, called as called_of}
use Rattle.guest_calls.specs.Seen as seen
use Rattle.plain_memory.specs.Access.{plain_in}
use Rattle.thread_acts.specs.Done.{meant}
use Rattle.thread_acts.specs.declared.threads.Thread.{Thread}
use Rattle.sh_law.proofs.Lists.{get_map, length_map}
use Rattle.ref_machine.specs.declared.asking.Answer.{Answer}
use Rattle.ref_machine.specs.declared.asking.Answer.TheVariants as to
use Rattle.ref_machine.specs.declared.asking.Begun.{Begun}
use Rattle.ref_machine.specs.declared.asking.Taken.{Taken}
use Rattle.ref_machine.specs.declared.state.State.{State}
use Rattle.ref_machine.specs.Calling.{stored_of, started_of, seen_of, answer_by, answer_for, more_of, call_at, lives_of, CanAct, acted, with_output}
use Rattle.ref_machine.specs.Meant.{IsCode, IsMapped, IsSound, state_of, threads_of}
use Rattle.ref_machine.specs.Next.{IsNext, outcome_of, next_outcome}
use Rattle.ref_machine.proofs.Kept.{OutKept, needs_kept}
use Rattle.ref_machine.proofs.Same.{reads_alike, writes_alike}
use Rattle.ref_machine.proofs.Steps.{done_by}
use Rattle.ref_machine.proofs.Threads.{lives_are}

-- ---- what calls read and start

-- a call that reads: its bytes are the input's next, and can be put there
pub record Readable (regions : List Region) (c : Request) (a : ℕ) (bytes : List ℕ) : Type 0 where
  pub writable : writable regions a (length bytes) ≡ true
  pub plain : IsSome (bytes_from c.plain a (length bytes))
  pub few : length bytes ≤ length c.unread
  pub next : bytes ≡ take (length bytes) c.unread

pub record Startable (rows : List ℕ) (c : Request) (f : ℕ) : Type 0 where
  pub row : (k : ℕ) × (slice_get rows k ≡ Some f)
  pub few : length c.lives < 64

abbrev pub Fits : List Region → List ℕ → Request → defined.CallDid → Type 0
Fits regions rows c (Answers v more) = Unit {0}
Fits regions rows c (Reads a bytes) = Readable regions c a bytes
Fits regions rows c (Starts f a0 sp tp) = Startable rows c f
Fits regions rows c (ExitsHart code) = Unit {0}
Fits regions rows c (ExitsRun code) = Unit {0}
Fits regions rows c LeaksWord = Unit {0}

and_first : (a b : Bool) → (a && b) ≡ true → a ≡ true
and_first a b e = grind arith

and_second : (a b : Bool) → (a && b) ≡ true → b ≡ true
and_second a b e = grind arith

both_true : (a b : Bool) → a ≡ true → b ≡ true → (a && b) ≡ true
both_true a b e f = rw (e, f) refl

each_less : (test : ℕ → Bool) (a n k : ℕ) → k ≤ n → each_from test a n ≡ true → each_from test a k ≡ true
unfolding each_from
each_less test a n zero le e = refl
each_less test a zero (suc k) le e = absurd (omega (arith, le))
each_less test a (suc n) (suc k) le e = both_true (test a) _ (and_first _ _ e) (each_less test (suc a) n k (omega (arith, le)) (and_second _ _ e))

both_some : (x : Option ℕ) (y : Option (List ℕ)) → is_some (both_bytes x y) ≡ (is_some x && is_some y)
both_some None y = refl
both_some (Some b) None = refl
both_some (Some b) (Some bs) = refl

plain_less : (p : ℕ → Option ℕ) (a n k : ℕ) → k ≤ n → is_some (bytes_from p a n) ≡ true → is_some (bytes_from p a k) ≡ true
unfolding bytes_from
plain_less p a n zero le e = refl
plain_less p a zero (suc k) le e = absurd (omega (arith, le))
plain_less p a (suc n) (suc k) le e =
    let q : (is_some (byte_of p a) && is_some (bytes_from p (suc a) n)) ≡ true = sym (both_some (byte_of p a) (bytes_from p (suc a) n)) ∙ e in
    both_some (byte_of p a) (bytes_from p (suc a) k) ∙ both_true (is_some (byte_of p a)) _ (and_first _ _ q) (plain_less p (suc a) n k (omega (arith, le)) (and_second _ _ q))

take_few : (n : ℕ) (xs : List ℕ) → length (take n xs) ≤ n
take_few zero xs = omega arith
take_few (suc n) [] = omega arith
take_few (suc n) (x ∷ xs) = omega (arith, take_few n xs)

take_less : (n : ℕ) (xs : List ℕ) → length (take n xs) ≤ length xs
take_less zero xs = omega arith
take_less (suc n) [] = omega arith
take_less (suc n) (x ∷ xs) = omega (arith, take_less n xs)

pub take_length : (n : ℕ) (xs : List ℕ) → take n xs ≡ take (length (take n xs)) xs
take_length zero xs = refl
take_length (suc n) [] = refl
take_length (suc n) (x ∷ xs) = ap (λ ys. x ∷ ys) (take_length n xs)

reads_fit : (regions : List Region) (rows : List ℕ) (c : Request) → Fits regions rows c (read_call regions c)
unfolding writable
reads_fit regions rows c = by (c.a0 == 0) (c.a2 == 0) (writable regions c.a1 c.a2) refl (bytes_from c.plain c.a1 c.a2) refl
  where
    by : (b d w : Bool) → writable regions c.a1 c.a2 ≡ w → (p : Option (List ℕ)) → bytes_from c.plain c.a1 c.a2 ≡ p → Fits regions rows c (if b then (if d then answer 0 else if w then read_into c.a1 (take c.a2 c.unread) p else failure 14) else failure 9)
    by false d w ew p ep = tt
    by true true w ew p ep = tt
    by true false false ew p ep = tt
    by true false true ew None ep = tt
    by true false true ew (Some bytes) ep =
        record {
          writable = each_less _ c.a1 c.a2 (length (take c.a2 c.unread)) (take_few c.a2 c.unread) ew;
          plain = plain_less c.plain c.a1 c.a2 (length (take c.a2 c.unread)) (take_few c.a2 c.unread) (ap is_some ep);
          few = take_less c.a2 c.unread;
          next = take_length c.a2 c.unread;
        }

row_there : (rows : List ℕ) (v f : ℕ) → row_named rows v ≡ Some f → (k : ℕ) × (slice_get rows k ≡ Some f)
row_there [] v f e = absurd (cc)
row_there (x ∷ rows) v f e = by (row_there rows v f) (token_of x == v) e
  where
    by : (row_named rows v ≡ Some f → (k : ℕ) × (slice_get rows k ≡ Some f)) → (b : Bool) → (if b then Some x else row_named rows v) ≡ Some f → (k : ℕ) × (slice_get (x ∷ rows) k ≡ Some f)
    by rest true q = (0, q)
    by rest false q = let r = rest q in (suc r.0, r.1)

starts_fit : (regions : List Region) (rows : List ℕ) (c : Request) → Fits regions rows c (start_at (row_named rows c.a0) c)
starts_fit regions rows c = by (row_named rows c.a0) refl (nat_lt (length c.lives) 64) refl
  where
    by : (x : Option ℕ) → row_named rows c.a0 ≡ x → (b : Bool) → nat_lt (length c.lives) 64 ≡ b → Fits regions rows c (start_at x c)
    by None e b eb = tt
    by (Some f) e false eb = rw eb tt
    by (Some f) e true eb = rw eb (record { row = row_there rows c.a0 f e; few = grind (arith, nat_tests) })

writes_fit : (regions : List Region) (rows : List ℕ) (c : Request) → Fits regions rows c (write_call regions c)
writes_fit regions rows c = by ((c.a0 == 1) || (c.a0 == 2)) (c.a2 == 0) (readable regions c.a1 c.a2) (bytes_from c.plain c.a1 c.a2)
  where
    by : (b d r : Bool) (p : Option (List ℕ)) → Fits regions rows c (if b then (if d then answer 0 else if r then written_from c.a2 p else failure 14) else failure 9)
    by false d r p = tt
    by true true r p = tt
    by true false false p = tt
    by true false true None = tt
    by true false true (Some bytes) = tt

ended_fits : (regions : List Region) (rows : List ℕ) (c : Request) (x : Option Bool) → Fits regions rows c (ended_call x)
ended_fits regions rows c None = tt
ended_fits regions rows c (Some true) = tt
ended_fits regions rows c (Some false) = tt

pub call_fits : (regions : List Region) (rows : List ℕ) (c : Request) → Fits regions rows c (call_of regions rows c)
unfolding call_of
call_fits regions rows c = by (c.number == 63) (c.number == 64) (c.number == 93) (c.number == 94) (c.number == 2000) (c.number == 2001) (c.number == 2002)
  where
    by : (b63 b64 b93 b94 b2000 b2001 b2002 : Bool) → Fits regions rows c (if b63 then read_call regions c else if b64 then write_call regions c else if b93 then ExitsHart (c.a0 % 256) else if b94 then ExitsRun (c.a0 % 256) else if b2000 then start_at (row_named rows c.a0) c else if b2001 then ended_call (slice_get c.lives c.a0) else if b2002 then answer c.hart else failure 38)
    by true b64 b93 b94 b2000 b2001 b2002 = reads_fit regions rows c
    by false true b93 b94 b2000 b2001 b2002 = writes_fit regions rows c
    by false false true b94 b2000 b2001 b2002 = tt
    by false false false true b2000 b2001 b2002 = tt
    by false false false false true b2001 b2002 = starts_fit regions rows c
    by false false false false false true b2002 = ended_fits regions rows c (slice_get c.lives c.a0)
    by false false false false false false true = tt
    by false false false false false false false = tt

-- what can be read and written is all that a call asks of the regions
pub call_alike : (r r' : List Region) (rows : List ℕ) (c : Request) → readable r ≡ readable r' → writable r ≡ writable r' → call_of r rows c ≡ call_of r' rows c
unfolding call_of
call_alike r r' rows c er ew =
    ap (λ can. if c.number == 63 then (if c.a0 == 0 then (if c.a2 == 0 then answer 0 else if can c.a1 c.a2 then read_into c.a1 (take c.a2 c.unread) (bytes_from c.plain c.a1 c.a2) else failure 14) else failure 9) else if c.number == 64 then write_call r c else if c.number == 93 then ExitsHart (c.a0 % 256) else if c.number == 94 then ExitsRun (c.a0 % 256) else if c.number == 2000 then start_at (row_named rows c.a0) c else if c.number == 2001 then ended_call (slice_get c.lives c.a0) else if c.number == 2002 then answer c.hart else failure 38) ew
    ∙ ap (λ can. if c.number == 63 then read_call r' c else if c.number == 64 then (if (c.a0 == 1) || (c.a0 == 2) then (if c.a2 == 0 then answer 0 else if can c.a1 c.a2 then written_from c.a2 (bytes_from c.plain c.a1 c.a2) else failure 14) else failure 9) else if c.number == 93 then ExitsHart (c.a0 % 256) else if c.number == 94 then ExitsRun (c.a0 % 256) else if c.number == 2000 then start_at (row_named rows c.a0) c else if c.number == 2001 then ended_call (slice_get c.lives c.a0) else if c.number == 2002 then answer c.hart else failure 38) er

-- ---- what was kept is what the call did

none_taken : (t : Option Taken) → stored_of t ≡ [] → t ≡ None
none_taken None e = refl
none_taken (Some t) e = absurd (cc)

none_begun : (b : Option Begun) → started_of b ≡ [] → b ≡ None
none_begun None e = refl
none_begun (Some b) e = absurd (cc)

abbrev first_range : List Put → Stored
first_range [] = stored_at 0 0
first_range (p ∷ ps) = p.range

abbrev first_begun : List seen.Begun → seen.Begun
first_begun [] = record { by = 0; func = 0; a0 = 0; sp = 0; tp = 0 }
first_begun (b ∷ bs) = b

abbrev starting : seen.Begun → Answer
starting b = to.Starts b.func b.a0 b.sp b.tp

answer_none : (n : ℕ) (d : defined.CallDid) (t : Option Taken) (b : Option Begun) → t ≡ None → b ≡ None → answer_by (answer_of n d) t b ≡ answer_by (answer_of n d) None None
answer_none n d t b et eb = ap (λ x. answer_by (answer_of n d) x b) et ∙ ap (answer_by (answer_of n d) None) eb

pub told : (hart n : ℕ) (d : defined.CallDid) (ts ts' : List Thread) (regions regions' : List Region) (plain plain' : ℕ → Option ℕ) (rows rows' input input' out out' : List ℕ) (t : Option Taken) (b : Option Begun) → seen_of ts' regions' plain' rows' input' out' t b ≡ after hart d (seen_of ts regions plain rows input out None None) → answer_by (answer_of n d) t b ≡ answer_for d
told hart n (Answers v more) ts ts' regions regions' plain plain' rows rows' input input' out out' t b e =
    answer_none n (Answers v more) t b (none_taken t (ap (λ (s : Seen). s.stored) e)) (none_begun b (ap (λ (s : Seen). s.started) e))
told hart n (Reads a bytes) ts ts' regions regions' plain plain' rows rows' input input' out out' t b e = by t (ap (λ (s : Seen). s.stored) e)
  where
    by : (t : Option Taken) → stored_of t ≡ put hart a (length bytes) ∷ [] → answer_by (answer_of n (Reads a bytes)) t b ≡ to.Reads a (length bytes)
    by None q = absurd (cc)
    by (Some t) q = ap (λ (ps : List Put). to.Reads (first_range ps).address (first_range ps).length) q
told hart n (Starts f a0 sp tp) ts ts' regions regions' plain plain' rows rows' input input' out out' t b e = ap (λ x. answer_by (answer_of n (Starts f a0 sp tp)) x b) (none_taken t (ap (λ (s : Seen). s.stored) e)) ∙ by b (ap (λ (s : Seen). s.started) e)
  where
    by : (b : Option Begun) → started_of b ≡ record { by = hart; func = f; a0 = a0; sp = sp; tp = tp } ∷ [] → answer_by (answer_of n (Starts f a0 sp tp)) None b ≡ to.Starts f a0 sp tp
    by None q = absurd (cc)
    by (Some b) q = ap (λ (bs : List seen.Begun). starting (first_begun bs)) q
told hart n (ExitsHart code) ts ts' regions regions' plain plain' rows rows' input input' out out' t b e = refl
told hart n (ExitsRun code) ts ts' regions regions' plain plain' rows rows' input input' out out' t b e = refl
told hart n LeaksWord ts ts' regions regions' plain plain' rows rows' input input' out out' t b e = refl

pub joined : (hart : ℕ) (d : defined.CallDid) (ts ts' : List Thread) (regions regions' : List Region) (plain plain' : ℕ → Option ℕ) (rows rows' input input' out out' : List ℕ) (t : Option Taken) (b : Option Begun) → seen_of ts' regions' plain' rows' input' out' t b ≡ after hart d (seen_of ts regions plain rows input out None None) → out' ≡ out ++ more_of d
joined hart (Answers v more) ts ts' regions regions' plain plain' rows rows' input input' out out' t b e = ap (λ (s : Seen). s.output) e
joined hart (Reads a bytes) ts ts' regions regions' plain plain' rows rows' input input' out out' t b e = ap (λ (s : Seen). s.output) e ∙ sym (append-nil out)
joined hart (Starts f a0 sp tp) ts ts' regions regions' plain plain' rows rows' input input' out out' t b e = ap (λ (s : Seen). s.output) e ∙ sym (append-nil out)
joined hart (ExitsHart code) ts ts' regions regions' plain plain' rows rows' input input' out out' t b e = ap (λ (s : Seen). s.output) e ∙ sym (append-nil out)
joined hart (ExitsRun code) ts ts' regions regions' plain plain' rows rows' input input' out out' t b e = ap (λ (s : Seen). s.output) e ∙ sym (append-nil out)
joined hart LeaksWord ts ts' regions regions' plain plain' rows rows' input input' out out' t b e = ap (λ (s : Seen). s.output) e ∙ sym (append-nil out)

-- ---- the state that the call leaves

pub acted_is : (u : Unmoved) (n : ℕ) (t : unmoved.Thread) (regions : List Region) (rows : List ℕ) (c : Request) (d : defined.CallDid) → c.unread ≡ u.unread → Fits regions rows c d → acted n t (answer_for d) (with_output u (u.output ++ more_of d)) ≡ then_call u n t d
acted_is u n t regions rows c (Answers v more) eu f = ap (λ out. with_output (leaves u (slice_set u.threads n (set_thread t 10 v)) u.contents u.unread [] None) out) (append-nil (u.output ++ more))
acted_is u n t regions rows c (Reads a bytes) eu f =
    ap (λ bs. leaves (with_output u (u.output ++ [])) (threads_lose n (Some (stored_at a (length bytes))) (slice_set u.threads n (set_thread t 10 (length bytes)))) (filled a bs u.contents) (drop (length bytes) u.unread) [] None) (sym (f.next ∙ ap (take (length bytes)) eu))
    ∙ ap (λ out. leaves (with_output u out) (threads_lose n (Some (stored_at a (length bytes))) (slice_set u.threads n (set_thread t 10 (length bytes)))) (filled a bytes u.contents) (drop (length bytes) u.unread) [] None) (append-nil u.output)
acted_is u n t regions rows c (Starts f a0 sp tp) eu fits = ap (λ out. acted n t (to.Starts f a0 sp tp) (with_output u out)) (append-nil u.output)
acted_is u n t regions rows c (ExitsHart code) eu f = ap (λ out. acted n t (to.ExitsHart code) (with_output u out)) (append-nil u.output)
acted_is u n t regions rows c (ExitsRun code) eu f = ap (λ out. acted n t (to.ExitsRun code) (with_output u out)) (append-nil u.output)
acted_is u n t regions rows c LeaksWord eu f = ap (λ out. acted n t to.Leaks (with_output u out)) (append-nil u.output)

-- what the call came to can be done
can_act : (regions : List Region) (rows : List ℕ) (u : Unmoved) (t : unmoved.Thread) (out : List ℕ) (d : defined.CallDid) → Fits regions rows (thread_asks u t) d → CanAct regions (with_output u out) (answer_for d)
can_act regions rows u t out (Answers v more) f = tt
can_act regions rows u t out (Reads a bytes) f = record { writable = f.writable; plain = f.plain; few = f.few }
can_act regions rows u t out (Starts g a0 sp tp) f = omega (arith, f.few, length_map (λ (x : unmoved.Thread). x.live) u.threads)
can_act regions rows u t out (ExitsHart code) f = tt
can_act regions rows u t out (ExitsRun code) f = tt
can_act regions rows u t out LeaksWord f = tt

pub can_do : (i : Image) (regions : List Region) (u u' : Unmoved) (t : unmoved.Thread) (a : Answer) → IsMapped i regions → a ≡ answer_for (call_at i u t) → u' ≡ with_output u (u.output ++ more_of (call_at i u t)) → CanAct regions u' a
can_do i regions u u' t a im ea es =
    let same : call_of regions i.rows (thread_asks u t) ≡ call_at i u t = call_alike regions i.regions i.rows (thread_asks u t) (reads_alike i regions im) (writes_alike i regions im) in
    let fits : Fits regions i.rows (thread_asks u t) (call_at i u t) = subst (Fits regions i.rows (thread_asks u t)) same (call_fits regions i.rows (thread_asks u t)) in
    subst (λ x. CanAct regions u' x) (sym ea) (subst (λ x. CanAct regions x (answer_for (call_at i u t))) (sym es) (can_act regions i.rows u t (u.output ++ more_of (call_at i u t)) (call_at i u t) fits))

-- the call is the hart's next instruction
pub called : (i : Image) (n : ℕ) (s : State) (x : ℕ → Content) (u1 u' : Unmoved) (t : Thread) (a : Answer) → IsNext i n Calls (state_of s x) → slice_get s.threads.items n ≡ Some t → a ≡ answer_for (call_at i (state_of s x) (meant t)) → u1 ≡ with_output (state_of s x) (s.output.items ++ more_of (call_at i (state_of s x) (meant t))) → u' ≡ acted n (meant t) a u1 → u' ≡ unmoved_step i n (state_of s x)
called i n s x u1 u' t a next e ea e1 es =
    let u : Unmoved = state_of s x in
    done_by i n u u' (meant t) Calls next.can (get_map meant s.threads.items n t e) next.comes
    (es
    ∙ ap (λ y. acted n (meant t) y u1) ea
    ∙ ap (acted n (meant t) (answer_for (call_at i u (meant t)))) e1
    ∙ acted_is u n (meant t) i.regions i.rows (thread_asks u (meant t)) (call_at i u (meant t)) refl (call_fits i.regions i.rows (thread_asks u (meant t))))

-- behind it there is an offset
pub call_low : (i : Image) (n : ℕ) (s : State) (x : ℕ → Content) (t : Thread) → IsCode i → IsNext i n Calls (state_of s x) → slice_get s.threads.items n ≡ Some t → t.at.off + 4 < 2 ^ 32
call_low i n s x t ic next e =
    let there : next_outcome i n (state_of s x) ≡ outcome_of i x (Some (meant t)) = ap (λ y. outcome_of i x y) (get_map meant s.threads.items n t e) in
    ic.low t.at (subst (OutKept (kind_at i t.at) (meant t)) (sym there ∙ next.comes) (needs_kept i (meant t) x))

-- ---- what the code hands over

abbrev asked : (number a0 a1 a2 a3 hart : ℕ) → List Bool → (ℕ → Option ℕ) → (unread : List ℕ) → Request
asked number a0 a1 a2 a3 hart lives plain unread =
    record { number = number; a0 = a0; a1 = a1; a2 = a2; a3 = a3; hart = hart; lives = lives; plain = plain; unread = unread }

-- of a machine, a hart and its registers
pub call_is : (i : Image) (s : State) (x : ℕ → Content) (regions : List Region) (t : Thread) (ts : List Thread) (rows input out args : List ℕ) → IsMapped i regions → ts ≡ s.threads.items → rows ≡ i.rows → input ≡ drop s.read s.input → slice_index args 7 ≡ slice_index t.regs 17 → slice_index args 0 ≡ slice_index t.regs 10 → slice_index args 1 ≡ slice_index t.regs 11 → slice_index args 2 ≡ slice_index t.regs 12 → slice_index args 3 ≡ slice_index t.regs 13 → called_of t.number args (seen_of ts regions (plain_in x) rows input out None None) ≡ call_at i (state_of s x) (meant t)
call_is i s x regions t ts rows input out args im et er ei e7 e0 e1 e2 e3 =
    let p = plain_in x in
    ap (λ (r : List ℕ). call_of regions r (asked (slice_index args 7) (slice_index args 0) (slice_index args 1) (slice_index args 2) (slice_index args 3) t.number (lives_of ts) p input)) er
    ∙ ap (λ r. call_of regions i.rows (asked r (slice_index args 0) (slice_index args 1) (slice_index args 2) (slice_index args 3) t.number (lives_of ts) p input)) e7
    ∙ ap (λ r. call_of regions i.rows (asked (slice_index t.regs 17) r (slice_index args 1) (slice_index args 2) (slice_index args 3) t.number (lives_of ts) p input)) e0
    ∙ ap (λ r. call_of regions i.rows (asked (slice_index t.regs 17) (slice_index t.regs 10) r (slice_index args 2) (slice_index args 3) t.number (lives_of ts) p input)) e1
    ∙ ap (λ r. call_of regions i.rows (asked (slice_index t.regs 17) (slice_index t.regs 10) (slice_index t.regs 11) r (slice_index args 3) t.number (lives_of ts) p input)) e2
    ∙ ap (λ r. call_of regions i.rows (asked (slice_index t.regs 17) (slice_index t.regs 10) (slice_index t.regs 11) (slice_index t.regs 12) r t.number (lives_of ts) p input)) e3
    ∙ ap (λ (r : List Bool). call_of regions i.rows (asked (slice_index t.regs 17) (slice_index t.regs 10) (slice_index t.regs 11) (slice_index t.regs 12) (slice_index t.regs 13) t.number r p input)) (ap lives_of et ∙ sym (lives_are s.threads.items))
    ∙ ap (λ (r : List ℕ). call_of regions i.rows (asked (slice_index t.regs 17) (slice_index t.regs 10) (slice_index t.regs 11) (slice_index t.regs 12) (slice_index t.regs 13) t.number (map (λ (y : unmoved.Thread). y.live) (threads_of s.threads.items)) p r)) ei
    ∙ call_alike regions i.regions i.rows (thread_asks (state_of s x) (meant t)) (reads_alike i regions im) (writes_alike i regions im)
