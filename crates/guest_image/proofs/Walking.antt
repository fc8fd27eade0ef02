-- SPDX-License-Identifier: Apache-2.0
-- From what walks answer, function by function, to the first function that is refused, or the rows of all.
use Rattle.std.proofs.Common.{◌≡◌, ℕ, zero, suc, ◌+◌, ◌<◌, ◌≤◌, Option, Some, None, List, [], ◌∷◌, ◌++◌, length, drop, map, refl, sym, ap, ◌∙◌, subst, arith, add-one, length-append}
use Rattle.std.specs.Prelude.{◌==◌, IfOk, IfErr, Result, Ok, Err, slice_index_or}
use Rattle.std.specs.List.{AllZip, range_with_len}
use Rattle.sh_types.specs.declared.code.FrameState.{FrameState}
use Rattle.sh_types.specs.declared.code.FrameTable.{FrameTable}
use Rattle.sh_types.specs.declared.code.Function.{Function}
use Rattle.sh_types.specs.declared.code.Image.{Image}
use Rattle.sh_types.specs.declared.code.Rule.{Rule}
use Rattle.sh_types.specs.declared.relocs.Reloc.{Reloc}
use Rattle.elf_rules.specs.declared.refusals.LoadFault.{LoadFault}
use Rattle.elf_rules.specs.declared.refusals.LoadFault.TheVariants as load
use Rattle.elf_rules.specs.Bindable.{Passes, Stops, or_later}
use Rattle.frame_tables.specs.declared.refusals.FrameNo.{FrameNo}
use Rattle.frame_tables.specs.declared.refusals.FrameNo.TheVariants.{NoMemory, Refused}
use Rattle.frame_tables.specs.Answers.{IsAccepted, IsCause}
use Rattle.image_rules.specs.Framed.{answer_in, first_refused, frames_from, function_refusal, refused, rows_in, walk_refusal}
use Rattle.image_rules.specs.Refusals.{record_refusal, refusal_or}
use Rattle.sh_machines.specs.Grammar.{Body, answer_of}
use Rattle.guest_image.specs.Records.{AreFirst, Refusal, first_at, no_function}
use Rattle.guest_image.specs.Walks.{IsFrame, IsFrameOf, all_found, fault_in, fault_of, first_fault, noted_refusal}

-- ---- one function

pub frame_is : (b : Body) (r : Result FrameTable FrameNo) → IfOk r (λ t. IsAccepted b t.rows) → IfErr r (λ why. IsCause b why) → IsFrame (walk_refusal (answer_of b)) (rows_in (answer_of b)) r
frame_is b (Ok t) accepted cause = (ap walk_refusal accepted.walk, ap (λ (rows : List (Option FrameState)). record { rows = rows }) (sym (ap rows_in accepted.walk)))
frame_is b (Err NoMemory) accepted cause = tt
frame_is b (Err (Refused off rule)) accepted cause = ap walk_refusal cause.walk ∙ ap (λ (o : ℕ). Some (o, rule)) (sym cause.place)

-- ---- all functions, from function f on

abbrev AreFrames : Image → List Reloc → ℕ → List Function → List (Result FrameTable FrameNo) → Type 0
AreFrames i relocs f [] [] = Unit {0}
AreFrames i relocs f [] (r ∷ rs) = ⊥
AreFrames i relocs f (g ∷ gs) [] = ⊥
AreFrames i relocs f (g ∷ gs) (r ∷ rs) = IsFrame (function_refusal i relocs f g) (rows_in (answer_in i f)) r × AreFrames i relocs (suc f) gs rs

module _ (i : Image) (relocs : List Reloc) where
  ok_cons : (t : FrameTable) (ts : List FrameTable) (r : Result FrameTable FrameNo) (rs : List (Result FrameTable FrameNo)) → all_found (t ∷ ts) ≡ r ∷ rs → (Ok t ≡ r) × (all_found ts ≡ rs)
  ok_cons t ts r rs e = (cc, cc)

  passed : (f : ℕ) (gs : List Function) (ts : List FrameTable) (rs : List (Result FrameTable FrameNo)) → AreFrames i relocs f gs rs → all_found ts ≡ rs → (first_refused i relocs f gs ≡ None) × (ts ≡ frames_from i f gs)
  passed f [] [] [] h e = (refl, refl)
  passed f [] (t ∷ ts) [] h e = absurd (cc)
  passed f [] ts (r ∷ rs) h e = absurd h
  passed f (g ∷ gs) ts [] h e = absurd h
  passed f (g ∷ gs) [] (r ∷ rs) h e = absurd (cc)
  passed f (g ∷ gs) (t ∷ ts) (r ∷ rs) h e =
      let same = ok_cons t ts r rs e in
      let rest = passed (suc f) gs ts rs h.1 same.1 in
      let here = subst (λ x. IsFrame (function_refusal i relocs f g) (rows_in (answer_in i f)) x) (sym same.0) h.0 in (
        ap (λ o. or_later (refused f g o) (first_refused i relocs (suc f) gs)) here.0 ∙ rest.0,
        ap (λ (u : FrameTable). u ∷ ts) here.1 ∙ ap (λ us. record { rows = rows_in (answer_in i f) } ∷ us) rest.1,
      )

  same_fault : (f : ℕ) (gs : List Function) (rs : List (Result FrameTable FrameNo)) (fault : LoadFault) → AreFrames i relocs f gs rs → (fault ≡ load.NoMemory → ⊥) → first_fault f gs rs ≡ Some fault → first_refused i relocs f gs ≡ Some fault
  same_fault f [] rs fault h other e = absurd (cc)
  same_fault f (g ∷ gs) [] fault h other e = absurd h
  same_fault f (g ∷ gs) (Ok t ∷ rs) fault h other e =
      ap (λ o. or_later (refused f g o) (first_refused i relocs (suc f) gs)) h.0.0 ∙ same_fault (suc f) gs rs fault h.1 other e
  same_fault f (g ∷ gs) (Err NoMemory ∷ rs) fault h other e = absurd (other (cc))
  same_fault f (g ∷ gs) (Err (Refused off rule) ∷ rs) fault h other e =
      ap (λ o. or_later (refused f g o) (first_refused i relocs (suc f) gs)) h.0 ∙ e

  stops : (f : ℕ) (gs : List Function) (rs : List (Result FrameTable FrameNo)) (fault : LoadFault) → AreFrames i relocs f gs rs → Stops fault (first_fault f gs rs) → Stops fault (first_refused i relocs f gs)
  stops f gs rs load.NoMemory h e = tt
  stops f gs rs (load.Elf rule) h e = same_fault f gs rs (load.Elf rule) h (λ n. cc) e
  stops f gs rs (load.Limit kind value) h e = same_fault f gs rs (load.Limit kind value) h (λ n. cc) e
  stops f gs rs (load.Split home rule) h e = same_fault f gs rs (load.Split home rule) h (λ n. cc) e
  stops f gs rs (load.Mismatch place kind found expected) h e = same_fault f gs rs (load.Mismatch place kind found expected) h (λ n. cc) e
  stops f gs rs (load.Refused func name off rule) h e = same_fault f gs rs (load.Refused func name off rule) h (λ n. cc) e

-- ---- from what is noted of records and from walks

head_of : (f : ℕ) (g : Function) (gs fs : List Function) → g ∷ gs ≡ drop f fs → (f < length fs) × (slice_index_or fs f no_function ≡ g) × (gs ≡ drop (suc f) fs)
head_of zero g gs [] e = absurd (cc)
head_of (suc f) g gs [] e = absurd (cc)
head_of zero g gs (h ∷ hs) e = (omega arith, cc, cc)
head_of (suc f) g gs (h ∷ hs) e = let rest = head_of f g gs hs e in (omega (arith, rest.0), rest.1, rest.2)

module _ (i : Image) (relocs : List Reloc) (noted : List Refusal) (first : AreFirst i.functions i.entry relocs noted) where
  here : (f : ℕ) (g : Function) → f < length i.functions → slice_index_or i.functions f no_function ≡ g → noted_refusal i noted f ≡ function_refusal i relocs f g
  unfolding function_refusal
  here f g l e =
      ap (λ o. refusal_or o (walk_refusal (answer_in i f))) (first.each f l ∙ ap (λ (h : Function). record_refusal (f == i.entry) h relocs) e)

  pub are_frames : (f : ℕ) (gs : List Function) (rs : List (Result FrameTable FrameNo)) → gs ≡ drop f i.functions → AllZip (IsFrameOf i noted) (range_with_len f (length gs)) rs → AreFrames i relocs f gs rs
  are_frames f [] [] e h = tt
  are_frames f [] (r ∷ rs) e h = absurd h
  are_frames f (g ∷ gs) [] e h = absurd h
  are_frames f (g ∷ gs) (r ∷ rs) e h =
      let at = head_of f g gs i.functions e in (
        subst (λ o. IsFrame o (rows_in (answer_in i f)) r) (here f g at.0 at.1) h.0,
        are_frames (suc f) gs rs at.2 (rw (add-one f) at h.1),
      )

  pub frames_pass : (result : Result (List FrameTable) LoadFault) (found : List (Result FrameTable FrameNo)) → AllZip (IsFrameOf i noted) (range_with_len 0 (length i.functions)) found → Passes result (first_fault 0 i.functions found) (λ tables. all_found tables ≡ found) → Passes result (first_refused i relocs 0 i.functions) (λ tables. tables ≡ frames_from i 0 i.functions)
  frames_pass (Ok tables) found h e = passed i relocs 0 i.functions tables found (are_frames 0 i.functions found refl h) e.1
  frames_pass (Err fault) found h e = stops i relocs 0 i.functions found fault (are_frames 0 i.functions found refl h) e

-- the same, where lists are known by equations
pub gathers : (i : Image) (relocs : List Reloc) (functions : List Function) (items noted : List Refusal) (found : List (Result FrameTable FrameNo)) (result : Result (List FrameTable) LoadFault) → functions ≡ i.functions → items ≡ noted → AreFirst functions i.entry relocs noted → AllZip (IsFrameOf i items) (range_with_len 0 (length i.functions)) found → Passes result (first_fault 0 functions found) (λ tables. all_found tables ≡ found) → Passes result (first_refused i relocs 0 i.functions) (λ tables. tables ≡ frames_from i 0 i.functions)
gathers i relocs functions items noted found result same is first each pass =
    frames_pass i relocs noted (subst (λ fs. AreFirst fs i.entry relocs noted) same first) result found
    (subst (λ ns. AllZip (IsFrameOf i ns) (range_with_len 0 (length i.functions)) found) is each)
    (subst (λ fs. Passes result (first_fault 0 fs found) (λ (tables : List FrameTable). all_found tables ≡ found)) same pass)

pub length_each : (P : ℕ → Result FrameTable FrameNo → Type 0) (from n : ℕ) (found : List (Result FrameTable FrameNo)) → AllZip P (range_with_len from n) found → length found ≡ n
length_each P from zero [] h = refl
length_each P from zero (r ∷ rs) h = absurd h
length_each P from (suc n) [] h = absurd h
length_each P from (suc n) (r ∷ rs) h = ap suc (length_each P (from + 1) n rs h.1)

-- ---- gathering

split_at : (f : ℕ) (fs : List Function) → f < length fs → drop f fs ≡ slice_index_or fs f no_function ∷ drop (suc f) fs
split_at f [] l = absurd (omega (arith, l))
split_at zero (g ∷ gs) l = refl
split_at (suc f) (g ∷ gs) l = split_at f gs (omega (arith, l))

-- one function more has rows
pub found_here : (f : ℕ) (fs : List Function) (t : FrameTable) (rest : List (Result FrameTable FrameNo)) → f < length fs → first_fault f (drop f fs) (Ok t ∷ rest) ≡ first_fault (f + 1) (drop (f + 1) fs) rest
found_here f fs t rest l =
    ap (λ gs. first_fault f gs (Ok t ∷ rest)) (split_at f fs l) ∙ ap (λ k. first_fault k (drop k fs) rest) (sym (add-one f))

-- one has none
pub stops_here : (f : ℕ) (fs : List Function) (g : Function) (why : FrameNo) (rest : List (Result FrameTable FrameNo)) (fault : LoadFault) (first : Option LoadFault) → f < length fs → g ≡ slice_index_or fs f no_function → first_fault f (drop f fs) (Err why ∷ rest) ≡ first → Stops fault (Some (fault_of f g why)) → Stops fault first
stops_here f fs g why rest fault first l is e stop =
    let here : Some (fault_of f g why) ≡ first = ap (λ (h : Function). Some (fault_of f h why)) is ∙ sym (ap (λ gs. first_fault f gs (Err why ∷ rest)) (split_at f fs l)) ∙ e in
    subst (Stops fault) here stop

-- the frames that were gathered, before what is left
length_found : (frames : List FrameTable) → length (all_found frames) ≡ length frames
length_found [] = refl
length_found (t ∷ ts) = ap suc (length_found ts)

pub room_left : (frames : List FrameTable) (one : Result FrameTable FrameNo) (items rest all : List (Result FrameTable FrameNo)) (n : ℕ) → all_found frames ++ items ≡ all → items ≡ one ∷ rest → length all ≡ n → length frames < n
room_left frames one items rest all n e is long =
    let total = ap length e in
    let sum = length-append (all_found frames) items in
    let left : length items ≡ suc (length rest) = ap length is in
    let many = length_found frames in
    omega (arith, total, sum, left, many, long)

pub gathered_more : (frames : List FrameTable) (t : FrameTable) (one : Result FrameTable FrameNo) (items rest all : List (Result FrameTable FrameNo)) → all_found frames ++ items ≡ all → items ≡ one ∷ rest → one ≡ Ok t → all_found (frames ++ t ∷ []) ++ rest ≡ all
gathered_more [] t one items rest all e is found = cc
gathered_more (u ∷ us) t one items rest [] e is found = absurd (cc)
gathered_more (u ∷ us) t one items rest (r ∷ rs) e is found =
    let head : Ok u ≡ r = cc in
    let tail : all_found us ++ items ≡ rs = cc in
    ap (λ x. x ∷ all_found (us ++ t ∷ []) ++ rest) head ∙ ap (λ xs. r ∷ xs) (gathered_more us t one items rest rs tail is found)

pub first_more : (fs : List Function) (frames : List FrameTable) (t : FrameTable) (one : Result FrameTable FrameNo) (items rest : List (Result FrameTable FrameNo)) (first : Option LoadFault) → length frames < length fs → items ≡ one ∷ rest → one ≡ Ok t → first_fault (length frames) (drop (length frames) fs) items ≡ first → first_fault (length (frames ++ t ∷ [])) (drop (length (frames ++ t ∷ [])) fs) rest ≡ first
first_more fs frames t one items rest first l is found e =
    let long : length (frames ++ t ∷ []) ≡ length frames + 1 = length-append frames (t ∷ []) in
    let here : items ≡ Ok t ∷ rest = cc in
    ap (λ k. first_fault k (drop k fs) rest) long ∙ sym (found_here (length frames) fs t rest l) ∙ sym (ap (first_fault (length frames) (drop (length frames) fs)) here) ∙ e

pub nothing_after : (f : ℕ) (gs : List Function) → first_fault f gs [] ≡ None
nothing_after f [] = refl
nothing_after f (g ∷ gs) = refl

-- ---- numbers in order

pub each_more : (P : ℕ → Result FrameTable FrameNo → Type 0) (from n : ℕ) (found : List (Result FrameTable FrameNo)) (one : Result FrameTable FrameNo) → AllZip P (range_with_len from n) found → P (from + n) one → AllZip P (range_with_len from (n + 1)) (found ++ one ∷ [])
each_more P from n found one h p = rw (add-one n) (more from n found h p)
  where
    more : (from n : ℕ) (found : List (Result FrameTable FrameNo)) → AllZip P (range_with_len from n) found → P (from + n) one → AllZip P (range_with_len from (suc n)) (found ++ one ∷ [])
    more from zero [] h p = (let e : from + 0 ≡ from = omega arith in subst (λ k. P k one) e p, tt)
    more from zero (r ∷ rs) h p = absurd h
    more from (suc n) [] h p = absurd h
    more from (suc n) (r ∷ rs) h p = (h.0, more (from + 1) n rs h.1 (let e : from + suc n ≡ from + 1 + n = omega arith in subst (λ k. P k one) e p))
