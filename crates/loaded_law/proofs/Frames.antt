-- SPDX-License-Identifier: Apache-2.0
-- The rows of a framed image: where no function is refused they are the least that the grammar allows.
use Rattle.std.proofs.Common.{◌≡◌, inl, inr, ℕ, zero, suc, ◌+◌, ◌<◌, ◌≤◌, Option, Some, None, List, [], ◌∷◌, length, refl, ap, ◌∙◌, sym, subst, arith}
use Rattle.std.specs.Prelude.{◌==◌, slice_get, slice_index_or}
use Rattle.std.proofs.lemmas.List.{get_or_past}
use Rattle.std.proofs.lemmas.Option.{slice_get_cases}
use Rattle.sh_types.specs.declared.code.FrameState.{FrameState}
use Rattle.sh_types.specs.declared.code.FrameTable.{FrameTable}
use Rattle.sh_types.specs.declared.code.Function.{Function}
use Rattle.sh_types.specs.declared.code.Image.{Image}
use Rattle.sh_types.specs.declared.code.Rule.{Rule}
use Rattle.sh_types.specs.declared.relocs.Reloc.{Reloc}
use Rattle.sh_types.specs.Image.{no_rows}
use Rattle.elf_rules.specs.Bindable.{IsBindable}
use Rattle.elf_rules.specs.Relocs.{relocs_of}
use Rattle.image_rules.specs.Bound.{bound_image}
use Rattle.image_rules.specs.Framed.{AllFit, answer_in, framed_image, frames_from, function_refusal, rows_in, walk_refusal, with_frames, with_literals}
use Rattle.image_rules.specs.Refusals.{record_refusal, refusal_or}
use Rattle.sh_machines.specs.Grammar.{Body, IsLeastTable, IsOutside, IsRight, answer_of, body_of}
use Rattle.sh_machines.specs.Walk.{Turn, Goes, Ends, Fails}
use Rattle.loaded_law.proofs.Bodies.{answers_right}
use Rattle.loaded_law.proofs.Ending.{ends_long}

-- ---- an answer that is right

pub record IsFitted (b : Body) (rows : List (Option FrameState)) : Type 0 where
  pub least : IsLeastTable b rows
  pub long : length rows ≡ length b.words + 1

fitted : (b : Body) (t : Turn FrameState Rule) → answer_of b ≡ t → IsRight b t → walk_refusal t ≡ None → IsFitted b (rows_in t)
fitted b (Goes w) e right none = absurd right
fitted b (Ends table) e right none = record { least = right; long = ends_long b table e }
fitted b (Fails at rule) e right none = absurd (cc)

outside : (b : Body) (t : Turn FrameState Rule) (refusal : ℕ × Rule) → IsRight b t → walk_refusal t ≡ Some refusal → IsOutside b
outside b (Goes w) refusal right some = absurd right
outside b (Ends table) refusal right some = absurd (cc)
outside b (Fails at rule) refusal right some = right

unrefused : (b : Body) (t : Turn FrameState Rule) → IsRight b t → (IsOutside b → ⊥) → walk_refusal t ≡ None
unrefused b (Goes w) right inside = refl
unrefused b (Ends table) right inside = refl
unrefused b (Fails at rule) right inside = absurd (inside right)

-- ---- no refusal

both_none : (first later : Option (ℕ × Rule)) → refusal_or first later ≡ None → (first ≡ None) × (later ≡ None)
both_none None later e = (refl, e)
both_none (Some refusal) later e = absurd (cc)

none_of : (first later : Option (ℕ × Rule)) → first ≡ None → later ≡ None → refusal_or first later ≡ None
none_of first later e l = ap (λ o. refusal_or o later) e ∙ l

pub no_record : (i : Image) (relocs : List Reloc) → AllFit i relocs → (f : ℕ) (g : Function) → slice_get i.functions f ≡ Some g → record_refusal (f == i.entry) g relocs ≡ None
unfolding function_refusal
no_record i relocs fit f g e = (both_none (record_refusal (f == i.entry) g relocs) (walk_refusal (answer_in i f)) (fit f g e)).0

no_walk : (i : Image) (relocs : List Reloc) → AllFit i relocs → (f : ℕ) (g : Function) → slice_get i.functions f ≡ Some g → walk_refusal (answer_in i f) ≡ None
unfolding function_refusal
no_walk i relocs fit f g e = (both_none (record_refusal (f == i.entry) g relocs) (walk_refusal (answer_in i f)) (fit f g e)).1

-- an element below the length
pub record Found {A : Type 0} (xs : List A) (k : ℕ) : Type 0 where
  pub value : A
  pub there : slice_get xs k ≡ Some value

pub found : {A : Type 0} (xs : List A) (k : ℕ) → k < length xs → Found xs k
found xs k l = elim (slice_get_cases xs k).1 [ inl h ↦ record { value = h.0; there = h.2 } | inr h ↦ absurd (omega (arith, l, h.0)) ]

-- ---- the rows

frame_at : (i : Image) (j f : ℕ) (gs : List Function) → f < length gs → (slice_index_or (frames_from i j gs) f no_rows).rows ≡ rows_in (answer_in i (j + f))
frame_at i j f [] l = absurd (omega (arith, l))
frame_at i j zero (g ∷ gs) l = let e : j ≡ j + 0 = omega arith in ap (λ n. rows_in (answer_in i n)) e
frame_at i j (suc f) (g ∷ gs) l = let e : suc j + f ≡ j + suc f = omega arith in frame_at i (suc j) f gs (omega (arith, l)) ∙ ap (λ n. rows_in (answer_in i n)) e

length_frames : (i : Image) (j : ℕ) (gs : List Function) → length (frames_from i j gs) ≡ length gs
length_frames i j [] = refl
length_frames i j (g ∷ gs) = ap suc (length_frames i (suc j) gs)

rows_at : (b : List ℕ) (f : ℕ) → f < length (bound_image b).functions → (slice_index_or (framed_image b).frames f no_rows).rows ≡ rows_in (answer_in (bound_image b) f)
unfolding framed_image with_frames with_literals
rows_at b f l =
    let e : 0 + f ≡ f = omega arith in frame_at (bound_image b) 0 f (bound_image b).functions l ∙ ap (λ n. rows_in (answer_in (bound_image b) n)) e

pub no_rows_past : (b : List ℕ) (f : ℕ) → length (bound_image b).functions ≤ f → (slice_index_or (framed_image b).frames f no_rows).rows ≡ []
unfolding framed_image with_frames with_literals
no_rows_past b f l =
    let many = length_frames (bound_image b) 0 (bound_image b).functions in
    ap (λ (t : FrameTable). t.rows) (get_or_past (frames_from (bound_image b) 0 (bound_image b).functions) f no_rows (omega (arith, l, many)))

module _ (b : List ℕ) (accepts : IsBindable b) (f : ℕ) (l : f < length (bound_image b).functions) where
  abbrev body : Body
  body = body_of (bound_image b) f

  pub fitted_at : AllFit (bound_image b) (relocs_of b) → IsFitted body (slice_index_or (framed_image b).frames f no_rows).rows
  fitted_at fit =
      let there = found (bound_image b).functions f l in
      subst (IsFitted body) (sym (rows_at b f l)) (fitted body (answer_of body) refl (answers_right b accepts f l) (no_walk (bound_image b) (relocs_of b) fit f there.value there.there))

  pub outside_at : (refusal : ℕ × Rule) → walk_refusal (answer_in (bound_image b) f) ≡ Some refusal → IsOutside body
  outside_at refusal some = outside body (answer_of body) refusal (answers_right b accepts f l) some

  pub unrefused_at : (g : Function) → record_refusal (f == (bound_image b).entry) g (relocs_of b) ≡ None → (IsOutside body → ⊥) → function_refusal (bound_image b) (relocs_of b) f g ≡ None
  unfolding function_refusal
  unrefused_at g none inside =
      none_of (record_refusal (f == (bound_image b).entry) g (relocs_of b)) (walk_refusal (answer_in (bound_image b) f)) none (unrefused body (answer_of body) (answers_right b accepts f l) inside)
