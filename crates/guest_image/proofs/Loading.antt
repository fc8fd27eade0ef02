-- SPDX-License-Identifier: Apache-2.0
-- What is known of a bound file, and the image that it becomes.
use Rattle.std.proofs.Common.{◌≡◌, ℕ, zero, suc, ◌+◌, ◌*◌, ◌^◌, ◌<◌, ◌≤◌, Option, Some, None, List, [], ◌∷◌, length, refl, sym, ap, ◌∙◌, subst, arith}
use Rattle.std.specs.Prelude.{IfOk, Result, Ok, Err, slice_get, slice_index_or}
use Rattle.std.specs.List.Sorted.{IsNonDecreasingBy}
use Rattle.sh_types.specs.declared.code.FrameTable.{FrameTable}
use Rattle.sh_types.specs.declared.code.Function.{Function}
use Rattle.sh_types.specs.declared.code.Image.{Image}
use Rattle.sh_types.specs.declared.code.Pair.{Pair}
use Rattle.sh_types.specs.declared.code.Rule.{Rule}
use Rattle.sh_types.specs.declared.code.Site.{Site}
use Rattle.sh_types.specs.declared.relocs.Reloc.{Reloc}
use Rattle.sh_types.specs.Image.{sizes_of}
use Rattle.sh_types.specs.Limits.{image_end, most_code, most_functions}
use Rattle.elf_rules.specs.declared.refusals.LoadFault.{LoadFault}
use Rattle.elf_rules.specs.declared.refusals.LoadFault.TheVariants as load
use Rattle.elf_rules.specs.Bindable.{IsBindable, Passes, Stops, binding_refusal, file_functions, loaded_image, or_later}
use Rattle.elf_rules.specs.Coded.{IsCoded}
use Rattle.elf_rules.specs.Relocs.{relocs_of}
use Rattle.fn_lookup.specs.Apart.{AreApart, home_in}
use Rattle.fn_sites.specs.Index.{Tells}
use Rattle.image_binding.specs.declared.bound.BoundFile.{BoundFile}
use Rattle.image_binding.specs.Binds.{IsBoundFile}
use Rattle.image_rules.specs.Bound.{bound_image, bound_parts, classes_of, sites_from, with_sites}
use Rattle.image_rules.specs.Framed.{AllFit, all_literals, first_refused, framed_image, frames_from, function_refusal, refusal_of, refused, with_frames, with_literals}
use Rattle.sh_machines.specs.Class.{Source, source_of}
use Rattle.sh_machines.specs.Grammar.{StaysInside, body_of}
use Rattle.guest_image.specs.Literals.{IsFramable, IsFramedFile, framed}
use Rattle.guest_image.specs.Walks.{IsWalkable}

-- ---- a bound image can be walked

apart : (i : Image) → IsCoded i → AreApart i.functions
unfolding sizes_of
apart i coded = record {
  few = omega (arith, coded.few);
  rise = λ j k l m. let end = coded.apart j k l m in let some = coded.filled j (omega (arith, l, m)) in omega (arith, end, some);
  apart = coded.apart;
}

length_sites : (source : ℕ → Source) (j : ℕ) (fs : List Function) → length (sites_from source j fs) ≡ length fs
length_sites source j [] = refl
length_sites source j (f ∷ fs) = ap suc (length_sites source (suc j) fs)

many_sites : (b : List ℕ) → length (bound_image b).sites ≡ length (bound_image b).functions
unfolding bound_image with_sites bound_parts loaded_image
many_sites b = length_sites (source_of (bound_parts b (file_functions b) (relocs_of b)) (relocs_of b)) 0 (file_functions b)

module _ (b : List ℕ) (coded : IsCoded (bound_image b))
    (words : (f : ℕ) → f < length (bound_image b).functions → 4 * length (slice_index_or (bound_image b).words f []) ≤ most_code)
    (sites : (f : ℕ) → f < length (bound_image b).functions → length (slice_index_or (bound_image b).sites f []) ≡ length (slice_index_or (bound_image b).words f []))
    (inside : (f : ℕ) → f < length (bound_image b).functions → StaysInside (body_of (bound_image b) f))
    (labels : IsNonDecreasingBy (λ (q : Pair). q.func) (bound_image b).labels) where
  walkable : IsWalkable (bound_image b)
  walkable = record {
    apart = apart (bound_image b) coded;
    words = coded.many;
    sites = many_sites b;
    small = λ f l. let few = words f l in omega (arith, few);
    classed = sites;
    inside = inside;
    rising = labels;
  }

  ends_low : (f : ℕ) → f < length (bound_image b).functions → home_in (bound_image b).functions f + 4 * length (slice_index_or (bound_image b).words f []) < 2 ^ 64
  ends_low f l = let end = coded.low f l in let size = coded.words f l in omega (arith, end, size)

  low : (file : BoundFile) → IsBoundFile b file → (f : ℕ) → f < length file.image.functions → home_in file.image.functions f + 4 * length (slice_index_or file.image.words f []) < 2 ^ 64
  low file is = subst (λ (i : Image). (f : ℕ) → f < length i.functions → home_in i.functions f + 4 * length (slice_index_or i.words f []) < 2 ^ 64) (sym is.image) ends_low

  tells : (file : BoundFile) → IsBoundFile b file → Tells file.index file.relocs file.image.labels
  tells file is =
      subst (λ (relocs : List Reloc). Tells file.index relocs file.image.labels) (sym is.relocs)
      (subst (λ (i : Image). Tells file.index (relocs_of b) i.labels) (sym is.image) is.index)

  pub framable : (file : BoundFile) → IsBoundFile b file → IsFramable file
  framable file is = record {
    walkable = subst IsWalkable (sym is.image) walkable;
    low = low file is;
    tells = tells file is;
  }

-- ---- refusals

stops_first : (fault : LoadFault) (first later : Option LoadFault) → Stops fault first → Stops fault (or_later first later)
stops_first load.NoMemory first later s = tt
stops_first (load.Elf rule) first later s = ap (λ o. or_later o later) s
stops_first (load.Limit kind value) first later s = ap (λ o. or_later o later) s
stops_first (load.Split home rule) first later s = ap (λ o. or_later o later) s
stops_first (load.Mismatch place kind found expected) first later s = ap (λ o. or_later o later) s
stops_first (load.Refused func name off rule) first later s = ap (λ o. or_later o later) s

-- a file that cannot be bound
pub unbound : (b : List ℕ) (fault : LoadFault) → Stops fault (binding_refusal b) → Stops fault (refusal_of b)
unfolding refusal_of
unbound b fault s = stops_first fault (binding_refusal b) _ s

-- the refusal of a file that can be bound
refusal_is : (b : List ℕ) (file : BoundFile) → IsBindable b → IsBoundFile b file → first_refused file.image file.relocs 0 file.image.functions ≡ refusal_of b
unfolding refusal_of
refusal_is b file bindable is =
    ap (λ (i : Image). first_refused i file.relocs 0 i.functions) is.image
    ∙ ap (λ (relocs : List Reloc). first_refused (bound_image b) relocs 0 (bound_image b).functions) is.relocs
    ∙ ap (λ o. or_later o (first_refused (bound_image b) (relocs_of b) 0 (bound_image b).functions)) (sym bindable)

pub unframed : (b : List ℕ) (file : BoundFile) (fault : LoadFault) → IsBindable b → IsBoundFile b file → Stops fault (first_refused file.image file.relocs 0 file.image.functions) → Stops fault (refusal_of b)
unframed b file fault bindable is s = subst (Stops fault) (refusal_is b file bindable is) s

pub accepted : (b : List ℕ) (file : BoundFile) → IsBindable b → IsBoundFile b file → first_refused file.image file.relocs 0 file.image.functions ≡ None → refusal_of b ≡ None
accepted b file bindable is none = sym (refusal_is b file bindable is) ∙ none

-- ---- no function is refused

first_none : (o later : Option LoadFault) → or_later o later ≡ None → (o ≡ None) × (later ≡ None)
first_none None later e = (refl, e)
first_none (Some refusal) later e = absurd (cc)

not_refused : (f : ℕ) (g : Function) (o : Option (ℕ × Rule)) → refused f g o ≡ None → o ≡ None
not_refused f g None e = refl
not_refused f g (Some r) e = absurd (cc)

fits_from : (i : Image) (relocs : List Reloc) (f k : ℕ) (gs : List Function) (g : Function) → first_refused i relocs f gs ≡ None → slice_get gs k ≡ Some g → function_refusal i relocs (f + k) g ≡ None
fits_from i relocs f k [] g none e = absurd (cc)
fits_from i relocs f zero (h ∷ hs) g none e =
    let here = not_refused f h (function_refusal i relocs f h) (first_none (refused f h (function_refusal i relocs f h)) _ none).0 in
    let same : h ≡ g = cc in
    let at : f ≡ f + 0 = omega arith in
    subst (λ (j : ℕ). function_refusal i relocs j g ≡ None) at (subst (λ (x : Function). function_refusal i relocs f x ≡ None) same here)
fits_from i relocs f (suc k) (h ∷ hs) g none e =
    let at : suc f + k ≡ f + suc k = omega arith in
    subst (λ (j : ℕ). function_refusal i relocs j g ≡ None) at (fits_from i relocs (suc f) k hs g (first_none (refused f h (function_refusal i relocs f h)) _ none).1 e)

all_fit : (i : Image) (relocs : List Reloc) → first_refused i relocs 0 i.functions ≡ None → AllFit i relocs
all_fit i relocs none f g e = let at : 0 + f ≡ f = omega arith in subst (λ (j : ℕ). function_refusal i relocs j g ≡ None) at (fits_from i relocs 0 f i.functions g none e)

pub file_fits : (b : List ℕ) (file : BoundFile) → IsBoundFile b file → first_refused file.image file.relocs 0 file.image.functions ≡ None → AllFit (bound_image b) (relocs_of b)
file_fits b file is none =
    all_fit (bound_image b) (relocs_of b) (sym (ap (λ (i : Image). first_refused i file.relocs 0 i.functions) is.image ∙ ap (λ (relocs : List Reloc). first_refused (bound_image b) relocs 0 (bound_image b).functions) is.relocs) ∙ none)

-- ---- the image

pub image_is : (b : List ℕ) (file : BoundFile) (frames : List FrameTable) (literals : List ℕ) → IsBoundFile b file → frames ≡ frames_from file.image 0 file.image.functions → literals ≡ all_literals (framed file.image frames) file.relocs 0 file.image.functions → record file.image { frames = frames; literals = literals } ≡ framed_image b
unfolding framed_image with_frames with_literals
image_is b file frames literals is rows numbers =
    ap (λ (ns : List ℕ). record file.image { frames = frames; literals = ns }) numbers
    ∙ ap (λ (ts : List FrameTable). record file.image { frames = ts; literals = all_literals (framed file.image ts) file.relocs 0 file.image.functions }) rows
    ∙ ap (λ (relocs : List Reloc). record file.image { frames = frames_from file.image 0 file.image.functions; literals = all_literals (framed file.image (frames_from file.image 0 file.image.functions)) relocs 0 file.image.functions }) is.relocs
    ∙ ap (λ (i : Image). record i { frames = frames_from i 0 i.functions; literals = all_literals (framed i (frames_from i 0 i.functions)) (relocs_of b) 0 i.functions }) is.image

length_frames : (i : Image) (j : ℕ) (gs : List Function) → length (frames_from i j gs) ≡ length gs
length_frames i j [] = refl
length_frames i j (g ∷ gs) = ap suc (length_frames i (suc j) gs)

pub same_length : (file : BoundFile) (frames : List FrameTable) → frames ≡ frames_from file.image 0 file.image.functions → length frames ≡ length file.image.functions
same_length file frames e = ap length e ∙ length_frames file.image 0 file.image.functions

-- what is true of the framed image, where no function is refused
pub of_framed : (P : Image → Type 0) (b : List ℕ) (result : Result Image LoadFault) → Passes result (refusal_of b) (IsFramedFile b) → (AllFit (bound_image b) (relocs_of b) → P (framed_image b)) → IfOk result P
of_framed P b (Ok i) h p = subst P (sym h.1.image) (p h.1.fit)
of_framed P b (Err fault) h p = tt
