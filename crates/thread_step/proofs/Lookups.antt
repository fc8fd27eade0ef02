-- SPDX-License-Identifier: Apache-2.0
-- What is looked up in the code of an image.
use Rattle.std.proofs.Common.{◌≡◌, ℕ, zero, suc, ◌+◌, ◌*◌, ◌/◌, ◌%◌, ◌<◌, ◌≤◌, ◌^◌, ◌⊎◌, inl, inr, Bool, true, false, Option, Some, None, List, [], ◌∷◌, length, get_or, map, refl, sym, ap, ◌∙◌, subst, arith}
use Rattle.std.specs.Prelude.{◌==◌, IfSome, slice_get, slice_index, slice_index_or}
use Rattle.std.specs.Option.{IfNone}
use Rattle.std.specs.Slice.{IsItemAt}
use denote.Ref.{Bor}
use Rattle.std.proofs.lemmas.Bool.Decides.{nat_tests}
use Rattle.std.proofs.lemmas.Option.{IfSome_then}
use Rattle.std.proofs.lemmas.List.{get_or-map, get_or_past, get_or_read, length-map}
use Rattle.sh_machines.specs.Copy.{literal_number}
use Rattle.sh_machines.specs.Fine.{IsFine}
use Rattle.sh_machines.specs.Tokens.{AreInOrder}
use Rattle.sh_types.specs.declared.code.Function.{Function}
use Rattle.sh_types.specs.declared.code.Image.{Image}
use Rattle.sh_types.specs.declared.code.Pair.{Pair}
use Rattle.sh_types.specs.Image.{sizes_of}
use Rattle.sh_types.specs.Place.{pair}
use Rattle.sh_types.specs.Sized.{IsSized, total}
use Rattle.token_ways.specs.Labels.{RisesByFunc}
use Rattle.thread_step.specs.Listed.{AreListed, AreTasks, IsCode, StandsAt}
use Rattle.thread_step.specs.Numbered.{AreNumbered, IsNumbered, IsWorded}
use Rattle.thread_step.specs.Task.{IsTask}
use Rattle.thread_step.specs.declared.tasks.Task.{Task}
use Rattle.thread_step.specs.declared.tasks.Task.TheVariants.{Illegal}

-- ---- sizes

-- the size of a function that is there, and of one that is not
pub size_got : (image : Image) (fs : List Function) (f : ℕ) (x : Function) → fs ≡ image.functions → x ≡ get_or fs f x → f < length fs → x.size ≡ slice_index (sizes_of image) f
unfolding sizes_of
size_got image fs f x same e lt =
    ap (λ (g : Function). g.size) e ∙ sym (get_or-map (λ (g : Function). g.size) fs f x 0 lt) ∙ ap (λ (gs : List Function). slice_index (map (λ (g : Function). g.size) gs) f) same

pub size_past : (image : Image) (fs : List Function) (f : ℕ) → fs ≡ image.functions → length fs ≤ f → 0 ≡ slice_index (sizes_of image) f
unfolding sizes_of
size_past image fs f same le =
    sym (get_or_past (map (λ (g : Function). g.size) fs) f 0 (omega (arith, le, length-map fs (λ (g : Function). g.size)))) ∙ ap (λ (gs : List Function). slice_index (map (λ (g : Function). g.size) gs) f) same

-- a function with a byte is one of the list
has_bytes : (sizes : List ℕ) (f n : ℕ) → n < slice_index sizes f → f < length sizes
has_bytes [] f n lt = absurd (omega (arith, lt))
has_bytes (s ∷ ss) zero n lt = omega arith
has_bytes (s ∷ ss) (suc f) n lt = let rest = has_bytes ss f n lt in omega (arith, rest)

size_below : (sizes : List ℕ) (f : ℕ) → slice_index sizes f ≤ total sizes
size_below [] f = omega arith
size_below (s ∷ ss) zero = omega arith
size_below (s ∷ ss) (suc f) = let rest = size_below ss f in omega (arith, rest)

-- ---- words

-- the offset of a word is inside its function
pub word_inside : (image : Image) (f o : ℕ) → IsWorded image → o / 4 < length (slice_index_or image.words f []) → o < slice_index (sizes_of image) f
word_inside image f o w lt = omega (arith, lt, w f)

-- the next offset fits
pub next_fits : (sizes : List ℕ) (f o : ℕ) → IsSized sizes → o < slice_index sizes f → o + 4 < 2 ^ 32
next_fits sizes f o s lt = omega (arith, lt, size_below sizes f, s.fits)

-- ---- literals

pub number_found : (image : Image) (numbers : List (List ℕ)) (f o : ℕ) → IsNumbered image numbers → o < slice_index (sizes_of image) f → slice_index (slice_index_or numbers f []) (o / 4) ≡ literal_number image f (o / 4)
number_found image numbers f o n lt =
    let whole = n.sized.whole f in
    (n.listed.each f (has_bytes (sizes_of image) f o lt)).each (o / 4) (omega (arith, lt, whole))

-- ---- tasks

-- what is lent of a list is the element there
lent : {X : Type 0} (xs : List X) (i : ℕ) (d : X) (o : Option (Bor X)) → IsItemAt xs i o → IfSome o (λ x. (i < length xs) × (x.now ≡ get_or xs i d))
lent xs i d None h = tt
lent xs i d (Some x) h = (h.3.0, get_or_read xs i x.now h.3.0 h.1 d)

-- what is lent of the list of a pair's function stands at the pair
pub stands : (tasks : List (List Task)) (list list' : List Task) (p : Pair) (o : Option (Bor Task)) → p.off % 4 ≡ 0 → p.func < length tasks → list ≡ get_or tasks p.func list → list' ≡ list → IsItemAt list' (p.off / 4) o → IfSome o (λ t. StandsAt tasks p t.now)
stands tasks list list' p o whole func e e' h =
    let same : list' ≡ slice_index_or tasks p.func [] = e' ∙ get_or_read tasks p.func list func e [] in
    IfSome_then o (lent list' (p.off / 4) Illegal o h) (λ t s. record {
      whole = whole;
      func = func;
      inside = omega (arith, s.0, ap length same);
      is = s.1 ∙ ap (λ xs. get_or xs (p.off / 4) Illegal) same;
    })

-- and where nothing is lent, nothing stands there
pub nothing_stands : (tasks : List (List Task)) (list list' : List Task) (p : Pair) (o : Option (Bor Task)) → p.func < length tasks → list ≡ get_or tasks p.func list → list' ≡ list → IsItemAt list' (p.off / 4) o → IfNone o ((t : Task) → StandsAt tasks p t → ⊥)
nothing_stands tasks list list' p (Some x) func e e' h = tt
nothing_stands tasks list list' p None func e e' h = λ t s.
    let same : list' ≡ slice_index_or tasks p.func [] = e' ∙ get_or_read tasks p.func list func e [] in
    absurd (omega (arith, h, s.inside, ap length same))

-- the task that stands at a pair is that of its word; the image and the lists may be given otherwise
pub listed_task : (image image' : Image) (tasks tasks' : List (List Task)) (p : Pair) (t : Task) → tasks' ≡ tasks → image ≡ image' → AreListed image (length (sizes_of image)) tasks → StandsAt tasks' p t → IsTask image' p t
listed_task image image' tasks tasks' p t et ei l s' =
    let s : StandsAt tasks p t = subst (λ ts. StandsAt ts p t) et s' in
    let here : AreTasks image p.func (slice_index (sizes_of image) p.func / 4) (slice_index_or tasks p.func []) = l.each p.func (omega (arith, s.func, l.many)) in
    let found : IsTask image (pair p.func (4 * (p.off / 4))) (slice_index_or (slice_index_or tasks p.func []) (p.off / 4) Illegal) = here.each (p.off / 4) (omega (arith, s.inside, here.many)) in
    let whole : 4 * (p.off / 4) ≡ p.off = omega (arith, s.whole) in
    subst (λ i. IsTask i p t) ei
    (subst (λ x. IsTask image p x) (sym s.is)
    (subst (λ o. IsTask image (pair p.func o) (slice_index_or (slice_index_or tasks p.func []) (p.off / 4) Illegal)) whole found))

-- and the next word's offset fits
pub listed_next : (image : Image) (tasks tasks' : List (List Task)) (p : Pair) (t : Task) → tasks' ≡ tasks → IsSized (sizes_of image) → AreListed image (length (sizes_of image)) tasks → StandsAt tasks' p t → p.off + 4 < 2 ^ 32
listed_next image tasks tasks' p t e sized l s' =
    let s : StandsAt tasks p t = subst (λ ts. StandsAt ts p t) e s' in
    let here : AreTasks image p.func (slice_index (sizes_of image) p.func / 4) (slice_index_or tasks p.func []) = l.each p.func (omega (arith, s.func, l.many)) in
    next_fits (sizes_of image) p.func p.off sized (omega (arith, s.whole, s.inside, here.many))

-- a word of a function has a task that stands at its pair
word_stands : (image : Image) (tasks : List (List Task)) (p : Pair) → IsSized (sizes_of image) → AreListed image (length (sizes_of image)) tasks → p.off % 4 ≡ 0 → p.off < slice_index (sizes_of image) p.func → StandsAt tasks p (slice_index_or (slice_index_or tasks p.func []) (p.off / 4) Illegal)
word_stands image tasks p sized l whole lt =
    let func : p.func < length (sizes_of image) = has_bytes (sizes_of image) p.func p.off lt in
    let here : AreTasks image p.func (slice_index (sizes_of image) p.func / 4) (slice_index_or tasks p.func []) = l.each p.func func in
    let size = sized.whole p.func in
    record { whole = whole; func = omega (arith, func, l.many); inside = omega (arith, lt, whole, size, here.many); is = refl }

pub none_listed : (image image' : Image) (tasks tasks' : List (List Task)) (p : Pair) (o : Option (Bor Task)) → tasks' ≡ tasks → image ≡ image' → IsSized (sizes_of image) → AreListed image (length (sizes_of image)) tasks → IfNone o ((t : Task) → StandsAt tasks' p t → ⊥) → IfNone o (p.off % 4 ≡ 0 → p.off < slice_index (sizes_of image') p.func → ⊥)
none_listed image image' tasks tasks' p (Some x) et ei sized l not = tt
none_listed image image' tasks tasks' p None et ei sized l not = λ whole lt.
    let inside : p.off < slice_index (sizes_of image) p.func = subst (λ i. p.off < slice_index (sizes_of i) p.func) (sym ei) lt in
    not _ (subst (λ ts. StandsAt ts p (slice_index_or (slice_index_or tasks p.func []) (p.off / 4) Illegal)) (sym et) (word_stands image tasks p sized l whole inside))

-- ---- the whole

labels_rise : (sizes rows : List ℕ) (labels : List Pair) → AreInOrder sizes rows labels → RisesByFunc labels
labels_rise sizes rows labels are i j p q le ep eq = by (i == j) refl
  where
    low : (p.func < q.func) ⊎ ((p.func ≡ q.func) × (p.off < q.off)) → p.func ≤ q.func
    low (inl lt) = omega (arith, lt)
    low (inr e) = omega (arith, e.0)

    by : (b : Bool) → (i == j) ≡ b → p.func ≤ q.func
    by true e =
        let k : i ≡ j = grind (arith, nat_tests) in
        let same : Some p ≡ Some q = sym ep ∙ ap (slice_get labels) k ∙ eq in
        let pq : p ≡ q = cc in
        let f = ap (λ (x : Pair). x.func) pq in
        omega (arith, f)
    by false e = let lt : i < j = grind (arith, nat_tests) in low (are.labels_rise i j p q lt ep eq)

pub numbered_is : (image : Image) (numbers : List (List ℕ)) → IsSized (sizes_of image) → IsWorded image → AreNumbered image (length (sizes_of image)) numbers → IsNumbered image numbers
numbered_is image numbers sized worded listed = record { sized = sized; worded = worded; listed = listed }

pub code_is : (image : Image) (numbers : List (List ℕ)) (tasks : List (List Task)) → IsFine image → IsNumbered image numbers → AreListed image (length (sizes_of image)) tasks → IsCode image numbers tasks
code_is image numbers tasks fine numbered tasked =
    record {
      rows = fine.ordered.rows_rise;
      labels = labels_rise (sizes_of image) image.rows image.labels fine.ordered;
      numbered = numbered;
      tasked = tasked;
    }
