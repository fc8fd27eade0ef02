-- SPDX-License-Identifier: Apache-2.0
-- Addresses that records take give the rows and labels of the records.
use Rattle.std.proofs.Common.{◌≡◌, ℕ, suc, ◌+◌, ◌-◌, ◌<◌, Bool, true, false, cond, List, [], ◌∷◌, ◌++◌, refl, sym, ap, ◌∙◌, arith, append_assoc}
use Rattle.std.specs.Prelude.{map, filter}
use Rattle.std.specs.List.{list_any}
use Rattle.std.specs.Option.{option_to_list}
use Rattle.std.proofs.lemmas.List.Elements.{filter_agree}
use Rattle.sh_types.specs.declared.code.Function.{Function}
use Rattle.sh_types.specs.declared.code.Pair.{Pair}
use Rattle.sh_types.specs.declared.relocs.Reloc.{Reloc}
use Rattle.sh_types.specs.Place.{pair}
use Rattle.elf_rules.specs.Elf.{places}
use Rattle.image_rules.specs.Binding.{inner_offsets, is_data_pointer, is_label, is_pointer, is_pointer_to, labels_from, labels_in, labels_of, rows_from, rows_of}
use Rattle.ptr_table.specs.Taken.{AreTaken, has, has_offset, kept, labels_at, labels_by, rows_by}

one_more : (j : ℕ) → j + 1 ≡ suc j
one_more j = omega arith

either : (b : Bool) (j : ℕ) (rest : List ℕ) → option_to_list (kept b j) ++ rest ≡ cond b (j ∷ rest) rest
either true j rest = refl
either false j rest = refl

rows_at : (j : ℕ) (fs : List Function) (rs : List Reloc) (addresses : List ℕ) → AreTaken is_pointer rs addresses → rows_by j fs addresses ≡ rows_from j fs rs
rows_at j [] rs addresses taken = refl
rows_at j (f ∷ fs) rs addresses taken =
    either (has addresses f.home) j (rows_by (j + 1) fs addresses)
    ∙ ap (λ b. cond b (j ∷ rows_by (j + 1) fs addresses) (rows_by (j + 1) fs addresses)) (taken f.home)
    ∙ ap (λ rest. cond (list_any (is_pointer_to is_pointer f.home) rs) (j ∷ rest) rest)
    (ap (λ (k : ℕ). rows_by k fs addresses) (one_more j) ∙ rows_at (suc j) fs rs addresses taken)

pub rows_same : (fs : List Function) (rs : List Reloc) (addresses : List ℕ) → AreTaken is_pointer rs addresses → rows_by 0 fs addresses ≡ rows_of fs rs
unfolding rows_of
rows_same fs rs addresses taken = rows_at 0 fs rs addresses taken

labels_one : (j : ℕ) (f : Function) (rs : List Reloc) (addresses : List ℕ) → AreTaken is_data_pointer rs addresses → labels_at j f.home f.size addresses ≡ labels_in j f rs
labels_one j f rs addresses taken =
    ap (map (pair j)) (filter_agree (has_offset addresses f.home) (is_label f rs) (λ o. taken (f.home + o)) (inner_offsets f.size))

labels_all : (j : ℕ) (fs : List Function) (rs : List Reloc) (addresses : List ℕ) → AreTaken is_data_pointer rs addresses → labels_by j fs addresses ≡ labels_from j fs rs
labels_all j [] rs addresses taken = refl
labels_all j (f ∷ fs) rs addresses taken =
    ap (λ l. l ++ labels_by (j + 1) fs addresses) (labels_one j f rs addresses taken)
    ∙ ap (λ l. labels_in j f rs ++ l) (ap (λ (k : ℕ). labels_by k fs addresses) (one_more j) ∙ labels_all (suc j) fs rs addresses taken)

pub labels_same : (fs : List Function) (rs : List Reloc) (addresses : List ℕ) → AreTaken is_data_pointer rs addresses → labels_by 0 fs addresses ≡ labels_of fs rs
unfolding labels_of
labels_same fs rs addresses taken = labels_all 0 fs rs addresses taken

-- ---- the offsets of a function, one more

next_places : (off count i : ℕ) → i < count → places 4 off (count - i) ≡ off ∷ places 4 (off + 4) (count - (i + 1))
next_places off count i h =
    let e : count - i ≡ suc (count - (i + 1)) = omega (arith, h) in
    ap (places 4 off) e

pub kept_more : (func : ℕ) (test : ℕ → Bool) (found all : List Pair) (off count i : ℕ) → i < count → test off ≡ true → found ++ map (pair func) (filter test (places 4 off (count - i))) ≡ all → (found ++ pair func off ∷ []) ++ map (pair func) (filter test (places 4 (off + 4) (count - (i + 1)))) ≡ all
kept_more func test found all off count i h t e =
    append_assoc found (pair func off ∷ []) _
    ∙ ap (λ l. found ++ map (pair func) l) (sym (ap (λ b. cond b (off ∷ filter test (places 4 (off + 4) (count - (i + 1)))) (filter test (places 4 (off + 4) (count - (i + 1))))) t))
    ∙ ap (λ l. found ++ map (pair func) (filter test l)) (sym (next_places off count i h)) ∙ e

pub dropped_more : (func : ℕ) (test : ℕ → Bool) (found all : List Pair) (off count i : ℕ) → i < count → test off ≡ false → found ++ map (pair func) (filter test (places 4 off (count - i))) ≡ all → found ++ map (pair func) (filter test (places 4 (off + 4) (count - (i + 1)))) ≡ all
dropped_more func test found all off count i h t e =
    ap (λ l. found ++ map (pair func) l) (sym (ap (λ b. cond b (off ∷ filter test (places 4 (off + 4) (count - (i + 1)))) (filter test (places 4 (off + 4) (count - (i + 1))))) t))
    ∙ ap (λ l. found ++ map (pair func) (filter test l)) (sym (next_places off count i h)) ∙ e
