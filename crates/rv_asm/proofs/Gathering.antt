-- SPDX-License-Identifier: Apache-2.0
-- What the object of a source without a fault has.
use Rattle.std.proofs.Common.{◌≡◌, ℕ, ◌*◌, ◌≤◌, List, length, refl, sym, ap, subst, ◌∙◌, arith}
use Rattle.std.specs.Prelude.{Option, None, Ok, map}
use Rattle.std.specs.List.{concat}
use Rattle.asm_text.specs.declared.faults.LineFault.{LineFault}
use Rattle.asm_text.specs.Sizes.{items_size}
use Rattle.asm_text.specs.Source.{source_of}
use Rattle.asm_places.specs.Functions.{functions_of}
use Rattle.rv_asm.specs.Checking.{Checks, IsChecked}
use Rattle.rv_asm.specs.Data.{text_of}
use Rattle.rv_asm.specs.Object.{words_in, object_from, object_of}
use Rattle.rv_asm.specs.Passes.{fault_of}
use Rattle.rv_asm.specs.Whole.{IsWhole}
use Rattle.rv_asm.proofs.Faultless.{is_checked}
use Rattle.rv_asm.proofs.Joining.{text_size_of, all_words, text_short, data_short, data_size_of, entry_there}
use Rattle.rv_asm.proofs.MarksLie.{marks_inside, marks_rise}
use Rattle.rv_asm.proofs.NameSizes.{names_small}
use Rattle.rv_asm.proofs.Numbering.{marks_named}

faultless : (text : List ℕ) → fault_of text ≡ None → IsChecked (source_of text).items
faultless text none =
    let items = (source_of text).items in
    is_checked text items (subst (λ (f : Option LineFault). Checks (Ok items) f items) (sym none) refl)

pub whole : ((t : List ℕ) → items_size (source_of t).items ≤ length t) → (text : List ℕ) → length text ≤ 67108864 → fault_of text ≡ None → IsWhole (source_of text).items (object_of text)
unfolding object_from
whole law text small none =
    let items = (source_of text).items in
    let checked : IsChecked items = faultless text none in
    let words : concat (map (words_in (text_of items)) (functions_of items)) ≡ text_of items = all_words items checked in
    let size : 4 * length (concat (map (words_in (text_of items)) (functions_of items))) ≡ 4 * length (text_of items) = ap (λ (w : List ℕ). 4 * length w) words in
    record {
      words = words;
      text = omega (arith, size, text_short items checked);
      bytes = data_short items checked;
      entry = entry_there items checked;
      names = names_small text law small;
      inside = marks_inside items (object_from items) checked refl (size ∙ text_size_of items checked) (data_size_of items checked);
      symbols = marks_named items;
      rising = marks_rise items checked;
    }
