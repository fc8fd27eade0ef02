-- SPDX-License-Identifier: Apache-2.0
use Rattle.std.proofs.Common.{◌∙◌}
use Rattle.image_binding.proofs.Bounds.{as_apart}
use Rattle.image_binding.proofs.Ordered.{as_codes, codes_are}
use Rattle.image_binding.proofs.Whole.{coded_binding, coded_file, entry_is, functions_are, image_is, index_is, labels_are, rows_are}
use Rattle.image_binding.proofs.image.bound_of.Goals as goal

pub rows-requires : goal.rows-requires
rows-requires c = as_apart _ (coded_file c.args.bytes.now _ c.requires.bindable.functions.are c.requires.coded)

pub file_binding-requires-clause-functions : goal.file_binding-requires-clause-functions
file_binding-requires-clause-functions c = functions_are c.args.bytes.now _ c.requires.bindable.functions.are

pub file_binding-requires-clause-coded : goal.file_binding-requires-clause-coded
file_binding-requires-clause-coded c = coded_file c.args.bytes.now _ c.requires.bindable.functions.are c.requires.coded

pub file_words-requires-clause-codes : goal.file_words-requires-clause-codes
file_words-requires-clause-codes c =
    c.deref.ensures.value ∙ c.in_ok-codes.ensures ∙ codes_are c.args.bytes.now _ (c.as_slice-2.ensures ∙ c.requires.bindable.tables.heads)

pub file_words-requires-clause-apart : goal.file_words-requires-clause-apart
file_words-requires-clause-apart c =
    let are = c.deref.ensures.value ∙ c.in_ok-codes.ensures ∙ codes_are c.args.bytes.now _ (c.as_slice-2.ensures ∙ c.requires.bindable.tables.heads) in
    as_codes c.args.bytes.now _ are (c.codes_are_apart.ensures c.args.bytes.now c.requires.bindable.tables.fine)

pub file_words-requires-clause-coded : goal.file_words-requires-clause-coded
file_words-requires-clause-coded c = coded_binding c.args.bytes.now _ c.in_ok-binding.ensures c.requires.coded

pub file_regions-requires-clause-codes : goal.file_regions-requires-clause-codes
file_regions-requires-clause-codes c =
    c.deref-2.ensures.value ∙ c.in_ok-codes.ensures ∙ codes_are c.args.bytes.now _ (c.as_slice-2.ensures ∙ c.requires.bindable.tables.heads)

pub file_regions-requires-clause-apart : goal.file_regions-requires-clause-apart
file_regions-requires-clause-apart c =
    let are = c.deref-2.ensures.value ∙ c.in_ok-codes.ensures ∙ codes_are c.args.bytes.now _ (c.as_slice-2.ensures ∙ c.requires.bindable.tables.heads) in
    as_codes c.args.bytes.now _ are (c.codes_are_apart.ensures c.args.bytes.now c.requires.bindable.tables.fine)

pub file_sites-requires-clause-entry : goal.file_sites-requires-clause-entry
file_sites-requires-clause-entry c =
    entry_is c.args.bytes.now _ _ _ (functions_are c.args.bytes.now _ c.requires.bindable.functions.are) c.requires.bindable.tables.entry (rw c.as_slice.ensures at c.entry_number-entry.ensures)

pub returns : goal.returns
returns c =
    let functions = functions_are c.args.bytes.now _ c.requires.bindable.functions.are in
    let binding = c.in_ok-binding.ensures in
    let whole =
    image_is c.args.bytes.now _ _ _ _ _ _ _
    (record {
      functions = binding.functions;
      number = entry_is c.args.bytes.now _ _ _ functions c.requires.bindable.tables.entry (rw c.as_slice.ensures at c.entry_number-entry.ensures);
      bound = c.in_ok-words.ensures;
      classes = c.in_ok-sites.ensures;
      taken = rows_are c.args.bytes.now _ _ _ functions c.requires.bindable.relocs c.in_ok-rows.ensures.rows;
      named = labels_are c.args.bytes.now _ binding;
      memory = c.in_ok-regions.ensures;
    }) in
    record {
      image = c.bound_file.ensures.image ∙ whole;
      relocs = c.bound_file.ensures.relocs ∙ binding.relocs;
      index = rw c.bound_file.ensures.index (index_is c.args.bytes.now _ binding);
    }
