-- SPDX-License-Identifier: Apache-2.0
use Rattle.std.proofs.Common.{sym, ◌∙◌, ap, ◌≡◌, ℕ, List, [], ◌∷◌, ◌++◌}
use Rattle.std.specs.Prelude.{slice_get, Some}
use Rattle.sh_base.specs.Held.{as_map}
use Rattle.sh_base.proofs.Entries.{put_at, put_new}
use Rattle.sh_base.proofs.mem_files.put.Goals as goal

pub returns-in-Some-clause-ok : goal.returns-in-Some-clause-ok
returns-in-Some-clause-ok c =
    let here : slice_get c.args.names.now.items c.in-Some.at ≡ Some c.args.name =
    ap (λ (names : List (List ℕ)). slice_get names c.in-Some.at) (sym c.as_slice.ensures.value) ∙ c.in-Some.ensures.0 ∙ ap Some c.as_str.ensures in
    put_at c.args.names.now.items c.args.contents.now.items c.in-Some.at c.args.name c.args.bytes here c.requires
    (λ k lt is. c.in-Some.ensures.1 k lt (ap (λ (names : List (List ℕ)). slice_get names k) c.as_slice.ensures.value ∙ is ∙ sym (ap Some c.as_str.ensures)))

pub returns-in_ok-reserve-in-None-2-clause-ok : goal.returns-in_ok-reserve-in-None-2-clause-ok
returns-in_ok-reserve-in-None-2-clause-ok c =
    let names = c.push_in_room.ensures ∙ ap (λ (l : List (List ℕ)). l ++ c.args.name ∷ []) c.in_ok-reserve-in-None.ensures.items in
    let contents = c.push_in_room-in-None.ensures ∙ ap (λ (l : List (List ℕ)). l ++ c.args.bytes ∷ []) c.in_ok-reserve-in-None-2.ensures.items in
    (λ i. as_map (names i) (contents i))
    ∙ put_new c.args.names.now.items c.args.contents.now.items c.args.name c.args.bytes c.requires
    (λ k is. c.in-None.ensures k (ap (λ (held : List (List ℕ)). slice_get held k) c.as_slice.ensures.value ∙ is ∙ sym (ap Some c.as_str.ensures)))
