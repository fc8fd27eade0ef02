-- SPDX-License-Identifier: Apache-2.0
-- What the rules on relocation records say, and where the bytes that records take lie.
use Rattle.std.proofs.Common.{◌≡◌, inl, inr, ℕ, ◌+◌, ◌-◌, ◌<◌, ◌≤◌, true, false, List, [], ◌∷◌, None, length, refl, sym, ap, ◌∙◌, subst, arith, All}
use Rattle.std.specs.Prelude.{filter, map, not, unwrap_or, ◌==◌, ◌||◌}
use Rattle.std.specs.List.{list_any, AllByRecursion}
use Rattle.std.proofs.lemmas.List.Elements.{All-from_recursion}
use Rattle.std.proofs.lemmas.Bool.{not-false, or_cases, or_parts, true≢false}
use Rattle.std.proofs.lemmas.Bool.Decides.{nat_tests}
use Rattle.elf_rules.specs.declared.elf.Segment.{Segment}
use Rattle.elf_rules.specs.declared.relocs.RawReloc.{RawReloc}
use Rattle.sh_types.specs.declared.relocs.Reloc.{Reloc}
use Rattle.elf_rules.specs.Bindable.{filled_in_order, is_mapped_at, no_segment, segment_with}
use Rattle.elf_rules.specs.Elf.{heads_of, segments_of, symbols_of}
use Rattle.elf_rules.specs.ElfRules.{fails, first_failing, has_memory, reloc_rules, segment_span, table_rules}
use Rattle.elf_rules.specs.RelocRules.{bad_kinds, bad_records, bad_reloc_table, bad_symbol, bad_taken, bad_used, clash, covers, high_places, is_alone, is_backed, is_crooked, is_foreign, is_placed, place_span, taken_spans, takes_code}
use Rattle.elf_rules.specs.Relocs.{is_used, reloc, relocs_of, tables_of, taken_of, used_of, width_of}
use Rattle.elf_rules.specs.Spans.{any_share}
use Rattle.load_law.specs.Placed.{HasBytes, IsPlaced}
use Rattle.load_law.proofs.Apart.{Among, found, of_among, rising_keeps}
use Rattle.load_law.proofs.Covers.{filter_keeps}
use Rattle.load_law.proofs.Order.{segments_apart}
use Rattle.load_law.proofs.Ranges.{of_map}
use Rattle.load_law.proofs.Rules.{each, filtered, mapped, none_fail, none_of}
use Rattle.load_law.proofs.Segments.{all_placed}

-- what the rules Records and Kind say
pub record AreRecorded (b : List ℕ) : Type 0 where
  pub backed : list_any (λ r. not (is_backed (segments_of b) r)) (taken_of b) ≡ false
  pub placed : list_any (λ r. not (is_placed (heads_of b) r)) (taken_of b) ≡ false
  pub places_apart : any_share (map place_span (used_of b)) ≡ false
  pub bytes_apart : any_share (taken_spans (used_of b)) ≡ false
  pub whole : list_any (is_crooked (heads_of b)) (used_of b) ≡ false
  pub off_code : takes_code (heads_of b) (used_of b) ≡ false
  pub kinds : list_any (is_foreign (heads_of b)) (taken_of b) ≡ false

pub recorded : (b : List ℕ) → first_failing reloc_rules b ≡ None → AreRecorded b
unfolding fails bad_records bad_taken bad_used clash bad_kinds
recorded b h =
    let none = none_fail reloc_rules b h in
    let tables = list_any (bad_reloc_table b (length (heads_of b))) (tables_of b) in
    let symbols = list_any (bad_symbol (length (symbols_of b))) (taken_of b) in
    let place = list_any (λ r. not (is_placed (heads_of b) r)) (taken_of b) in
    let back = list_any (λ r. not (is_backed (segments_of b) r)) (taken_of b) in
    let two = any_share (map place_span (used_of b)) in
    let both = any_share (taken_spans (used_of b)) in
    let crooked = list_any (is_crooked (heads_of b)) (used_of b) in
    let code = takes_code (heads_of b) (used_of b) in
    let alone = list_any (is_alone (high_places (used_of b)) (symbols_of b)) (used_of b) in
    let records : ((tables || ((symbols || place) || back)) || ((((two || both) || crooked) || code) || alone)) ≡ false = none.1.0 in
    let halves = or_parts (tables || ((symbols || place) || back)) ((((two || both) || crooked) || code) || alone) records in
    let taken = or_parts tables ((symbols || place) || back) halves.0 in
    let t = or_parts (symbols || place) back taken.1 in
    let u = or_parts (((two || both) || crooked) || code) alone halves.1 in
    let v = or_parts ((two || both) || crooked) code u.0 in
    let w = or_parts (two || both) crooked v.0 in
    let x = or_parts two both w.0 in
    record {
      backed = t.1;
      placed = (or_parts symbols place t.0).1;
      places_apart = x.0;
      bytes_apart = x.1;
      whole = w.1;
      off_code = v.1;
      kinds = none.1.1.1.0;
    }

-- ---- the bytes that a record takes

abbrev Covered : List Segment → ℕ → ℕ → Type 0
Covered gs place width = (g : Segment) × Among g gs × (covers place width g ≡ true)

one_covers : (gs : List Segment) (place width : ℕ) → list_any (covers place width) gs ≡ true → Covered gs place width
one_covers [] place width h = absurd (true≢false (sym h))
one_covers (g ∷ gs) place width h =
    elim (or_cases (covers place width g) (list_any (covers place width) gs) h) [
      | inl e ↦ (g, inl refl, e)
      | inr e ↦ let rest = one_covers gs place width e in (rest.0, inr rest.1, rest.2)
    ]

record Covers (place width : ℕ) (g : Segment) : Type 0 where
  from : g.start ≤ place
  to : place + width ≤ g.start + g.file_size

covers_parts : (place width : ℕ) (g : Segment) → covers place width g ≡ true → Covers place width g
unfolding covers
covers_parts place width g e = record { from = grind (arith, nat_tests, e); to = grind (arith, nat_tests, e) }

backed_by : (gs : List Segment) (r : RawReloc) → 0 < width_of r.kind → not (is_backed gs r) ≡ false → list_any (covers r.place (width_of r.kind)) gs ≡ true
unfolding is_backed
backed_by gs r some e =
    elim (or_cases (width_of r.kind == 0) (list_any (covers r.place (width_of r.kind)) gs) (not-false _ e)) [
      | inl t ↦ absurd (grind (arith, nat_tests, t, some))
      | inr t ↦ t
    ]

module _ (b : List ℕ) (fine : first_failing table_rules b ≡ None) where
  has_some : (g : Segment) → 0 < g.size → has_memory g ≡ true
  has_some g some = grind (arith, nat_tests, some)

  mapped_is : (g : Segment) (place : ℕ) → g.start ≤ place → place < g.start + g.size → is_mapped_at place g ≡ true
  mapped_is g place l m = grind (arith, nat_tests, l, m)

  among_filled : (g : Segment) → Among g (segments_of b) → 0 < g.size → Among g (filled_in_order b)
  unfolding filled_in_order
  among_filled g a some = rising_keeps (λ (s : Segment). s.start) g (filter has_memory (segments_of b)) (filter_keeps has_memory g (segments_of b) a (has_some g some))

  segment_is : (g : Segment) (place : ℕ) → Among g (segments_of b) → g.start ≤ place → place < g.start + g.size → segment_with (filled_in_order b) place ≡ g
  segment_is g place a l m =
      ap (λ o. unwrap_or o no_segment)
      (found segment_span place (filled_in_order b) g (segments_apart b fine) (among_filled g a (omega (arith, l, m))) (mapped_is g place l m))

  covered_bytes : (r : Reloc) (g : Segment) → 0 < width_of r.kind → Among g (segments_of b) → IsPlaced b g → Covers r.place (width_of r.kind) g → HasBytes b r
  covered_bytes r g some a p c =
      let filled = p.filled in
      let inside : r.place < g.start + g.size = omega (arith, c.to, some, filled) in
      let e = segment_is g r.place a c.from inside in
      let file : g.file_at + (r.place - g.start) + width_of r.kind ≤ length b = omega (arith, p.file, c.from, c.to) in
      record {
        found = λ _. ap (is_mapped_at r.place) e ∙ mapped_is g r.place c.from inside;
        file = λ _. subst (λ (s : Segment). s.file_at + (r.place - s.start) + width_of r.kind ≤ length b) (sym e) file;
      }

  some_bytes : (r : RawReloc) → not (is_backed (segments_of b) r) ≡ false → 0 < width_of r.kind → HasBytes b (reloc (heads_of b) (symbols_of b) r)
  some_bytes r e some =
      let c = one_covers (segments_of b) r.place (width_of r.kind) (backed_by (segments_of b) r some e) in
      covered_bytes (reloc (heads_of b) (symbols_of b) r) c.0 some c.1 (of_among (IsPlaced b) c.0 (segments_of b) (all_placed b (mapped b fine)) c.1) (covers_parts r.place (width_of r.kind) c.0 c.2)

  has_bytes : (r : RawReloc) → not (is_backed (segments_of b) r) ≡ false → HasBytes b (reloc (heads_of b) (symbols_of b) r)
  has_bytes r e = record { found = λ some. (some_bytes r e some).found some; file = λ some. (some_bytes r e some).file some }

  all_bytes : AreRecorded b → AllByRecursion (HasBytes b) (relocs_of b)
  unfolding relocs_of used_of
  all_bytes rs =
      of_map (HasBytes b) (reloc (heads_of b) (symbols_of b)) (filter is_used (taken_of b))
      (each (λ r. not (is_backed (segments_of b) r) ≡ false) (λ r. HasBytes b (reloc (heads_of b) (symbols_of b) r)) has_bytes (filter is_used (taken_of b))
      (filtered is_used (λ r. not (is_backed (segments_of b) r) ≡ false) (taken_of b) (none_of (λ r. not (is_backed (segments_of b) r)) (taken_of b) rs.backed)))

pub bytes_lie : (b : List ℕ) → first_failing table_rules b ≡ None → first_failing reloc_rules b ≡ None → All (HasBytes b) (relocs_of b)
bytes_lie b fine h = All-from_recursion (HasBytes b) (relocs_of b) (all_bytes b fine (recorded b h))
