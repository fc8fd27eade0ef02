-- SPDX-License-Identifier: Apache-2.0
-- What a file that can be bound says of its tables and its memory.
use Rattle.std.proofs.Common.{◌≡◌, ℕ, ◌≤◌, ◌<◌, ◌^◌, List, Option, Some, None, Err, cond, refl, sym, ap, ◌∙◌, subst, arith, inl, inr}
use Rattle.std.specs.Prelude.{nat_lt}
use Rattle.std.proofs.lemmas.Bool.{cases_Bool}
use Rattle.std.proofs.lemmas.Bool.Decides.{nat_tests}
use Rattle.elf_rules.specs.declared.elf.Elf.{Elf}
use Rattle.elf_rules.specs.declared.elf.Segment.{Segment}
use Rattle.elf_rules.specs.declared.refusals.ElfFault.{ElfFault}
use Rattle.elf_rules.specs.declared.refusals.ElfFault.TheVariants.{Rule}
use Rattle.elf_rules.specs.declared.refusals.ElfRule.{ElfRule}
use Rattle.elf_rules.specs.declared.refusals.LimitKind.{LimitKind}
use Rattle.elf_rules.specs.declared.refusals.LimitKind.TheVariants as kind
use Rattle.elf_rules.specs.declared.refusals.LoadFault.{LoadFault}
use Rattle.elf_rules.specs.declared.refusals.LoadFault.TheVariants as load
use Rattle.elf_rules.specs.Bindable.{IsBindable, above, by_rule, mapped_by, or_later}
use Rattle.elf_rules.specs.Elf.{segments_of}
use Rattle.elf_rules.specs.ElfRules.{Reads, elf_of, first_failing, reloc_rules, symbol_rules, table_rules}
use Rattle.image_binding.specs.Stages.{later_refusal}
use Rattle.image_binding.proofs.Refusing.{whole_refusal}

both_none : (a later : Option LoadFault) → or_later a later ≡ None → (a ≡ None) × (later ≡ None)
both_none None later h = (refl, h)
both_none (Some fault) later h = absurd (cc)

pub no_rule : (rule : Option ElfRule) → by_rule rule ≡ None → rule ≡ None
no_rule None h = refl
no_rule (Some rule) h = absurd (cc)

some_none : (fault : LoadFault) → Some fault ≡ None → ⊥
some_none fault h = absurd (cc)

within : (kind : LimitKind) (most value : ℕ) → above kind most value ≡ None → value ≤ most
within kind most value h = elim (cases_Bool (nat_lt most value)) [
  | inl t ↦ absurd (some_none (load.Limit kind value) (sym (ap (λ c. cond c (Some (load.Limit kind value)) None) t) ∙ h))
  | inr f ↦ grind (arith, nat_tests, f)
]

record AreParts (b : List ℕ) : Type 0 where
  tables : first_failing table_rules b ≡ None
  later : later_refusal b ≡ None

parts : (b : List ℕ) → IsBindable b → AreParts b
parts b bindable =
    let one = both_none (by_rule (first_failing table_rules b)) _ (sym (whole_refusal b) ∙ bindable) in
    let two = both_none (by_rule (first_failing symbol_rules b)) _ one.1 in
    let three = both_none (by_rule (first_failing reloc_rules b)) (later_refusal b) two.1 in
    record { tables = no_rule (first_failing table_rules b) one.0; later = three.1 }

few_mapped : (b : List ℕ) → later_refusal b ≡ None → mapped_by (segments_of b) ≤ 67108864
unfolding later_refusal
few_mapped b h = within kind.Mapped 67108864 (mapped_by (segments_of b)) (both_none _ _ h).0

pub memory_fits : (b : List ℕ) (segments : List Segment) → segments ≡ segments_of b → IsBindable b → mapped_by segments < 2 ^ 64
memory_fits b segments e bindable = let few = few_mapped b (parts b bindable).later in rw e (omega (arith, few))

-- reading the tables of a file that can be bound finds no rule that fails
pub no_rule_fails : (b : List ℕ) (fault : ElfFault) (rule : ElfRule) → IsBindable b → fault ≡ Rule rule → Reads {A = Elf} (Err fault) (first_failing table_rules b) (elf_of b) → ⊥
no_rule_fails b fault rule bindable e reads =
    let hold = (parts b bindable).tables in
    let fails : first_failing table_rules b ≡ Some rule = subst (λ (f : ElfFault). Reads {A = Elf} (Err f) (first_failing table_rules b) (elf_of b)) e reads in
    absurd (cc)
