-- SPDX-License-Identifier: Apache-2.0
-- What a row comes to by its first load.
use Rattle.std.proofs.Common.{◌≡◌, ◌<◌, ◌≤◌, ◌+◌, ◌-◌, ℕ, List, [], ◌∷◌, ◌++◌, Bool, true, false, cond, length, replicate, refl, sym, ◌∙◌, ap, subst, append_assoc, append-nil, arith}
use Rattle.std.specs.Prelude.{Option, Some, None, IsSome, MatchOption, ⊤, nat_lt, count_by, Result, Ok, Err, IfOk, OnErr}
use Rattle.std.specs.Cmp.Lexicographic.{nat_list_eq_equiv}
use Rattle.std.proofs.lemmas.Bool.Decides.{nat_tests}
use Rattle.std.proofs.lemmas.List.Sums.{sum_by-append}
use Rattle.sh_base.specs.declared.files.FileCall.{FileCall}
use Rattle.sh_base.specs.declared.files.FileWord.{FileWord}
use Rattle.sh_base.specs.declared.files.FileWord.TheVariants as words
use Rattle.sh_base.specs.Faults.{AddsOnly, call_of, is_call, fault_count}
use Rattle.sh_base.specs.Held.{FileMap, Loads}
use Rattle.sh_base.specs.Told.{FileAnswer}
use Rattle.sh_base.specs.Tells.{gave, failed}
use Rattle.sh_types.specs.declared.runs.NoMemory.{NoMemory}
use Rattle.cli_words.specs.declared.words.Command.{Command}
use Rattle.guest_dues.specs.declared.due.Due.{Due}
use Rattle.shuf_cli.specs.Answer.{FilesState, LoadRose, Grows}
use Rattle.shuf_cli.specs.Asked.{AreAsked, HaveCauses, Loaded, Came, Stopped, Gave}
use Rattle.cli_rows.specs.Dues.{usage_due, unreadable_due, too_long_due}
use Rattle.cli_rows.specs.Rows.{Row, Load, Come, row_of, comes_to, AreOf}
use Rattle.cli_words.specs.Texts.{same}

same_self : (a : List ℕ) → same a a ≡ true
same_self a = nat_list_eq_equiv.refl a

module _ (name : List ℕ) (limit : ℕ) (next : List ℕ → Row) where
  pub comes_failed : comes_to (Load name limit next) (failed name ∷ []) ≡ Some (unreadable_due name)
  comes_failed = rw (same_self name) refl

  pub comes_long : (bytes : List ℕ) → limit < length bytes → comes_to (Load name limit next) (gave name bytes ∷ []) ≡ Some (too_long_due name limit)
  comes_long bytes long =
      let t : nat_lt limit (length bytes) ≡ true = grind (arith, nat_tests) in
      rw (same_self name) (rw t refl)

  pub comes_gave : (bytes : List ℕ) (rest : List FileAnswer) → length bytes ≤ limit → comes_to (Load name limit next) (gave name bytes ∷ rest) ≡ comes_to (next bytes) rest
  comes_gave bytes rest short =
      let t : nat_lt limit (length bytes) ≡ false = grind (arith, nat_tests) in
      rw (same_self name) (rw t refl)

-- a row that has loaded nothing comes to something
pub asked_none : (row : Row) → AreAsked row []
asked_none (Come due) = ([], refl)
asked_none (Load name limit next) = (failed name ∷ [], subst IsSome (sym (comes_failed name limit next)) refl)

pub of_none : (held : Option FileMap) (row : Row) → AreOf held row []
of_none held (Come due) = tt
of_none held (Load name limit next) = tt

-- a call adds to the faults, so no count falls
count_grows : (p : FileCall → Bool) (call : FileCall) (before now : List FileCall) → AddsOnly call before now → count_by p before ≤ count_by p now
count_grows p call before now adds =
    let more = replicate (length now - length before) call in
    let sum : count_by p (before ++ more) ≡ count_by p before + count_by p more = sum_by-append (λ x. cond (p x) 1 0) before more in
    omega (arith, ap (count_by p) adds, sum)

pub call_grows : (name : List ℕ) (word : FileWord) (files files' : FilesState) → AddsOnly (call_of name word) files.faults files'.faults → Grows files files'
call_grows name word files files' adds n w = count_grows (is_call n w) (call_of name word) files.faults files'.faults adds

pub none_grows : (files files' : FilesState) → files'.faults ≡ files.faults → Grows files files'
none_grows files files' same n w = omega (arith, ap (fault_count n w) same)

pub causes_stay : (files mid files' : FilesState) (loads : List FileAnswer) → Grows files mid → HaveCauses mid files' loads → HaveCauses files files' loads
causes_stay files mid files' [] grows causes = tt
causes_stay files mid files' (load ∷ rest) grows (cause, causes) = (of load.bytes cause, causes_stay files mid files' rest grows causes)
  where
    of : (o : Option (List ℕ)) → MatchOption o (LoadRose mid files' load.name) (λ _. ⊤) → MatchOption o (LoadRose files files' load.name) (λ _. ⊤)
    of None rose = let g = grows load.name words.Load in omega arith
    of (Some bytes) t = tt

pub causes_last : (files mid files' : FilesState) (loads : List FileAnswer) → Grows mid files' → HaveCauses files mid loads → HaveCauses files files' loads
causes_last files mid files' [] grows causes = tt
causes_last files mid files' (load ∷ rest) grows (cause, causes) = (of load.bytes cause, causes_last files mid files' rest grows causes)
  where
    of : (o : Option (List ℕ)) → MatchOption o (LoadRose files mid load.name) (λ _. ⊤) → MatchOption o (LoadRose files files' load.name) (λ _. ⊤)
    of None rose = let g = grows load.name words.Load in omega arith
    of (Some bytes) t = tt

-- nothing is loaded
pub came_here : (due : Due) (files : FilesState) → Came (Come due) files files due
came_here due files = record {
  loads = [];
  loaded = record { answered = nothing files.answered; asked = ([], refl); held = tt; causes = tt };
  comes = refl;
  stands = refl;
  grown = λ n w. omega arith;
}
  where
    nothing : (l : List FileAnswer) → l ≡ l ++ []
    nothing l = sym (append-nil l)

pub stopped_here : (row : Row) (files files' : FilesState) → files'.answered ≡ files.answered → files'.held ≡ files.held → Stopped row files files'
stopped_here row files files' answered stands = record {
  loads = [];
  loaded = record { answered = answered ∙ sym (append-nil files.answered); asked = asked_none row; held = of_none files.held row; causes = tt };
  stands = stands;
}

module _ (name : List ℕ) (limit : ℕ) (files files' : FilesState) (adds : AddsOnly (call_of name words.Load) files.faults files'.faults) (stands : files'.held ≡ files.held) where
  failed_loaded : (next : List ℕ → Row) → files'.answered ≡ files.answered ++ failed name ∷ [] → LoadRose files files' name → Loaded (Load name limit next) files files' (failed name ∷ [])
  failed_loaded next answered rose =
      record { answered = answered; asked = ([], subst IsSome (sym (comes_failed name limit next)) refl); held = tt; causes = (rose, tt) }

  pub came_failed : (next : List ℕ → Row) → files'.answered ≡ files.answered ++ failed name ∷ [] → LoadRose files files' name
      → Came (Load name limit next) files files' (unreadable_due name)
  came_failed next answered rose = record {
    loads = failed name ∷ [];
    loaded = failed_loaded next answered rose;
    comes = comes_failed name limit next;
    stands = stands;
    grown = call_grows name words.Load files files' adds;
  }

  pub stopped_failed : (next : List ℕ → Row) → files'.answered ≡ files.answered ++ failed name ∷ [] → LoadRose files files' name → Stopped (Load name limit next) files files'
  stopped_failed next answered rose = record { loads = failed name ∷ []; loaded = failed_loaded next answered rose; stands = stands }

  module _ (bytes : List ℕ) (loads : Loads files.held name limit bytes) (answered : files'.answered ≡ files.answered ++ gave name bytes ∷ []) where
    pub gave_is : length bytes ≤ limit → Gave name limit files files' bytes
    gave_is short = record { short = short; held = loads; answered = answered; stands = stands; grown = call_grows name words.Load files files' adds }

    long_loaded : (next : List ℕ → Row) → limit < length bytes → Loaded (Load name limit next) files files' (gave name bytes ∷ [])
    long_loaded next long = record {
      answered = answered;
      asked = ([], subst IsSome (sym (comes_long name limit next bytes long)) refl);
      held = (loads, of_none files.held (next bytes));
      causes = (tt, tt);
    }

    pub came_long : (next : List ℕ → Row) → limit < length bytes → Came (Load name limit next) files files' (too_long_due name limit)
    came_long next long = record {
      loads = gave name bytes ∷ [];
      loaded = long_loaded next long;
      comes = comes_long name limit next bytes long;
      stands = stands;
      grown = call_grows name words.Load files files' adds;
    }

    pub stopped_long : (next : List ℕ → Row) → limit < length bytes → Stopped (Load name limit next) files files'
    stopped_long next long = record { loads = gave name bytes ∷ []; loaded = long_loaded next long; stands = stands }

-- the rest of the row is loaded behind a load that gave its file
module _ (name : List ℕ) (limit : ℕ) (next : List ℕ → Row) (files mid files' : FilesState) (bytes : List ℕ) (first : Gave name limit files mid bytes) where
  loaded_on : (loads : List FileAnswer) → Loaded (next bytes) mid files' loads → Loaded (Load name limit next) files files' (gave name bytes ∷ loads)
  loaded_on loads rest = record {
    answered = rest.answered ∙ ap (λ l. l ++ loads) first.answered ∙ append_assoc files.answered (gave name bytes ∷ []) loads;
    asked = (rest.asked.0, subst IsSome (sym (comes_gave name limit next bytes (loads ++ rest.asked.0) first.short)) rest.asked.1);
    held = (first.held, subst (λ h. AreOf h (next bytes) loads) first.stands rest.held);
    causes = (tt, causes_stay files mid files' loads first.grown rest.causes);
  }

  pub came_on : (due : Due) → Came (next bytes) mid files' due → Came (Load name limit next) files files' due
  came_on due rest = record {
    loads = gave name bytes ∷ rest.loads;
    loaded = loaded_on rest.loads rest.loaded;
    comes = comes_gave name limit next bytes rest.loads first.short ∙ rest.comes;
    stands = rest.stands ∙ first.stands;
    grown = λ n w. let a = first.grown n w in let b = rest.grown n w in omega arith;
  }

  pub stopped_on : Stopped (next bytes) mid files' → Stopped (Load name limit next) files files'
  stopped_on rest = record { loads = gave name bytes ∷ rest.loads; loaded = loaded_on rest.loads rest.loaded; stands = rest.stands ∙ first.stands }

-- a row of one load comes to what is due for its file
pub came_one : (name : List ℕ) (limit : ℕ) (made : List ℕ → Due) (files files' : FilesState) (bytes : List ℕ) (due : Due)
    → Gave name limit files files' bytes → due ≡ made bytes → Came (Load name limit (λ b. Come (made b))) files files' due
came_one name limit made files files' bytes due first is =
    came_on name limit (λ b. Come (made b)) files files' files' bytes first due
    (subst (λ d. Came (Come d) files' files' due) is (came_here due files'))

pub stopped_one : (name : List ℕ) (limit : ℕ) (next : List ℕ → Row) (files files' : FilesState) (bytes : List ℕ)
    → Gave name limit files files' bytes → Stopped (Load name limit next) files files'
stopped_one name limit next files files' bytes first =
    stopped_on name limit next files files' files' bytes first (stopped_here (next bytes) files' files' refl refl)

pub on_err : {T E : Type 0} (r : Result T E) (P : Type 0) → P → OnErr r P
on_err (Ok t) P p = tt
on_err (Err e) P p = p

-- a command that loads nothing
pub came_at_once : (command : Option Command) (seed : List ℕ) (files : FilesState) (made : Due) (r : Result Due NoMemory) → row_of command seed ≡ Come made → IfOk r (λ due. due ≡ made)
    → IfOk r (λ due. Came (row_of command seed) files files due)
came_at_once command seed files made (Ok due) row is =
    subst (λ x. Came x files files due) (sym row) (subst (λ d. Came (Come made) files files d) (sym is) (came_here made files))
came_at_once command seed files made (Err e) row is = tt

-- words that are no command
pub usage_came : (command : Option Command) (seed : List ℕ) (files : FilesState) (r : Result Due NoMemory) → command ≡ None → IfOk r (λ due. due ≡ usage_due)
    → IfOk r (λ due. Came (row_of command seed) files files due)
usage_came command seed files r none is = came_at_once command seed files usage_due r (ap (λ c. row_of c seed) none) is
