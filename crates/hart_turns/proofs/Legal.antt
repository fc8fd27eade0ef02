-- SPDX-License-Identifier: Apache-2.0
-- A legal list of events, and one event more.
use Rattle.std.proofs.Common.{◌≡◌, List, [], ◌∷◌, ◌++◌, refl}
use Rattle.sh_types.specs.declared.runs.Event.{Event}
use Rattle.sh_machines.specs.Event.{after_event, state_after, shuffled_from, IsLegalIn, IsLegalFrom, Allowed}
use Rattle.sh_machines.specs.Shuffled.{Setting, Shuffled, shuffled_start}

from_more : (o : Setting) (es : List Event) (e : Event) (s : Shuffled) → shuffled_from o (es ++ e ∷ []) s ≡ after_event o e (shuffled_from o es s)
from_more o [] e s = refl
from_more o (x ∷ es) e s = from_more o es e (after_event o x s)

pub state_more : (o : Setting) (es : List Event) (e : Event) → state_after o (es ++ e ∷ []) ≡ after_event o e (state_after o es)
unfolding state_after
state_more o es e = from_more o es e (shuffled_start o)

legal_from : (o : Setting) (es : List Event) (e : Event) (s : Shuffled) → IsLegalFrom o s es → Allowed o e (shuffled_from o es s) → IsLegalFrom o s (es ++ e ∷ [])
legal_from o [] e s l a = (a, tt)
legal_from o (x ∷ es) e s l a = (l.0, legal_from o es e (after_event o x s) l.1 a)

pub legal_more : (o : Setting) (es : List Event) (e : Event) → IsLegalIn o es → Allowed o e (state_after o es) → IsLegalIn o (es ++ e ∷ [])
unfolding state_after IsLegalIn
legal_more o es e l a = legal_from o es e (shuffled_start o) l a
