-- SPDX-License-Identifier: Apache-2.0
-- Events: when each is allowed, and what it leaves. This project's own.
use Rattle.std.specs.Prelude.{◌≡◌, ℕ, zero, suc, ◌+◌, ◌*◌, ◌==◌, ◌&&◌, ◌||◌, nat_lt, Bool, true, false, not, Option, Some, None, List, [], ◌∷◌, ◌++◌, replicate, slice_get, slice_index, slice_set, if◌then◌else◌}
use Rattle.sh_types.specs.declared.code.Pair.{Pair}
use Rattle.sh_types.specs.declared.layouts.CodeCopy.{CodeCopy}
use Rattle.sh_types.specs.declared.layouts.Layout.{Layout}
use Rattle.sh_types.specs.declared.runs.Event.{Event}
use Rattle.sh_types.specs.declared.runs.Event.TheVariants.{Run, Migrate, Publish, Erase}
use Rattle.sh_types.specs.declared.runs.Hart.{Hart}
use Rattle.sh_machines.specs.Cipher.{seal, unseal}
use Rattle.sh_machines.specs.Copy.{wiped_copy}
use Rattle.sh_types.specs.Place.{place_of, whose_of}
use Rattle.sh_machines.specs.Shuffled.{Setting, Owned, owned, key_of, Shuffled, shuffled_step, shuffled_start}
use Rattle.sh_machines.specs.Unmoved.{is_his, goes_still}

-- ---- so many instructions of one hart

-- so many instructions of a hart
abbrev pub instructions : Setting → ℕ → ℕ → Shuffled → Shuffled
instructions o n zero s = s
instructions o n (suc k) s = instructions o n k (shuffled_step o n s)

-- a hart of the number was started and is live
abbrev pub is_live : Option Hart → Bool
is_live None = false
is_live (Some h) = h.live

-- the run has not ended and the hart is live
abbrev pub can_run : Shuffled → ℕ → Bool
can_run s n = goes_still s.end && is_live (slice_get s.harts n)

-- and so before each of so many instructions
abbrev pub can_all : Setting → ℕ → ℕ → Shuffled → Bool
can_all o n zero s = true
can_all o n (suc k) s = can_run s n && can_all o n k (shuffled_step o n s)

-- ---- a hart moves to the newest layout

-- the place of a pair, and 0 where there is none
abbrev pub place_or_root : Layout → Option Pair → ℕ
place_or_root l None = 0
place_or_root l (Some p) = place_of l p

-- an address of the one layout as the same pair's in the other; 0 stands for the root
abbrev pub moved_place : Layout → Layout → ℕ → ℕ
moved_place from to a = place_or_root to (whose_of from a)

-- the hart on the other layout: its pc, and its ra where that is marked, are the same pairs' places there
abbrev pub migrated_to : Layout → Layout → ℕ → Hart → Hart
migrated_to from to newest h =
    record {
      number = h.number;
      live = h.live;
      code = h.code;
      layout = newest;
      pc = moved_place from to h.pc;
      regs = if h.marked then slice_set h.regs 1 (moved_place from to (slice_index h.regs 1)) else h.regs;
      marked = h.marked;
      reserved = h.reserved;
    }

-- the hart on the newest layout
abbrev pub migrated : Setting → ℕ → Hart → Hart
migrated o newest h = migrated_to (o.layout_at h.layout) (o.layout_at newest) newest h

-- each word that the hart owns, sealed anew for the same pair's address
abbrev pub resealed_value : Layout → Layout → ℕ → ℕ → ℕ → ℕ
resealed_value from to n w v = seal (key_of to n) (8 * w) (moved_place from to (unseal (key_of from n) (8 * w) v))

-- the words with those of the hart sealed for the other layout
abbrev pub resealed : Layout → Layout → ℕ → (ℕ → Owned) → ℕ → Owned
resealed from to n m w = if is_his n (m w).owner then owned (resealed_value from to n w (m w).value) (m w).owner else m w

-- the state with these harts and words
abbrev pub with_harts : Shuffled → List Hart → (ℕ → Owned) → Shuffled
with_harts s harts words =
    record { newest = s.newest; older = s.older; wiped = s.wiped; harts = harts; words = words; unread = s.unread; output = s.output; count = s.count; end = s.end }

-- the state with these layouts
abbrev pub with_layouts : Shuffled → ℕ → Bool → Option CodeCopy → Shuffled
with_layouts s newest older wiped =
    record { newest = newest; older = older; wiped = wiped; harts = s.harts; words = s.words; unread = s.unread; output = s.output; count = s.count; end = s.end }

-- the hart moves to the newest layout
abbrev pub migrate : Setting → Shuffled → ℕ → Option Hart → Shuffled
migrate o s n None = s
migrate o s n (Some h) =
    with_harts s (slice_set s.harts n (migrated o s.newest h)) (resealed (o.layout_at h.layout) (o.layout_at s.newest) h.number s.words)

-- ---- events

-- what an event leaves
abbrev pub after_event : Setting → Event → Shuffled → Shuffled
after_event o (Run n k) s = instructions o n k s
after_event o (Migrate n) s = migrate o s n (slice_get s.harts n)
after_event o (Publish k) s = with_layouts s k true s.wiped
after_event o (Erase k) s = with_layouts s s.newest false (Some (wiped_copy o.image (o.layout_at k)))

-- a live hart that is not on the newest layout
abbrev pub is_off : ℕ → Option Hart → Bool
is_off newest None = false
is_off newest (Some h) = h.live && not (h.layout == newest)

-- no live hart is on an older layout
abbrev pub all_on : ℕ → List Hart → Bool
all_on newest [] = true
all_on newest (h ∷ hs) = (not h.live || (h.layout == newest)) && all_on newest hs

-- A run of at least one instruction, before each of which run and hart have not ended; a hart that is not on the
-- newest layout; the next layout, where the newest is the only live one; the older layout, where no live hart is on it.
abbrev pub is_allowed : Setting → Event → Shuffled → Bool
is_allowed o (Run n k) s = nat_lt 0 k && can_all o n k s
is_allowed o (Migrate n) s = goes_still s.end && is_off s.newest (slice_get s.harts n)
is_allowed o (Publish k) s = goes_still s.end && (not s.older && (k == s.newest + 1))
is_allowed o (Erase k) s = goes_still s.end && (s.older && ((k + 1 == s.newest) && all_on s.newest s.harts))

-- the event is allowed in the state
abbrev pub Allowed : Setting → Event → Shuffled → Type 0
Allowed o e s = is_allowed o e s ≡ true

-- the state after a list of events
abbrev pub shuffled_from : Setting → List Event → Shuffled → Shuffled
shuffled_from o [] s = s
shuffled_from o (e ∷ es) s = shuffled_from o es (after_event o e s)

-- each of the events is allowed where it stands, from a state on
abbrev pub IsLegalFrom : Setting → Shuffled → List Event → Type 0
IsLegalFrom o s [] = Unit {0}
IsLegalFrom o s (e ∷ es) = Allowed o e s × IsLegalFrom o (after_event o e s) es

-- the state that a list of events leads to
unfoldable pub state_after : Setting → List Event → Shuffled
state_after o es = shuffled_from o es (shuffled_start o)

-- each event is allowed where it stands
unfoldable pub IsLegalIn : Setting → List Event → Type 0
IsLegalIn o es = IsLegalFrom o (shuffled_start o) es

-- the instructions of a list of events, one hart number for each
abbrev pub written : List Event → List ℕ
written [] = []
written (Run n k ∷ es) = replicate k n ++ written es
written (Migrate n ∷ es) = written es
written (Publish k ∷ es) = written es
written (Erase k ∷ es) = written es
