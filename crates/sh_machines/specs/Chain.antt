-- SPDX-License-Identifier: Apache-2.0
-- The frames of a hart, from its pc on, when they are sound, and what points into a copy. Calls and frames are those of
-- the RISC-V psABI, "Integer Calling Convention"; the rest is this project's own.
use Rattle.std.specs.Prelude.{◌≡◌, ◌≢◌, ◌⊎◌, ℕ, ◌+◌, ◌*◌, ◌%◌, ◌^◌, ◌<◌, ◌≤◌, ◌==◌, ◌||◌, Bool, true, false, Option, Some, None, List, [], ◌∷◌, slice_get, slice_index, if◌then◌else◌}
use Rattle.sh_types.specs.declared.code.Pair.{Pair}
use Rattle.sh_types.specs.declared.code.CodeRef.{CodeRef}
use Rattle.sh_types.specs.declared.code.CodeRef.TheVariants.{Root, At}
use Rattle.sh_types.specs.declared.code.RaPlace.{RaPlace}
use Rattle.sh_types.specs.declared.code.RaPlace.TheVariants.{Reg, Slot, Dropped}
use Rattle.sh_types.specs.declared.code.FrameState.{FrameState}
use Rattle.sh_types.specs.declared.code.Image.{Image}
use Rattle.sh_types.specs.declared.layouts.Layout.{Layout}
use Rattle.sh_types.specs.declared.runs.Hart.{Hart}
use Rattle.sh_machines.specs.Cipher.{unseal}
use Rattle.sh_types.specs.Place.{pair, cell_start, place_of}
use Rattle.sh_machines.specs.Shuffled.{Setting, Shuffled, key_of}
use Rattle.sh_types.specs.Image.{row_at}
use Rattle.sh_machines.specs.Kind.{is_call_kind, kind_at}
use Rattle.sh_machines.specs.Frame.{IsLoose}
use Rattle.sh_types.specs.Limits.{cell_size}
use Rattle.sh_machines.specs.Unmoved.{Thread, Content, Number, Return}

-- where the hart's return words lead
abbrev pub his : ℕ → Content → Option CodeRef
his n (Number v) = None
his n (Return k r) = if k == n then Some r else None

-- where each word that is a return word of the hart leads
abbrev pub mine : ℕ → (ℕ → Content) → ℕ → Option CodeRef
mine n u w = his n (u w)

-- there is one
abbrev pub is_some : {A : Type 0} → Option A → Bool
is_some None = false
is_some (Some x) = true

-- it is in the list
abbrev pub among : List ℕ → ℕ → Bool
among [] w = false
among (s ∷ ss) w = (w == s) || among ss w

-- the list rises, from above w on
abbrev pub IsAbove : ℕ → List ℕ → Type 0
IsAbove w [] = Unit {0}
IsAbove w (s ∷ ss) = (w < s) × IsAbove s ss

-- the list rises
abbrev pub Rises : List ℕ → Type 0
Rises [] = Unit {0}
Rises (s ∷ ss) = IsAbove s ss

-- sp at the start of the frame
abbrev pub top_of : ℕ → ℕ → ℕ
top_of sp d = (sp + d) % 2 ^ 64

-- a pair behind a call that has this row
pub record Behind (image : Image) (q : Pair) (row : FrameState) : Type 0 where
  pub off : ℕ
  pub after : q.off ≡ off + 4
  pub row_is : row_at image (pair q.func off) ≡ Some row
  pub calls : is_call_kind (kind_at image (pair q.func off)) ≡ true

-- a frame of the entry function leads to the root
abbrev pub FromEntry : Image → ℕ → CodeRef → Type 0
FromEntry image f r = f ≡ image.entry → r ≡ Root

-- the slot of a frame with this top
abbrev pub IsSlot : RaPlace → ℕ → ℕ → Type 0
IsSlot Reg top w = ⊥
IsSlot (Slot below) top w = 8 * w + below ≡ top
IsSlot Dropped top w = ⊥

-- the frames behind a return address, where sp is top there: their slots, each a word of the hart
abbrev pub IsChain : Image → (ℕ → Option CodeRef) → List ℕ → CodeRef → ℕ → Type 0
IsChain image mine [] Root top = Unit {0}
IsChain image mine [] (At q) top = (row : FrameState) × Behind image q row × IsLoose row.ra
IsChain image mine (w ∷ ws) Root top = ⊥
IsChain image mine (w ∷ ws) (At q) top =
    (row : FrameState) × Behind image q row × IsSlot row.ra (top_of top row.depth) w × ((r : CodeRef) × (mine w ≡ Some r) × FromEntry image q.func r × IsChain image mine ws r (top_of top row.depth))

-- the frames behind what is in ra
abbrev pub RaChain : Image → (ℕ → Option CodeRef) → ℕ → List ℕ → Option CodeRef → ℕ → Type 0
RaChain image mine f ws None top = ⊥
RaChain image mine f ws (Some r) top = FromEntry image f r × IsChain image mine ws r top

-- the frames of a hart in a state of its own
abbrev pub PcChain : Image → (ℕ → Option CodeRef) → ℕ → List ℕ → RaPlace → ℕ → Option CodeRef → Type 0
PcChain image mine f ws Reg top ra = RaChain image mine f ws ra top
PcChain image mine f [] (Slot below) top ra = ⊥
PcChain image mine f (w ∷ ws) (Slot below) top ra =
    (8 * w + below ≡ top) × ((r : CodeRef) × (mine w ≡ Some r) × FromEntry image f r × IsChain image mine ws r top)
PcChain image mine f ws Dropped top ra = ws ≡ []

-- a marked ra leads behind a call
abbrev pub RaFine : Image → Option CodeRef → Type 0
RaFine image None = Unit {0}
RaFine image (Some Root) = Unit {0}
RaFine image (Some (At q)) = (row : FrameState) × Behind image q row

-- the chain of a thread is sound, and its slots are the words that it owns
pub record Sound (image : Image) (t : Thread) (u : ℕ → Content) : Type 0 where
  pub row : FrameState
  pub row_is : row_at image t.at ≡ Some row
  pub ra : RaFine image t.ra
  pub slots : List ℕ
  pub chain : PcChain image (mine t.number u) t.at.func slots row.ra (top_of (slice_index t.regs 2) row.depth) t.ra
  pub rises : Rises slots
  pub exact : (w : ℕ) → is_some (mine t.number u w) ≡ among slots w

-- ---- the frames with no more than each of them says

-- the slots of the frames behind a return address, where sp is top there
abbrev pub AreFrames : Image → (ℕ → Option CodeRef) → List ℕ → CodeRef → ℕ → Type 0
AreFrames image mine [] Root top = Unit {0}
AreFrames image mine [] (At q) top = (row : FrameState) × Behind image q row × IsLoose row.ra
AreFrames image mine (w ∷ ws) Root top = ⊥
AreFrames image mine (w ∷ ws) (At q) top =
    (row : FrameState) × Behind image q row × IsSlot row.ra (top_of top row.depth) w × ((r : CodeRef) × (mine w ≡ Some r) × AreFrames image mine ws r (top_of top row.depth))

-- the slots of all frames, from the state of the pc on
abbrev pub FramesFrom : Image → (ℕ → Option CodeRef) → List ℕ → RaPlace → ℕ → Option CodeRef → Type 0
FramesFrom image mine ws Reg top None = ⊥
FramesFrom image mine ws Reg top (Some r) = AreFrames image mine ws r top
FramesFrom image mine [] (Slot below) top ra = ⊥
FramesFrom image mine (w ∷ ws) (Slot below) top ra =
    (8 * w + below ≡ top) × ((r : CodeRef) × (mine w ≡ Some r) × AreFrames image mine ws r top)
FramesFrom image mine ws Dropped top ra = ws ≡ []

-- The chain of a thread is sound: the pc has a row, in Reg ra is marked, each return address is the root or behind a
-- call that has a row, the slots rise, and they are exactly the words that the hart owns.
pub record IsSound (image : Image) (t : Thread) (u : ℕ → Content) : Type 0 where
  pub row : FrameState
  pub row_is : row_at image t.at ≡ Some row
  pub ra : RaFine image t.ra
  pub slots : List ℕ
  pub frames : FramesFrom image (mine t.number u) slots row.ra (top_of (slice_index t.regs 2) row.depth) t.ra
  pub rises : Rises slots
  pub exact : (w : ℕ) → is_some (mine t.number u w) ≡ among slots w

-- ---- what points into the copy of a layout

-- the address lies in the cell of the layout
abbrev pub IsInCell : Layout → ℕ → Type 0
IsInCell l a = (cell_start l.cell ≤ a) × (a < cell_start l.cell + cell_size)

-- no live layout but this one has its cell
abbrev pub IsAloneInCell : Setting → Shuffled → ℕ → Type 0
IsAloneInCell o s k = (l : ℕ) → (l ≡ s.newest) ⊎ ((s.older ≡ true) × (l + 1 ≡ s.newest)) → l ≢ k → (o.layout_at l).cell ≢ (o.layout_at k).cell

-- a live hart's pc, its marked ra, a return word of it once opened, or the place in a live layout of a function whose
-- address is taken
pub data CodeAddress (o : Setting) (s : Shuffled) (a : ℕ) : Type 0 where
  Pc : (n : ℕ) (h : Hart) → slice_get s.harts n ≡ Some h → h.live ≡ true → a ≡ h.pc → CodeAddress o s a
  Ra : (n : ℕ) (h : Hart) → slice_get s.harts n ≡ Some h → h.live ≡ true → h.marked ≡ true → a ≡ slice_index h.regs 1 → CodeAddress o s a
  Word : (n w : ℕ) (h : Hart) → slice_get s.harts n ≡ Some h → h.live ≡ true → (s.words w).owner ≡ Some h.number → a ≡ unseal (key_of (o.layout_at h.layout) h.number) (8 * w) (s.words w).value → CodeAddress o s a
  Row : (l k f : ℕ) → (l ≡ s.newest) ⊎ ((s.older ≡ true) × (l + 1 ≡ s.newest)) → slice_get o.image.rows k ≡ Some f → a ≡ place_of (o.layout_at l) (pair f 0) → CodeAddress o s a

-- a code address other than the root's lies in the cell of the layout, which no other live layout has
pub record PointsInto (o : Setting) (s : Shuffled) (k : ℕ) : Type 0 where
  pub address : ℕ
  pub is : CodeAddress o s address
  pub no_root : address ≢ 0
  pub inside : IsInCell (o.layout_at k) address
  pub alone : IsAloneInCell o s k
