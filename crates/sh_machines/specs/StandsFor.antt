-- SPDX-License-Identifier: Apache-2.0
-- When a shuffled state stands for an unmoved one. This project's own.
use Rattle.std.specs.Prelude.{◌≡◌, ◌≢◌, ℕ, ◌*◌, true, Option, Some, None, List, [], ◌∷◌, length, slice_index, slice_get}
use Rattle.sh_types.specs.declared.code.CodeRef.{CodeRef}
use Rattle.sh_types.specs.declared.code.CodeRef.TheVariants.{Root, At}
use Rattle.sh_types.specs.declared.layouts.Layout.{Layout}
use Rattle.sh_types.specs.declared.runs.Hart.{Hart}
use Rattle.sh_machines.specs.Cipher.{unseal}
use Rattle.sh_types.specs.Place.{place_of}
use Rattle.sh_machines.specs.Shuffled.{Setting, Owned, owned, key_of, Shuffled}
use Rattle.sh_machines.specs.Unmoved.{Thread, Content, Number, Return, is_return, Unmoved}

-- the address of a return address; 0 is the root's
abbrev pub ref_place : Layout → CodeRef → ℕ
ref_place l Root = 0
ref_place l (At p) = place_of l p

-- the number in ra is that of the return address
abbrev pub RaIs : Layout → ℕ → Option CodeRef → Type 0
RaIs l a None = Unit {0}
RaIs l a (Some r) = a ≡ ref_place l r

-- a live hart on a layout is where the thread is, with its registers
pub record RunsAs (l : Layout) (h : Hart) (t : Thread) : Type 0 where
  pub pc : h.pc ≡ place_of l t.at
  pub many : length h.regs ≡ length t.regs
  pub regs : (i : ℕ) → (is_return t.ra ≡ true → i ≢ 1) → slice_index h.regs i ≡ slice_index t.regs i
  pub marked : h.marked ≡ is_return t.ra
  pub ra : RaIs l (slice_index h.regs 1) t.ra
  pub reserved : h.reserved ≡ t.reserved

-- the same hart: with the same number, both live or both ended with the same code; a live one runs as the other
pub record HartStands (o : Setting) (h : Hart) (t : Thread) : Type 0 where
  pub number : h.number ≡ t.number
  pub live : h.live ≡ t.live
  pub code : h.code ≡ t.code
  pub runs : h.live ≡ true → RunsAs (o.layout_at h.layout) h t

-- each of the harts stands for that of its number
abbrev pub HartsStand : Setting → List Hart → List Thread → Type 0
HartsStand o [] [] = Unit {0}
HartsStand o [] (t ∷ ts) = ⊥
HartsStand o (h ∷ hs) [] = ⊥
HartsStand o (h ∷ hs) (t ∷ ts) = HartStands o h t × HartsStand o hs ts

-- a word that is no return word is equal; a return word is its hart's, and opens to the place
abbrev pub ContentStands : (ℕ → Layout) → ℕ → Owned → Content → Type 0
ContentStands on w c (Number v) = c ≡ owned v None
ContentStands on w c (Return k r) = (c.owner ≡ Some k) × (unseal (key_of (on k) k) (8 * w) c.value ≡ ref_place (on k) r)

-- each word stands for that of its number
abbrev pub WordsStand : (ℕ → Layout) → (ℕ → Owned) → (ℕ → Content) → Type 0
WordsStand on m u = (w : ℕ) → ContentStands on w (m w) (u w)

-- the layout of a hart
abbrev pub layout_number : Option Hart → ℕ
layout_number None = 0
layout_number (Some h) = h.layout

-- the layout of each hart
abbrev pub layouts_of : Setting → List Hart → ℕ → Layout
layouts_of o hs k = o.layout_at (layout_number (slice_get hs k))

-- the harts, the words, the input that is left, the output and the end
pub record StandsFor (o : Setting) (s : Shuffled) (u : Unmoved) : Type 0 where
  pub harts : HartsStand o s.harts u.threads
  pub words : WordsStand (layouts_of o s.harts) s.words u.contents
  pub unread : s.unread ≡ u.unread
  pub output : s.output ≡ u.output
  pub end : s.end ≡ u.end
