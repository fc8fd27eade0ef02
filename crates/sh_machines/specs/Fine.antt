-- SPDX-License-Identifier: Apache-2.0
-- The images that are run: words, classes and frames fit each other. This project's own.
use Rattle.std.specs.Prelude.{◌≡◌, ◌≢◌, ℕ, ◌<◌, ◌≤◌, ◌%◌, ◌^◌, ◌==◌, ◌&&◌, ◌||◌, true, Option, Some, None, length, slice_index, slice_get}
use Rattle.sh_types.specs.declared.code.FrameState.{FrameState}
use Rattle.sh_types.specs.declared.code.Image.{Image}
use Rattle.sh_types.specs.declared.code.Pair.{Pair}
use Rattle.sh_types.specs.declared.code.Region.{Region}
use Rattle.sh_types.specs.declared.code.Site.{Site}
use Rattle.sh_types.specs.declared.code.Site.TheVariants.{Plain, Literal, InnerJump, InnerBranch, DirectCall, DirectTail, IndirectCall, IndirectTail, ReturnLike, Environment, Stop}
use Rattle.sh_types.specs.declared.code.Site.TheVariants as site
use Rattle.rv_table.specs.declared.instructions.Instr.{Instr}
use Rattle.rv_table.specs.declared.instructions.Op.TheVariants.{Auipc, Jalr}
use Rattle.rv_table.specs.Arithmetic.{is_arithmetic}
use Rattle.sh_machines.specs.Copy.{literals_below}
use Rattle.rv_table.specs.Decoding.{decoded}
use Rattle.sh_machines.specs.Frame.{FramesFit}
use Rattle.sh_types.specs.Image.{sizes_of, word_at, site_at, row_at}
use Rattle.sh_machines.specs.Kind.{opcode_of, is_system}
use Rattle.sh_types.specs.Limits.{first_cell, most_literals}
use Rattle.rv_table.specs.Operands.{plus_imm}
use Rattle.sh_types.specs.Place.{WellPlaced}
use Rattle.sh_machines.specs.Shuffled.{Setting, key_of}
use Rattle.sh_machines.specs.Tokens.{AreInOrder}

-- the instruction of a word is of the word's class
abbrev pub SiteFits : Image → Pair → Site → Option Instr → Type 0
SiteFits image p Plain None = ⊥
SiteFits image p Plain (Some i) =
    (is_arithmetic i.op || (opcode_of i.op == 0x37) || (opcode_of i.op == 0x03) || (opcode_of i.op == 0x23) || (opcode_of i.op == 0x2f) || (opcode_of i.op == 0x0f)) ≡ true
SiteFits image p Literal None = ⊥
SiteFits image p Literal (Some i) = i.op ≡ Auipc
SiteFits image p (InnerJump to) None = ⊥
SiteFits image p (InnerJump to) (Some i) = (opcode_of i.op ≡ 0x6f) × (i.rd ≡ 0) × (plus_imm p.off i.imm ≡ to) × (to < slice_index (sizes_of image) p.func)
SiteFits image p (InnerBranch to) None = ⊥
SiteFits image p (InnerBranch to) (Some i) = (opcode_of i.op ≡ 0x63) × (plus_imm p.off i.imm ≡ to) × (to < slice_index (sizes_of image) p.func)
SiteFits image p (DirectCall g) None = ⊥
SiteFits image p (DirectCall g) (Some i) = (i.rd ≡ 1) × (g < length (sizes_of image))
SiteFits image p (DirectTail g) None = ⊥
SiteFits image p (DirectTail g) (Some i) = (i.rd ≡ 0) × (g < length (sizes_of image))
SiteFits image p IndirectCall None = ⊥
SiteFits image p IndirectCall (Some i) = (i.op ≡ Jalr) × (i.rd ≡ 1)
SiteFits image p IndirectTail None = ⊥
SiteFits image p IndirectTail (Some i) = (i.op ≡ Jalr) × (i.rd ≡ 0)
SiteFits image p ReturnLike None = ⊥
SiteFits image p ReturnLike (Some i) = ((opcode_of i.op == 0x67) && ((i.rd == 0) && (i.rs1 == 1))) ≡ true
SiteFits image p Environment None = ⊥
SiteFits image p Environment (Some i) = is_system i 0 ≡ true
SiteFits image p Stop None = Unit {0}
SiteFits image p Stop (Some i) = is_system i 1 ≡ true
SiteFits image p (site.Bad rule) i = ⊥

-- the premise of all laws: words, classes, frames, rows, labels, literals and regions fit each other
pub record IsFine (image : Image) : Type 0 where
  pub entry : image.entry < length (sizes_of image)
  pub whole : (f : ℕ) → slice_index (sizes_of image) f % 4 ≡ 0
  -- memory lies below the cells
  pub low : (k : ℕ) (r : Region) → slice_get image.regions k ≡ Some r → r.end ≤ first_cell
  pub frames : FramesFit image
  -- the functions whose address is taken are functions, and none is the entry
  pub rows : (k f : ℕ) → slice_get image.rows k ≡ Some f → (f < length (sizes_of image)) × (f ≢ image.entry)
  pub ordered : AreInOrder (sizes_of image) image.rows image.labels
  -- the literals' numbers can be written
  pub literals : literals_below image (length (sizes_of image)) ≤ most_literals
  -- behind the last word of a function there is none
  pub sites : (p : Pair) (row : FrameState) → row_at image p ≡ Some row → p.off < slice_index (sizes_of image) p.func → SiteFits image p (site_at image p) (decoded (word_at image p))

-- the image is fine, and each layout is one of its functions
pub record IsSetting (o : Setting) : Type 0 where
  pub image : IsFine o.image
  pub placed : (k : ℕ) → WellPlaced (o.layout_at k)
  pub sizes : (k : ℕ) → (o.layout_at k).sizes ≡ sizes_of o.image
  pub keys : (k n : ℕ) → key_of (o.layout_at k) n < 2 ^ 64
