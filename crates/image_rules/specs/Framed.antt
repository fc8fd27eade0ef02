-- SPDX-License-Identifier: Apache-2.0
-- Which files are accepted, and the image of such a file: the bound image with the rows of each function's frame, which the
-- walk of the frame grammar finds, and the numbers that its reached AUIPC words give; and which function is refused, and
-- why. This project's own; AUIPC is that of the RISC-V Unprivileged ISA ("Integer Computational Instructions").
use Rattle.std.specs.Prelude.{◌≡◌, ℕ, suc, ◌+◌, ◌*◌, ◌==◌, Bool, Option, Some, None, is_none, List, [], ◌∷◌, ◌++◌, slice_get, slice_index_or, if◌then◌else◌}
use Rattle.sh_types.specs.declared.code.FrameState.{FrameState}
use Rattle.sh_types.specs.declared.code.FrameTable.{FrameTable}
use Rattle.sh_types.specs.declared.code.Function.{Function}
use Rattle.sh_types.specs.declared.code.Image.{Image}
use Rattle.sh_types.specs.declared.code.Rule.{Rule}
use Rattle.sh_types.specs.declared.relocs.Reloc.{Reloc}
use Rattle.elf_rules.specs.declared.refusals.LoadFault.{LoadFault}
use Rattle.elf_rules.specs.declared.refusals.LoadFault.TheVariants as load
use Rattle.elf_rules.specs.Bindable.{binding_refusal, or_later}
use Rattle.elf_rules.specs.Relocs.{relocs_of}
use Rattle.image_rules.specs.Binding.{literal_of}
use Rattle.image_rules.specs.Bound.{bound_image}
use Rattle.image_rules.specs.Refusals.{record_refusal, refusal_or}
use Rattle.sh_machines.specs.Copy.{literal_at}
use Rattle.sh_machines.specs.Grammar.{answer_of, body_of}
use Rattle.sh_machines.specs.Walk.{Turn, Goes, Ends, Fails}

-- ---- which function is refused

-- the walk's answer on a function of an image
abbrev pub answer_in : Image → ℕ → Turn FrameState Rule
answer_in i f = answer_of (body_of i f)

-- the offset at which the walk refuses, and the rule
abbrev pub walk_refusal : Turn FrameState Rule → Option (ℕ × Rule)
walk_refusal (Goes w) = None
walk_refusal (Ends table) = None
walk_refusal (Fails at rule) = Some (4 * at, rule)

-- where a function of an image is refused, and by which rule: by the first record that refuses it, else by its walk
unfoldable pub function_refusal : Image → List Reloc → ℕ → Function → Option (ℕ × Rule)
function_refusal i relocs f g = refusal_or (record_refusal (f == i.entry) g relocs) (walk_refusal (answer_in i f))

-- no function of the image is refused
abbrev pub AllFit : Image → List Reloc → Type 0
AllFit i relocs = (f : ℕ) (g : Function) → slice_get i.functions f ≡ Some g → function_refusal i relocs f g ≡ None

-- ---- the rows of frames

-- the rows that the walk ends with
abbrev pub rows_in : Turn FrameState Rule → List (Option FrameState)
rows_in (Goes w) = []
rows_in (Ends table) = table
rows_in (Fails at rule) = []

-- the rows of each function, from function f on
abbrev pub frames_from : Image → (f : ℕ) → List Function → List FrameTable
frames_from i f [] = []
frames_from i f (g ∷ gs) = record { rows = rows_in (answer_in i f) } ∷ frames_from i (suc f) gs

-- an image with the rows of its functions
unfoldable pub with_frames : Image → Image
with_frames i = record i { frames = frames_from i 0 i.functions }

-- ---- literals

-- what the reached AUIPC words of a function give, from word k on, which stands at an address
abbrev pub literals_from : Image → List Reloc → (f address k : ℕ) → List ℕ → List ℕ
literals_from i relocs f address k [] = []
literals_from i relocs f address k (w ∷ ws) =
    if literal_at i f k then literal_of i.functions relocs address w ∷ literals_from i relocs f (address + 4) (suc k) ws
    else literals_from i relocs f (address + 4) (suc k) ws

-- those of each function, from function f on, in the order of the functions
abbrev pub all_literals : Image → List Reloc → (f : ℕ) → List Function → List ℕ
all_literals i relocs f [] = []
all_literals i relocs f (g ∷ gs) =
    literals_from i relocs f g.home 0 (slice_index_or i.words f []) ++ all_literals i relocs (suc f) gs

-- an image with its literals
unfoldable pub with_literals : List Reloc → Image → Image
with_literals relocs i = record i { literals = all_literals i relocs 0 i.functions }

-- ---- the image

-- the framed image of a file whose functions are not refused
unfoldable pub framed_image : List ℕ → Image
framed_image b = with_literals (relocs_of b) (with_frames (bound_image b))

-- ---- which files are accepted

-- a function that is refused, as a refusal of its file
abbrev pub refused : ℕ → Function → Option (ℕ × Rule) → Option LoadFault
refused f g None = None
refused f g (Some r) = Some (load.Refused f g.name r.0 r.1)

-- the first function of an image that is refused, from function f on
abbrev pub first_refused : Image → List Reloc → (f : ℕ) → List Function → Option LoadFault
first_refused i relocs f [] = None
first_refused i relocs f (g ∷ gs) = or_later (refused f g (function_refusal i relocs f g)) (first_refused i relocs (suc f) gs)

-- the first refusal of a file: what refuses it before frames, then its first function that is refused
unfoldable pub refusal_of : List ℕ → Option LoadFault
refusal_of b = or_later (binding_refusal b) (first_refused (bound_image b) (relocs_of b) 0 (bound_image b).functions)

-- the file is accepted
abbrev pub is_accepted : List ℕ → Bool
is_accepted b = is_none (refusal_of b)

abbrev pub Accepts : List ℕ → Type 0
Accepts b = refusal_of b ≡ None
