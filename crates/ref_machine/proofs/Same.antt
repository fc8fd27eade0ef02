-- SPDX-License-Identifier: Apache-2.0
-- Which addresses are mapped is all that an instruction asks of the regions.
use Rattle.std.proofs.Common.{◌≡◌, ℕ, List, refl, ap, ◌∙◌, subst}
use Rattle.std.specs.Prelude.{slice_index, ◌==◌, ◌&&◌, if◌then◌else◌}
use Rattle.std.proofs.Math.Path.{fun_ext}
use Rattle.sh_types.specs.declared.code.Image.{Image}
use Rattle.sh_types.specs.declared.code.Pair.{Pair}
use Rattle.sh_types.specs.declared.code.Region.{Region}
use Rattle.sh_types.specs.declared.runs.Trap.TheVariants as trap
use Rattle.sh_machines.specs.Kind.{Kind, Sets, Computes, Passes, Loads, Stores, Atomics, Saves, Restores, CallsTo, JumpsTo, Branches, CallsThrough, JumpsThrough, GoesBack, Asks, Breaks, Illegal, Past, kind_at}
use Rattle.sh_machines.specs.Memory.{readable, writable}
use Rattle.sh_machines.specs.Need.{Need, Leaks, Makes, touching, answered}
use Rattle.sh_machines.specs.Unmoved.{Thread, Content, is_return, load_content, store_content, reserve_content, atomic_content, take_content, save_by, thread_does, thread_needs}
use Rattle.rv_table.specs.Operands.{plus_imm, both_ra, width_of, is_lr}
use Rattle.thread_acts.specs.Done.{meant, IsDone}
use Rattle.thread_acts.specs.declared.answers.Did.{Did}
use Rattle.thread_acts.specs.declared.threads.Thread as code
use Rattle.ref_machine.specs.Meant.{IsMapped}

same_does : (r r' : List Region) (t : Thread) (k : Kind Pair) → readable r ≡ readable r' → writable r ≡ writable r' → thread_does r t k ≡ thread_does r' t k
same_does r r' t (Sets rd v) er ew = refl
same_does r r' t (Computes i) er ew = refl
same_does r r' t Passes er ew = refl
same_does r r' t (Loads i) er ew =
    ap (λ can. if is_return t.ra && (i.rs1 == 1) then Makes Leaks else touching can (width_of i.op) trap.Misaligned trap.Load (plus_imm (slice_index t.regs i.rs1) i.imm) (λ c. load_content t i (plus_imm (slice_index t.regs i.rs1) i.imm) c)) er
same_does r r' t (Stores i) er ew =
    ap (λ can. if is_return t.ra && both_ra i then Makes Leaks else touching can (width_of i.op) trap.Misaligned trap.Store (plus_imm (slice_index t.regs i.rs1) i.imm) (λ c. store_content t (plus_imm (slice_index t.regs i.rs1) i.imm) (width_of i.op) (slice_index t.regs i.rs2) c)) ew
same_does r r' t (Atomics i) er ew =
    ap (λ can. if is_return t.ra && both_ra i then Makes Leaks else if is_lr i.op then touching can (width_of i.op) trap.Misaligned trap.Load (slice_index t.regs i.rs1) (λ c. reserve_content t i (slice_index t.regs i.rs1) c) else touching (writable r) (width_of i.op) trap.Misaligned trap.Store (slice_index t.regs i.rs1) (λ c. atomic_content t i (slice_index t.regs i.rs1) (slice_index t.regs i.rs2) c)) er
    ∙ ap (λ can. if is_return t.ra && both_ra i then Makes Leaks else if is_lr i.op then touching (readable r') (width_of i.op) trap.Misaligned trap.Load (slice_index t.regs i.rs1) (λ c. reserve_content t i (slice_index t.regs i.rs1) c) else touching can (width_of i.op) trap.Misaligned trap.Store (slice_index t.regs i.rs1) (λ c. atomic_content t i (slice_index t.regs i.rs1) (slice_index t.regs i.rs2) c)) ew
same_does r r' t (Saves imm) er ew = ap (λ can. save_by can t (plus_imm (slice_index t.regs 2) imm) t.ra) ew
same_does r r' t (Restores imm) er ew =
    ap (λ can. touching can 8 trap.Misaligned trap.Load (plus_imm (slice_index t.regs 2) imm) (λ c. take_content t (plus_imm (slice_index t.regs 2) imm) c)) er
same_does r r' t (CallsTo p) er ew = refl
same_does r r' t (JumpsTo p) er ew = refl
same_does r r' t (Branches i p) er ew = refl
same_does r r' t (CallsThrough rs1 imm way) er ew = refl
same_does r r' t (JumpsThrough rs1 imm way) er ew = refl
same_does r r' t (GoesBack imm) er ew = refl
same_does r r' t Asks er ew = refl
same_does r r' t Breaks er ew = refl
same_does r r' t Illegal er ew = refl
same_does r r' t Past er ew = refl

pub reads_alike : (i : Image) (r : List Region) → IsMapped i r → readable r ≡ readable i.regions
reads_alike i r im = fun_ext (λ a. fun_ext (λ n. im.reads a n))

pub writes_alike : (i : Image) (r : List Region) → IsMapped i r → writable r ≡ writable i.regions
writes_alike i r im = fun_ext (λ a. fun_ext (λ n. im.writes a n))

-- what an instruction demands of the memory is what it demands of the image
pub needs_are : (i : Image) (r : List Region) (t : Thread) → IsMapped i r → thread_does r t (kind_at i t.at) ≡ thread_needs i t
unfolding thread_needs
needs_are i r t im = same_does r i.regions t (kind_at i t.at) (reads_alike i r im) (writes_alike i r im)

-- what was done over the memory was done of the image
pub done_is : (i : Image) (r : List Region) (t t' : code.Thread) (x x' : ℕ → Content) (did : Did) → IsMapped i r → IsDone (answered (thread_does r (meant t) (kind_at i t.at)) x) t t' x x' did → IsDone (answered (thread_needs i (meant t)) x) t t' x x' did
done_is i r t t' x x' did im d = subst (λ (need : Need Thread Content). IsDone (answered need x) t t' x x' did) (needs_are i r (meant t) im) d
