-- SPDX-License-Identifier: Apache-2.0
-- What the laws of both machines say of every list of events that is legal in a setting. This project's own.
use Rattle.std.specs.Prelude.{◌≡◌, ℕ, ℤ, ◌/◌, ◌≤◌, true, List, Some, length, slice_get, slice_index}
use Rattle.sh_types.specs.declared.layouts.Layout.{Layout}
use Rattle.sh_types.specs.declared.runs.Event.{Event}
use Rattle.sh_types.specs.declared.runs.Hart.{Hart}
use Rattle.sh_types.specs.Limits.{most_harts}
use Rattle.sh_machines.specs.Chain.{Sound}
use Rattle.sh_machines.specs.Copy.{copied}
use Rattle.sh_machines.specs.Event.{state_after, IsLegalIn, written}
use Rattle.sh_machines.specs.Fine.{IsSetting}
use Rattle.sh_machines.specs.Kind.{Restores, tables_of}
use Rattle.sh_machines.specs.Need.{answered}
use Rattle.rv_table.specs.Operands.{plus_imm}
use Rattle.sh_machines.specs.Shuffled.{Setting, Owned, moved_of, kind_there}
use Rattle.sh_machines.specs.StandsFor.{HartStands, RunsAs, WordsStand}
use Rattle.sh_machines.specs.Unmoved.{Thread, Content, thread_needs, unmoved_run}
use Rattle.sh_law.specs.Agrees.{Agrees}
use Rattle.sh_law.specs.Reach.{IsPlaced}
use Rattle.sh_law.specs.Sound.{IsOn, Stays}

pub record Laws : Type 0 where
  pub few : (o : Setting) (events : List Event) → IsLegalIn o events → length (state_after o events).harts ≤ most_harts
  pub number : (o : Setting) (events : List Event) (n : ℕ) (h : Hart) → IsSetting o → IsLegalIn o events → slice_get (state_after o events).harts n ≡ Some h → h.number ≡ n
  pub place : (o : Setting) (events : List Event) (n : ℕ) (h : Hart) → IsSetting o → IsLegalIn o events → slice_get (state_after o events).harts n ≡ Some h → h.live ≡ true → IsPlaced o h
  pub on : (o : Setting) (events : List Event) (n : ℕ) (h : Hart) → IsSetting o → IsLegalIn o events → slice_get (state_after o events).harts n ≡ Some h → h.live ≡ true → IsOn (state_after o events).newest (state_after o events).older h.layout
  pub meets : (o : Setting) (events : List Event) (n : ℕ) (h : Hart) (imm : ℤ) → IsSetting o → IsLegalIn o events → slice_get (state_after o events).harts n ≡ Some h → h.live ≡ true → kind_there (tables_of o.image) (o.layout_at h.layout) h.pc (copied o.image (o.layout_at h.layout) h.pc) ≡ Restores imm → ((state_after o events).words (plus_imm (slice_index h.regs 2) imm / 8)).owner ≡ Some h.number
  pub stand : (o : Setting) (events : List Event) → IsSetting o → IsLegalIn o events → Stays o (state_after o events) (unmoved_run o.image o.input (written events))
  pub agree : (o : Setting) (on : ℕ → Layout) (h : Hart) (t : Thread) (m : ℕ → Owned) (u : ℕ → Content) → IsSetting o → on t.number ≡ o.layout_at h.layout → WordsStand on m u → HartStands o h t → RunsAs (o.layout_at h.layout) h t → length t.regs ≡ 32 → Sound o.image t u → Agrees o on h t (moved_of o h m) (answered (thread_needs o.image t) u)
