-- SPDX-License-Identifier: Apache-2.0
use Rattle.std.proofs.Common.{◌≡◌, ◌+◌, ◌-◌, ◌≤◌, false}
use Rattle.hart_turns.specs.Meant.{meant, IsMapped, setting_of}
use Rattle.hart_turns.specs.Next.{any_reserved}
use Rattle.hart_turns.proofs.Keeping.{Kept}
use Rattle.hart_turns.proofs.stepping.run_to_call.Given as goal

abbrev pub invariant-loop-done : goal.invariant-loop-done
invariant-loop-done g l =
    record {
      few : l.done ≤ l.most;
      kept : Kept (setting_of l.code) l.at l.done (meant l.code l.fn.state) (meant l.code l.state) (g.F.Fetch.asked l.fn.fetch) (g.F.Fetch.asked l.fetch);
      mapped : IsMapped l.code.image.now l.state.memory;
      free : l.watched ≡ false → any_reserved l.at l.state.harts.items ≡ false;
      count : l.state.count ≡ l.fn.state.count + l.done;
    }

abbrev pub decreases-loop-done : goal.decreases-loop-done
decreases-loop-done g l = l.most - l.done
