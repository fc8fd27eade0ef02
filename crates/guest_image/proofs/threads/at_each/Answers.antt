-- SPDX-License-Identifier: Apache-2.0
use Rattle.std.proofs.Crossing.{crosses, frees}
use denote.Param.Send.{sendable}
use Rattle.rayon.proofs.ListFacts.{IfOk-then}
use Rattle.guest_image.proofs.threads.at_each.Goals as goal

-- one line for each `Send` and `Sync`, the allocator, and then what the function asks at each number
pub collect-requires : goal.collect-requires
collect-requires g c =
    (search (sendable, crosses) depth 40, (search (sendable, crosses) depth 40, (search (sendable, crosses) depth 40, (search (sendable, crosses) depth 40, (search (sendable, crosses) depth 40, (frees, rw (c.map.ensures.base, c.map.ensures.f) c.requires))))))

pub returns : goal.returns
returns g c =
    IfOk-then c.collect.result _ _ c.collect.ensures (λ v h.
    let chain = rw (c.map.ensures.base, c.map.ensures.f) at h.1 in
    rw h.2 chain)
