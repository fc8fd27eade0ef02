-- SPDX-License-Identifier: Apache-2.0
use Rattle.std.proofs.Common.{◌∙◌, Some, None, Ok, Err, ap, arith}
use Rattle.ref_machine.specs.Losing.{any_reserved}
use Rattle.ref_machine.specs.Meant.{threads_of}
use Rattle.ref_machine.proofs.Places.{taken_at, put_back, on_err, ok_from, err_from, went_alone, refused, at_limit, below, is_due, settled_on, settled_short}
use Rattle.ref_machine.proofs.stepping.advance.Goals as goal

pub returns-in_err-pause-clause-err : goal.returns-in_err-pause-clause-err
returns-in_err-pause-clause-err g c =
    let i = c.args.code.now in
    let s = c.args.state.now in
    let n = c.args.at in
    let l = c.args.limit in
    let x = g.M.Contents.contents c.args.memory.now in
    let y = g.M.Contents.contents c.go_alone.new.memory in
    let w = c.any_reserved-watched.result in
    let t = c.index_mut-thread.result.now in
    let u = c.go_alone.new.thread in
    let k = c.go_alone.new.count in
    let a = taken_at s n x w t c.requires.sound c.requires.can (c.any_reserved-watched.ensures ∙ ap (λ ts. any_reserved n (threads_of ts)) c.deref.ensures.value) c.index_mut-thread.ensures.value in
    let went = went_alone i s n l x y w t u k _ c.go_alone.result (Err _) c.requires.sound a c.go_alone.ensures.pauses (put_back s n x y u) c.in_err-pause.was in
    on_err c.from_residual.result _ (refused i s n l x y w t u k _ _ went)

pub settle-requires-clause-due : goal.settle-requires-clause-due
settle-requires-clause-due g c =
    let i = c.args.code.now in
    let s = c.args.state.now in
    let n = c.args.at in
    let l = c.args.limit in
    let x = g.M.Contents.contents c.args.memory.now in
    let y = g.M.Contents.contents c.go_alone.new.memory in
    let w = c.any_reserved-watched.result in
    let t = c.index_mut-thread.result.now in
    let u = c.go_alone.new.thread in
    let k = c.go_alone.new.count in
    let a = taken_at s n x w t c.requires.sound c.requires.can (c.any_reserved-watched.ensures ∙ ap (λ ts. any_reserved n (threads_of ts)) c.deref.ensures.value) c.index_mut-thread.ensures.value in
    let went = went_alone i s n l x y w t u k _ c.go_alone.result (Ok (Some c.in-Some.did)) c.requires.sound a c.go_alone.ensures.pauses (put_back s n x y u) (c.in_ok-pause.was ∙ ap Ok c.in-Some.is) in
    is_due i s n l x y w t u k _ c.in-Some.did went

pub settle-requires-clause-count : goal.settle-requires-clause-count
settle-requires-clause-count g c =
    let i = c.args.code.now in
    let s = c.args.state.now in
    let n = c.args.at in
    let l = c.args.limit in
    let x = g.M.Contents.contents c.args.memory.now in
    let y = g.M.Contents.contents c.go_alone.new.memory in
    let w = c.any_reserved-watched.result in
    let t = c.index_mut-thread.result.now in
    let u = c.go_alone.new.thread in
    let k = c.go_alone.new.count in
    let a = taken_at s n x w t c.requires.sound c.requires.can (c.any_reserved-watched.ensures ∙ ap (λ ts. any_reserved n (threads_of ts)) c.deref.ensures.value) c.index_mut-thread.ensures.value in
    let went = went_alone i s n l x y w t u k _ c.go_alone.result (Ok (Some c.in-Some.did)) c.requires.sound a c.go_alone.ensures.pauses (put_back s n x y u) (c.in_ok-pause.was ∙ ap Ok c.in-Some.is) in
    let less = below i s n l x y w t u k _ c.in-Some.did went in
    omega (arith, less, c.ranges.limit.fits)

pub returns-in-Some-clause-ok : goal.returns-in-Some-clause-ok
returns-in-Some-clause-ok g c =
    let i = c.args.code.now in
    let s = c.args.state.now in
    let n = c.args.at in
    let l = c.args.limit in
    let x = g.M.Contents.contents c.args.memory.now in
    let y = g.M.Contents.contents c.go_alone.new.memory in
    let w = c.any_reserved-watched.result in
    let t = c.index_mut-thread.result.now in
    let u = c.go_alone.new.thread in
    let k = c.go_alone.new.count in
    let a = taken_at s n x w t c.requires.sound c.requires.can (c.any_reserved-watched.ensures ∙ ap (λ ts. any_reserved n (threads_of ts)) c.deref.ensures.value) c.index_mut-thread.ensures.value in
    let went = went_alone i s n l x y w t u k _ c.go_alone.result (Ok (Some c.in-Some.did)) c.requires.sound a c.go_alone.ensures.pauses (put_back s n x y u) (c.in_ok-pause.was ∙ ap Ok c.in-Some.is) in
    ok_from c.settle.result _ _ _ c.settle.ensures.state c.settle.ensures.count (λ es ec. settled_on i s n l x y w t u k _ c.in-Some.did _ _ went es ec)

pub returns-in-Some-clause-err : goal.returns-in-Some-clause-err
returns-in-Some-clause-err g c =
    let i = c.args.code.now in
    let s = c.args.state.now in
    let n = c.args.at in
    let l = c.args.limit in
    let x = g.M.Contents.contents c.args.memory.now in
    let y = g.M.Contents.contents c.go_alone.new.memory in
    let w = c.any_reserved-watched.result in
    let t = c.index_mut-thread.result.now in
    let u = c.go_alone.new.thread in
    let k = c.go_alone.new.count in
    let a = taken_at s n x w t c.requires.sound c.requires.can (c.any_reserved-watched.ensures ∙ ap (λ ts. any_reserved n (threads_of ts)) c.deref.ensures.value) c.index_mut-thread.ensures.value in
    let went = went_alone i s n l x y w t u k _ c.go_alone.result (Ok (Some c.in-Some.did)) c.requires.sound a c.go_alone.ensures.pauses (put_back s n x y u) (c.in_ok-pause.was ∙ ap Ok c.in-Some.is) in
    err_from c.settle.result _ _ _ _ c.settle.ensures.err_call c.settle.ensures.err c.settle.ensures.err_count (λ ed es ec. settled_short i s n l x y w t u k _ c.in-Some.did _ _ went ed es ec)

pub returns-in-None-clause-ok : goal.returns-in-None-clause-ok
returns-in-None-clause-ok g c =
    let i = c.args.code.now in
    let s = c.args.state.now in
    let n = c.args.at in
    let l = c.args.limit in
    let x = g.M.Contents.contents c.args.memory.now in
    let y = g.M.Contents.contents c.go_alone.new.memory in
    let w = c.any_reserved-watched.result in
    let t = c.index_mut-thread.result.now in
    let u = c.go_alone.new.thread in
    let k = c.go_alone.new.count in
    let a = taken_at s n x w t c.requires.sound c.requires.can (c.any_reserved-watched.ensures ∙ ap (λ ts. any_reserved n (threads_of ts)) c.deref.ensures.value) c.index_mut-thread.ensures.value in
    let went = went_alone i s n l x y w t u k _ c.go_alone.result (Ok None) c.requires.sound a c.go_alone.ensures.pauses (put_back s n x y u) (c.in_ok-pause.was ∙ ap Ok c.in-None.is) in
    at_limit i s n l x y w t u k _ went c.requires.count
