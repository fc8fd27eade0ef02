-- SPDX-License-Identifier: Apache-2.0
use Rattle.std.proofs.Common.{◌≡◌, ℕ, List, ◌++◌, take, drop, sym, ap, ◌∙◌, append_assoc, take-append-drop, length, ◌-◌}
use Rattle.std.proofs.lemmas.List.{take_rest}
use Rattle.std.specs.declared.option.Option.{Option}
use Rattle.std.specs.Prelude.{Some, None}
use Rattle.std.specs.Io.KnownBytes.{Appends, Keeps}
use Rattle.std.proofs.KnownBytes.{Appends-trans}
use Rattle.sh_base.proofs.real_sink.write_whole.Goals as goal
use Rattle.sh_base.proofs.real_sink.write_whole.Goals.{in-Ok-write, in-Err-write+else-ne+else-tries-ge-TRIES}

moves_front : (all done rest : List ℕ) (n : ℕ) → all ≡ done ++ rest → all ≡ (done ++ take n rest) ++ take (length rest - n) (drop n rest)
moves_front all done rest n e =
    e ∙ ap (λ l. done ++ l) (sym (take-append-drop n rest)) ∙ sym (append_assoc done (take n rest) (drop n rest)) ∙ ap (λ l. (done ++ take n rest) ++ l) (sym (take_rest rest n))

kept : (a b c : Option (List ℕ)) (bytes : List ℕ) → Appends a b bytes → Keeps b c → Appends a c bytes
kept None b c bytes p q = tt
kept (Some x) None c bytes p q = absurd p
kept (Some x) (Some y) None bytes p q = absurd q
kept (Some x) (Some y) (Some z) bytes p q = q ∙ p

pub loop-preserved : goal.loop-preserved
loop-preserved g c =
    let (done, split, appended) = c.loop.invariant in
    let rest = c.loop.rest.now in
    elim c.match-write.branch [
      | in-Ok-write w ↦
          let n = w.in-Ok-write.count in (
            done ++ take n rest,
            moves_front _ done rest n split ∙ ap (λ r. (done ++ take n rest) ++ r.now) (sym w.rest-is),
            Appends-trans _ _ _ done (take n rest) appended w.in-Ok-write.ensures.bytes,
          )
      | in-Err-write+else-ne+else-tries-ge-TRIES w ↦ (done, split ∙ ap (λ r. done ++ r.now) (sym w.rest-is), kept _ _ _ done appended w.in-Err-write.ensures.bytes)
    ]
