use Rattle.std.proofs.Common.{◌≤◌, List, ℕ, ap, arith, drop, length, subst}
use Rattle.hs_side.specs.Steps.{IsPayload}
use Rattle.hs_side.proofs.FrameLemmas.{frame_err, frame_none}
use Rattle.hs_side.proofs.frame.read_frame.Goals as goal

pub returns-in-Err-clause-exact : goal.returns-in-Err-clause-exact
returns-in-Err-clause-exact g c told =
    let seen = (g.D.Disk.stands c.args.disk.now).seen c.args.side in
    let new = c.read_payload.new.held.items in
    let exact = subst (λ (l : List ℕ). IsPayload c.read_payload.result c.args.at seen (drop (length l) new)) c.clear.ensures.items (c.read_payload.ensures.exact told) in
    frame_err c.in-Err.fault c.args.at c.args.last seen new (rw c.in-Err.is at exact)

pub returns-in-Ok-None-clause-exact : goal.returns-in-Ok-None-clause-exact
returns-in-Ok-None-clause-exact g c told =
    let seen = (g.D.Disk.stands c.args.disk.now).seen c.args.side in
    let new = c.read_payload.new.held.items in
    let exact = subst (λ (l : List ℕ). IsPayload c.read_payload.result c.args.at seen (drop (length l) new)) c.clear.ensures.items (c.read_payload.ensures.exact told) in
    let short : length new ≤ 600000 = omega (arith, c.in-Ok.ensures.short, ap (λ (l : List ℕ). length l) c.clear.ensures.items) in
    frame_none c.args.at c.args.last seen new c.deref.result.now short c.deref.ensures.value (rw c.in-Ok.is at exact) (rw c.in-Ok-None.field-0-is at c.in-Ok-None.ensures.exact)
