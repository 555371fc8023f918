use Rattle.std.proofs.Common.{◌∙◌, subst, refl, ap, Ok, Err, Some, None}
use Rattle.hs_ports.specs.Disk.{Standing}
use Rattle.hs_side.specs.Standing.{SideState}
use Rattle.hs_side.specs.Steps.{IsHeadOf, Ended}
use Rattle.hs_side.proofs.ScanLemmas.{headed, opens_head, opens_blank, opens_log, ended_has}
use Rattle.hs_side.proofs.open.read_log.Goals as goal

pub returns-in-Ok-None-clause-exact : goal.returns-in-Ok-None-clause-exact
returns-in-Ok-None-clause-exact g c told =
    let same = c.len.ensures.same told in
    let seen = (g.D.Disk.stands c.args.disk.now).seen c.args.side in
    let head = rw c.in-Ok-None.field-0-is at (c.in-Ok-None.ensures.exact told) in
    let blank = subst (λ (d : Standing). IsHeadOf (Ok None) (d.seen c.args.side)) same head in
    opens_blank seen c.blank.result blank (ap (λ (k : SideState). k.head) c.blank.ensures) (ap (λ (k : SideState). k.places) c.blank.ensures) (ap (λ (k : SideState). k.waiting) c.blank.ensures)

pub returns-in-Err-clause-exact : goal.returns-in-Err-clause-exact
returns-in-Err-clause-exact g c told =
    let same = c.len.ensures.same told in
    opens_head c.in-Err.fault _ (subst (λ (d : Standing). IsHeadOf (Err c.in-Err.fault) (d.seen c.args.side)) same (c.in-Err.ensures.exact told))

pub returns-clause-exact : goal.returns-clause-exact
returns-clause-exact g c told =
    let same = c.len.ensures.same told in
    let seen = (g.D.Disk.stands c.args.disk.now).seen c.args.side in
    let x = c.in-Ok-Some.head in
    let head = subst (λ (d : Standing). IsHeadOf (Ok (Some x)) (d.seen c.args.side)) same (rw c.in-Ok-Some.field-0-is at (c.in-Ok-Some.ensures.exact told)) in
    let both = c.read_head.ensures.same told ∙ same in
    let ended = subst (λ (d : Standing). Ended (d.seen c.args.side) c.in-Ok.scan.1 c.in-Ok.scan.2 c.in-Ok.scan.0.items) both (c.in-Ok.ensures.exact told) in
    let log : SideState = record { side = c.args.side; head = Some x; places = c.in-Ok.scan.0.items; end = c.in-Ok.scan.1; waiting = None } in
    opens_log seen log c.in-Ok.scan.2 x refl refl ended (headed seen x head)

pub returns-clause-has : goal.returns-clause-has
returns-clause-has g c told =
    let same = c.len.ensures.same told in
    let seen = (g.D.Disk.stands c.args.disk.now).seen c.args.side in
    let x = c.in-Ok-Some.head in
    let head = subst (λ (d : Standing). IsHeadOf (Ok (Some x)) (d.seen c.args.side)) same (rw c.in-Ok-Some.field-0-is at (c.in-Ok-Some.ensures.exact told)) in
    let both = c.read_head.ensures.same told ∙ same in
    let ended = subst (λ (d : Standing). Ended (d.seen c.args.side) c.in-Ok.scan.1 c.in-Ok.scan.2 c.in-Ok.scan.0.items) both (c.in-Ok.ensures.exact told) in
    let log : SideState = record { side = c.args.side; head = Some x; places = c.in-Ok.scan.0.items; end = c.in-Ok.scan.1; waiting = None } in
    ended_has seen log c.in-Ok.scan.2 x (headed seen x head) refl ended
