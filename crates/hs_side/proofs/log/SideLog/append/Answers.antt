use Rattle.std.proofs.Common.{◌∙◌, List, ℕ, ap}
use Rattle.hs_side.specs.Standing.{SideState}
use Rattle.hs_side.proofs.AppendLemmas.{append_stays, append_moments, append_stands, append_same, append_later, new_log}
use Rattle.hs_side.proofs.log.SideLog.append.Goals as goal

pub returns-in_err-reserve-clause-any_moment : goal.returns-in_err-reserve-clause-any_moment
returns-in_err-reserve-clause-any_moment g c told last =
    let r = c.requires in
    let disk = c.args.disk.now in
    let size = g.D.Disk.size disk c.args.self.now.side in
    append_stays g.D.Disk.tells c.args.watch.now c.args.self.now size (g.D.Disk.stands disk) c.args.payload.now (record { stands = r.stands; holds = r.holds; sealed = r.sealed; short = r.short; comes = r.comes }) told last
    (g.met.D.Disk.since told disk c.args.self.now.side)

pub returns-in_err-lay_payload-clause-any_moment : goal.returns-in_err-lay_payload-clause-any_moment
returns-in_err-lay_payload-clause-any_moment g c told last =
    let r = c.requires in
    let disk = c.args.disk.now in
    let size = g.D.Disk.size disk c.args.self.now.side in
    append_stays g.D.Disk.tells c.args.watch.now c.args.self.now size (g.D.Disk.stands disk) c.args.payload.now (record { stands = r.stands; holds = r.holds; sealed = r.sealed; short = r.short; comes = r.comes }) told last
    (g.met.D.Disk.since told disk c.args.self.now.side)

pub returns-in_err-put-clause-any_moment : goal.returns-in_err-put-clause-any_moment
returns-in_err-put-clause-any_moment g c told last =
    let r = c.requires in
    let disk = c.args.disk.now in
    let size = g.D.Disk.size disk c.args.self.now.side in
    append_moments g.D.Disk.tells c.args.watch.now c.put.new.watch _ c.args.self.now size (g.D.Disk.stands disk) (g.D.Disk.stands c.put.new.disk) c.args.payload.now c.deref.result.now
    (record { stands = r.stands; holds = r.holds; sealed = r.sealed; short = r.short; comes = r.comes }) c.self.view_is (c.deref.ensures.value ∙ c.in_ok-lay_payload.ensures) told (c.put.ensures.any_moment told last)

pub returns-clause-any_moment : goal.returns-clause-any_moment
returns-clause-any_moment g c told last =
    let r = c.requires in
    let disk = c.args.disk.now in
    let size = g.D.Disk.size disk c.args.self.now.side in
    append_moments g.D.Disk.tells c.args.watch.now c.put.new.watch _ c.args.self.now size (g.D.Disk.stands disk) (g.D.Disk.stands c.put.new.disk) c.args.payload.now c.deref.result.now
    (record { stands = r.stands; holds = r.holds; sealed = r.sealed; short = r.short; comes = r.comes }) c.self.view_is (c.deref.ensures.value ∙ c.in_ok-lay_payload.ensures) told (c.put.ensures.any_moment told last)

pub returns-clause-stands : goal.returns-clause-stands
returns-clause-stands g c =
    let r = c.requires in
    let disk = c.args.disk.now in
    let here = c.self.inside.side in
    append_stands g.D.Disk.tells _ c.args.self.now _ (λ side. g.D.Disk.size disk side) (g.D.Disk.size c.put.new.disk here) (g.D.Disk.stands disk) (g.D.Disk.stands c.put.new.disk) c.args.payload.now c.deref.result.now
    (record { stands = r.stands; holds = r.holds; sealed = r.sealed; short = r.short; comes = r.comes }) c.self.view_is (c.deref.ensures.value ∙ c.in_ok-lay_payload.ensures)
    (record { grown = c.in_ok-put.ensures.size; seen = c.in_ok-put.ensures.seen; loose = c.put.ensures.loose })
    (ap (λ (places : List ℕ). new_log (record { side = here; head = c.self.inside.head; places = places; end = c.self.inside.end; waiting = c.self.inside.waiting }) c.args.payload.now) c.reserve.ensures.items
    ∙ ap (λ (log : SideState). new_log log c.args.payload.now) c.self.view_is)

pub returns-clause-same : goal.returns-clause-same
returns-clause-same g c told =
    let r = c.requires in
    let disk = c.args.disk.now in
    let here = c.self.inside.side in
    append_same g.D.Disk.tells _ c.args.self.now (λ side. g.D.Disk.size disk side) (g.D.Disk.size c.put.new.disk here) (g.D.Disk.stands disk) (g.D.Disk.stands c.put.new.disk) c.args.payload.now c.deref.result.now
    (record { stands = r.stands; holds = r.holds; sealed = r.sealed; short = r.short; comes = r.comes }) c.self.view_is (c.deref.ensures.value ∙ c.in_ok-lay_payload.ensures)
    (record { grown = c.in_ok-put.ensures.size; seen = c.in_ok-put.ensures.seen; loose = c.put.ensures.loose }) told

pub returns-clause-later : goal.returns-clause-later
returns-clause-later g c told number entry read =
    let r = c.requires in
    let disk = c.args.disk.now in
    let here = c.self.inside.side in
    append_later g.D.Disk.tells _ c.args.self.now (λ side. g.D.Disk.size disk side) (g.D.Disk.size c.put.new.disk here) (g.D.Disk.stands disk) (g.D.Disk.stands c.put.new.disk) c.args.payload.now c.deref.result.now
    (record { stands = r.stands; holds = r.holds; sealed = r.sealed; short = r.short; comes = r.comes }) c.self.view_is (c.deref.ensures.value ∙ c.in_ok-lay_payload.ensures)
    (record { grown = c.in_ok-put.ensures.size; seen = c.in_ok-put.ensures.seen; loose = c.put.ensures.loose }) told number entry read
