use Rattle.std.proofs.Common.{◌∙◌, ◌+◌, max, List, ℕ, None, ap}
use Rattle.hs_ports.specs.Disk.{settled}
use Rattle.hs_side.specs.Standing.{SideState, opened}
use Rattle.hs_side.proofs.SealLemmas.{may_seal, if_some, seal_first, seal_second, seal_stands, sealed_log, seal_grown}
use Rattle.hs_side.proofs.log.SideLog.seal.Goals as goal

pub returns-in_err-settle-clause-any_moment : goal.returns-in_err-settle-clause-any_moment
returns-in_err-settle-clause-any_moment g c told last =
    let disk = c.args.disk.now in
    let side = c.self.inside.side in
    let next = c.in-Some.next in
    let holds = (if_some c.self.inside.waiting next _ c.in-Some.is c.self.invariant).holds in
    let may = may_seal g.D.Disk.tells _ c.args.self.now next (g.D.Disk.size disk c.args.self.now.side) (g.D.Disk.stands disk) c.self.view_is c.requires.stands c.in-Some.is holds in
    seal_first g.D.Disk.tells c.args.watch.now c.settle.new.watch _ c.args.self.now next (g.D.Disk.size disk c.args.self.now.side) (g.D.Disk.stands disk) (g.D.Disk.stands c.settle.new.disk)
    may c.self.view_is told (c.settle.ensures.any_moment told last)

pub returns-in_err-put_and_settle-clause-any_moment : goal.returns-in_err-put_and_settle-clause-any_moment
returns-in_err-put_and_settle-clause-any_moment g c told last =
    let disk = c.args.disk.now in
    let side = c.self.inside.side in
    let next = c.in-Some.next in
    let holds = (if_some c.self.inside.waiting next _ c.in-Some.is c.self.invariant).holds in
    let may = may_seal g.D.Disk.tells _ c.args.self.now next (g.D.Disk.size disk c.args.self.now.side) (g.D.Disk.stands disk) c.self.view_is c.requires.stands c.in-Some.is holds in
    let first = c.settle.ensures.any_moment told last in
    seal_second g.D.Disk.tells c.args.watch.now c.settle.new.watch c.put_and_settle.new.watch _ c.args.self.now next (g.D.Disk.size disk c.args.self.now.side)
    (g.D.Disk.stands disk) (g.D.Disk.stands c.settle.new.disk) (g.D.Disk.stands c.put_and_settle.new.disk)
    may c.self.view_is told first (c.in_ok-settle.ensures.settled told) (c.put_and_settle.ensures.any_moment told first.last)

pub returns-clause-any_moment : goal.returns-clause-any_moment
returns-clause-any_moment g c told last =
    let disk = c.args.disk.now in
    let side = c.self.inside.side in
    let next = c.in-Some.next in
    let holds = (if_some c.self.inside.waiting next _ c.in-Some.is c.self.invariant).holds in
    let may = may_seal g.D.Disk.tells _ c.args.self.now next (g.D.Disk.size disk c.args.self.now.side) (g.D.Disk.stands disk) c.self.view_is c.requires.stands c.in-Some.is holds in
    let first = c.settle.ensures.any_moment told last in
    seal_second g.D.Disk.tells c.args.watch.now c.settle.new.watch c.put_and_settle.new.watch _ c.args.self.now next (g.D.Disk.size disk c.args.self.now.side)
    (g.D.Disk.stands disk) (g.D.Disk.stands c.settle.new.disk) (g.D.Disk.stands c.put_and_settle.new.disk)
    may c.self.view_is told first (c.in_ok-settle.ensures.settled told) (c.put_and_settle.ensures.any_moment told first.last)

pub returns-clause-stands : goal.returns-clause-stands
returns-clause-stands g c =
    let disk = c.args.disk.now in
    let side = c.self.inside.side in
    let next = c.in-Some.next in
    let holds = (if_some c.self.inside.waiting next _ c.in-Some.is c.self.invariant).holds in
    let may = may_seal g.D.Disk.tells _ c.args.self.now next (g.D.Disk.size disk c.args.self.now.side) (g.D.Disk.stands disk) c.self.view_is c.requires.stands c.in-Some.is holds in
    let put = c.in_ok-put_and_settle.ensures in
    seal_stands g.D.Disk.tells _ c.args.self.now _ next (λ there. g.D.Disk.size disk there) (g.D.Disk.size c.put_and_settle.new.disk side) (g.D.Disk.stands disk) (g.D.Disk.stands c.put_and_settle.new.disk)
    may c.self.view_is
    (put.size ∙ ap (λ (n : ℕ). max n (c.self.inside.end + 1)) (c.settle.ensures.same_size c.self.inside.side))
    (λ told. put.seen told ∙ ap (λ (l : List ℕ). opened c.self.inside.end l) (c.settle.ensures.seen told))
    (λ told. put.settled told ∙ ap (λ (l : List ℕ). settled (opened c.self.inside.end l)) (c.settle.ensures.seen told))
    (ap (λ (places : List ℕ). let k : SideState = record { side = side; head = c.self.inside.head; places = places; end = next; waiting = None } in k) (rw c.unwrap.ensures at c.extend_from_slice.ensures.items)
    ∙ ap (λ (log : SideState). sealed_log log next) c.self.view_is)

pub returns-clause-grown : goal.returns-clause-grown
returns-clause-grown g c told =
    let disk = c.args.disk.now in
    let side = c.self.inside.side in
    let next = c.in-Some.next in
    let holds = (if_some c.self.inside.waiting next _ c.in-Some.is c.self.invariant).holds in
    let may = may_seal g.D.Disk.tells _ c.args.self.now next (g.D.Disk.size disk c.args.self.now.side) (g.D.Disk.stands disk) c.self.view_is c.requires.stands c.in-Some.is holds in
    let put = c.in_ok-put_and_settle.ensures in
    seal_grown g.D.Disk.tells _ c.args.self.now next _ (g.D.Disk.stands disk) (g.D.Disk.stands c.put_and_settle.new.disk) may c.self.view_is told
    (put.seen told ∙ ap (λ (l : List ℕ). opened c.self.inside.end l) (c.settle.ensures.seen told))
