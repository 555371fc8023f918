use Rattle.std.proofs.Common.{◌≡◌, ◌∙◌, drop, length, ap, subst, arith}
use Rattle.hs_ports.specs.Disk.{Standing}
use Rattle.hs_side.specs.Standing.{SideState}
use Rattle.hs_side.specs.Steps.{IsPayload}
use Rattle.hs_side.proofs.PlaceLemmas.{place_is, place_low, read_found, read_refused}
use Rattle.hs_side.proofs.log.SideLog.read.Goals as goal

pub returns-then-place-size-clause-refused : goal.returns-then-place-size-clause-refused
returns-then-place-size-clause-refused g c told =
    let disk = c.args.disk.now in
    let log = c.args.self.now in
    let seen = (g.D.Disk.stands disk).seen log.side in
    let here : c.self.inside.side ≡ log.side = ap (λ (k : SideState). k.side) c.self.view_is in
    let size : c.in_ok-size.size ≡ length seen = c.in_ok-size.ensures.value ∙ ap (λ s. g.D.Disk.size disk s) here ∙ g.met.D.Disk.sized told disk log.side in
    place_low log c.args.place seen (place_is log c.args.place seen _ c.requires.sealed (c.requires.stands.told told)) (omega (arith, size, c.if-place-size.true))

pub returns-clause-refused : goal.returns-clause-refused
returns-clause-refused g c told =
    let disk = c.args.disk.now in
    let log = c.args.self.now in
    let place = c.args.place in
    let seen = (g.D.Disk.stands disk).seen log.side in
    let here : c.self.inside.side ≡ log.side = ap (λ (k : SideState). k.side) c.self.view_is in
    let there = place_is log place seen _ c.requires.sealed (c.requires.stands.told told) in
    let r = c.read_payload.result in
    let old = c.args.out.now.items in
    let new = c.read_payload.new.held.items in
    let was = subst (λ (d : Standing). IsPayload r place (d.seen c.self.inside.side) (drop (length old) new)) (c.len.ensures.same told) (c.read_payload.ensures.exact told) in
    let is = subst (λ s. IsPayload r place ((g.D.Disk.stands disk).seen s) (drop (length old) new)) here was in
    read_refused log place seen (drop (length old) new) r there is

pub returns-clause-found : goal.returns-clause-found
returns-clause-found g c told =
    let disk = c.args.disk.now in
    let log = c.args.self.now in
    let place = c.args.place in
    let seen = (g.D.Disk.stands disk).seen log.side in
    let here : c.self.inside.side ≡ log.side = ap (λ (k : SideState). k.side) c.self.view_is in
    let there = place_is log place seen _ c.requires.sealed (c.requires.stands.told told) in
    let r = c.read_payload.result in
    let old = c.args.out.now.items in
    let new = c.read_payload.new.held.items in
    let was = subst (λ (d : Standing). IsPayload r place (d.seen c.self.inside.side) (drop (length old) new)) (c.len.ensures.same told) (c.read_payload.ensures.exact told) in
    let is = subst (λ s. IsPayload r place ((g.D.Disk.stands disk).seen s) (drop (length old) new)) here was in
    read_found log place seen old new r there is c.read_payload.ensures.short c.read_payload.ensures.more
