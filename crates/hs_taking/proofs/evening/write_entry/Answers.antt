use Rattle.std.proofs.Common.{inl, refl, ◌∙◌}
use Rattle.hs_peerlog.proofs.StayLemmas.{stays}
use Rattle.hs_peerlog.specs.Images.{IsOne}
use Rattle.hs_peerlog.specs.Lists.{with_waiting}
use Rattle.hs_taking.proofs.EvenLemmas.{each_then, each_weak}
use Rattle.hs_taking.proofs.HeadLemmas.{header_still, header_then}
use Rattle.hs_taking.proofs.evening.write_entry.Goals as goal

pub returns-then-not-is_readable-clause-moments : goal.returns-then-not-is_readable-clause-moments
returns-then-not-is_readable-clause-moments g c = λ told last own has.
    stays (g.D.Disk.stands c.args.disk.now) c.args.watch.now own (IsOne own (with_waiting own c.args.entry.now)) last (λ side m high. g.met.D.Disk.since told c.args.disk.now side m high) has.leaves (inl refl)

pub returns-in-Ok-clause-moments : goal.returns-in-Ok-clause-moments
returns-in-Ok-clause-moments g c = λ told last own has.
    let one = c.append.ensures.any_moment told last own has in
    each_then (each_weak (λ l same. inl same) one) (c.seal.ensures.any_moment told one.last own c.args.entry.now (c.in-Ok.ensures.list told last own has))

pub returns-in-Err-clause-moments : goal.returns-in-Err-clause-moments
returns-in-Err-clause-moments g c = λ told last own has. each_weak (λ l same. inl same) (c.append.ensures.any_moment told last own has)

pub returns-then-not-is_readable-clause-headed : goal.returns-then-not-is_readable-clause-headed
returns-then-not-is_readable-clause-headed g c = λ told last own has head is.
    header_still head.0 c.args.watch.now (g.D.Disk.stands c.args.disk.now) last (λ side m high. g.met.D.Disk.since told c.args.disk.now side m high) (has.headed head is)

pub returns-in-Ok-clause-headed : goal.returns-in-Ok-clause-headed
returns-in-Ok-clause-headed g c = λ told last own has head is.
    let one = c.append.ensures.past told last in
    header_then head.0 c.args.watch.now c.append.new.watch c.seal.new.watch (g.D.Disk.stands c.append.new.disk) (g.D.Disk.stands c.seal.new.disk) (c.seal.ensures.past told one.last) (c.append.ensures.headed told last own has head is)
    (c.seal.ensures.headed told one.last own c.args.entry.now (c.in-Ok.ensures.list told last own has) head (c.in-Ok.ensures.head ∙ is))
