use Rattle.std.proofs.Common.{◌∙◌, ap, refl, sym, ℕ, Some}
use Rattle.hs_cluster.proofs.HeadLemmas.{headed_read, headed_seal}
use Rattle.hs_cluster.proofs.JobLemmas.{stays_one}
use Rattle.hs_cluster.specs.Jobs.{sealed_list}
use Rattle.hs_cluster.proofs.work.seal_entry.Goals as goal

pub returns-in_default-clause-any_moment : goal.returns-in_default-clause-any_moment
returns-in_default-clause-any_moment g c = λ told last list waiting has.
    stays_one (g.D.Disk.stands c.args.disk.now) c.args.watch.now list (sealed_list list waiting) last (g.met.D.Disk.since told c.args.disk.now) has.leaves

pub returns-in_default-2-clause-any_moment : goal.returns-in_default-2-clause-any_moment
returns-in_default-2-clause-any_moment g c = λ told last list waiting has.
    stays_one (g.D.Disk.stands c.args.disk.now) c.args.watch.now list (sealed_list list waiting) last (g.met.D.Disk.since told c.args.disk.now) has.leaves

pub returns-in_default-clause-headed : goal.returns-in_default-clause-headed
returns-in_default-clause-headed g c = λ told header headed.
    headed_read header c.args.watch.now (g.D.Disk.stands c.args.disk.now) (g.D.Disk.stands c.args.disk.now) c.args.log.now _ refl (g.met.D.Disk.since told c.args.disk.now) headed

pub returns-in_default-2-clause-headed : goal.returns-in_default-2-clause-headed
returns-in_default-2-clause-headed g c = λ told header headed.
    headed_read header c.args.watch.now (g.D.Disk.stands c.args.disk.now) (g.D.Disk.stands c.args.disk.now) c.args.log.now _ refl (g.met.D.Disk.since told c.args.disk.now) headed

pub returns-in-Some-clause-headed : goal.returns-in-Some-clause-headed
returns-in-Some-clause-headed g c = λ told header headed.
    headed_seal header c.args.watch.now c.seal.new.watch (g.D.Disk.stands c.args.disk.now) (g.D.Disk.stands c.seal.new.disk) c.args.log.now c.seal.new.self c.args.number c.seal.result headed
    (sym c.unsealed.ensures ∙ c.in-Some.is ∙ ap (λ (n : ℕ). Some n) c.if-waits-number.true) (c.seal.ensures.past told headed.called)
    (λ list entry has head at. c.seal.ensures.headed told headed.called list entry has head at) c.seal.ensures.head (λ list entry has. c.seal.ensures.list told headed.called list entry has)
