use Rattle.std.proofs.Common.{◌≡◌, ◌+◌, false, None, map, refl}
use Rattle.std.proofs.lemmas.List.{length-map}
use Rattle.std.proofs.Common.{◌∙◌, sym}
use Rattle.hs_run.specs.Between.{Point}
use Rattle.hs_taking.specs.Disks.{DiskSeen, seen_as}
use Rattle.hs_members.specs.Members.{is_joining}
use Rattle.hs_core_words.specs.Looking.{status_of}
use Rattle.hs_load.proofs.FinishLemmas.{each_on, line_ready, starts_none}
use Rattle.hs_load.proofs.finishing.run_line.Goals as goal

pub returns-clause-ready : goal.returns-clause-ready
returns-clause-ready g c =
    let seen : g.row.D.Denot → DiskSeen = λ disk. seen_as (g.D.Disk.size disk) (g.D.Disk.stands disk) (g.D.Disk.faults disk) in
    let old : Point = record { now = c.args.watch.now; cluster = c.args.cluster.now; disks = map seen c.args.disks.now; got = None; line = c.args.line } in
    let new : Point = record { now = c.run.new.watch; cluster = c.run.new.self; disks = map seen c.run.new.disks; got = None; line = c.args.line + 1 } in
    line_ready g.D.Disk.tells (g.A.Addresser.name c.args.naming.now) c.args.command old new c.run.result _ c.requires.ready (c.run.ensures.runs c.requires.ready.going c.requires.served)
    c.run.ensures.ready c.run.ensures.moment c.run.ensures.shape (length-map c.run.new.disks seen ∙ c.run.ensures.count ∙ sym (length-map c.args.disks.now seen)) refl

pub returns-clause-runs : goal.returns-clause-runs
returns-clause-runs g c = record {
  next = refl;
  runs = c.run.ensures.runs c.requires.ready.going c.requires.served;
  on = λ told peer. c.run.ensures.goes_on told peer (c.requires.calm peer);
}

pub returns-clause-calm : goal.returns-clause-calm
returns-clause-calm g c =
    each_on c.run.result (λ peer. is_joining (status_of peer c.run.new.self.core) ≡ false) (λ peer. c.run.ensures.joins peer (starts_none c.args.command c.requires.starts peer) (c.requires.calm peer))
