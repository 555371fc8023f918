use Rattle.std.proofs.Common.{◌∙◌, ap, subst}
use Rattle.hs_entry.specs.Entries.{rank_of}
use Rattle.hs_peerlog.specs.Lists.{IsNumbered}
use Rattle.hs_peerlog.specs.Opening.{HasOpened}
use Rattle.hs_peerlog.proofs.ImageLemmas.{list-same}
use Rattle.hs_peerlog.proofs.MakeLemmas.{opened-frames}
use Rattle.hs_peerlog.proofs.OpenLemmas.{one-list, open-alone, opened-here}
use Rattle.hs_peerlog.proofs.view.PeerView.read.Goals as goal

pub returns-clause-list : goal.returns-clause-list
returns-clause-list g c = λ told list listed.
    let a = g.D.Disk.stands c.args.disk.now in
    let e = g.D.Disk.stands c.open_current.new.disk in
    let log = c.in-Ok.opened.0 in
    let same = c.open_current.ensures.same told in
    let value = c.in-Ok.ensures.value told in
    let is = one-list log c.in-Ok.opened.1 a.seen value list listed in
    let opened = subst (λ es. HasOpened log (e.seen log.side) es) is (opened-here log c.in-Ok.opened.1 a e value same) in
    record {
      listed = list-same a.seen e.seen same ∙ listed;
      frames = opened-frames g.D.Disk.tells log (g.D.Disk.size c.open_current.new.disk log.side) e list c.in-Ok.ensures.stands told opened;
      numbered = subst (λ es. IsNumbered es) is value.numbered;
      rank = value.rank_is ∙ ap (λ es. rank_of es) is;
    }

pub returns-clause-as_viewed : goal.returns-clause-as_viewed
returns-clause-as_viewed g c =
    let a = g.D.Disk.stands c.args.disk.now in
    let e = g.D.Disk.stands c.open_current.new.disk in
    let log = c.in-Ok.opened.0 in
    record {
      stands = c.in-Ok.ensures.stands;
      rests = c.in-Ok.ensures.rests;
      counted = c.in-Ok.ensures.counted;
      empty = c.in-Ok.ensures.empty;
      alone = λ told. open-alone log.side a e (λ s. c.in-Ok.ensures.durable told s) (c.open_current.ensures.same told) (c.in-Ok.ensures.value told).side;
      told = λ told.
          let same = c.open_current.ensures.same told in
          let value = c.in-Ok.ensures.value told in
          record {
            list = value.list;
            has = record {
              listed = list-same a.seen e.seen same ∙ value.listed;
              frames = opened-frames g.D.Disk.tells log (g.D.Disk.size c.open_current.new.disk log.side) e value.list c.in-Ok.ensures.stands told (opened-here log c.in-Ok.opened.1 a e value same);
              numbered = value.numbered;
              rank = value.rank_is;
            };
          };
    }
