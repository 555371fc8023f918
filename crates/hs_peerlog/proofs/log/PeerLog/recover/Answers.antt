use Rattle.std.proofs.Common.{◌≡◌, ◌∙◌, ap, sym, refl, subst, Some}
use Rattle.std.specs.Prelude.{unwrap_or}
use Rattle.hs_entry.specs.Entries.{rank_of}
use Rattle.hs_side.specs.declared.header.Header.{Header}
use Rattle.hs_side.specs.Headers.{own_header}
use Rattle.hs_peerlog.specs.Images.{IsAlone, IsSole}
use Rattle.hs_peerlog.specs.Lists.{HasList, IsBlankBeside, IsNumbered}
use Rattle.hs_peerlog.specs.Opening.{HasOpened}
use Rattle.hs_peerlog.proofs.FoundLemmas.{all-found, found-any, found-header, found-only, then-found}
use Rattle.hs_peerlog.proofs.HeaderLemmas.{alone-headed, found-head}
use Rattle.hs_peerlog.proofs.ListLemmas.{has-list}
use Rattle.hs_peerlog.proofs.OpenLemmas.{one-list, open-alone, opened-here}
use Rattle.hs_peerlog.proofs.ShownLemmas.{shown-past}
use Rattle.hs_peerlog.proofs.StayLemmas.{alone-beside, alone-sole, alone-leaves}
use Rattle.hs_peerlog.proofs.log.PeerLog.recover.Goals as goal

pub returns-in-Err-clause-any_moment : goal.returns-in-Err-clause-any_moment
returns-in-Err-clause-any_moment g c = λ told last list leaves.
    let found = all-found (g.D.Disk.stands c.args.disk.now) (own_header c.args.shape c.args.peer) (λ s. g.met.D.Disk.stays told c.args.disk.now s) (c.open_current.ensures.any_moment told last) in
    found-only (g.D.Disk.stands c.args.disk.now) (own_header c.args.shape c.args.peer) (λ s. g.met.D.Disk.stays told c.args.disk.now s) found list leaves

pub returns-in-Err-clause-any_of : goal.returns-in-Err-clause-any_of
returns-in-Err-clause-any_of g c = λ told last lists leaves.
    let found = all-found (g.D.Disk.stands c.args.disk.now) (own_header c.args.shape c.args.peer) (λ s. g.met.D.Disk.stays told c.args.disk.now s) (c.open_current.ensures.any_moment told last) in
    found-any (g.D.Disk.stands c.args.disk.now) (own_header c.args.shape c.args.peer) (λ s. g.met.D.Disk.stays told c.args.disk.now s) found lists leaves

pub returns-in-Err-clause-headed : goal.returns-in-Err-clause-headed
returns-in-Err-clause-headed g c = λ told last leaves.
    let found = all-found (g.D.Disk.stands c.args.disk.now) (own_header c.args.shape c.args.peer) (λ s. g.met.D.Disk.stays told c.args.disk.now s) (c.open_current.ensures.any_moment told last) in
    found-header (g.D.Disk.stands c.args.disk.now) (own_header c.args.shape c.args.peer) (λ s. g.met.D.Disk.stays told c.args.disk.now s) found leaves

pub returns-in-Err-clause-past : goal.returns-in-Err-clause-past
returns-in-Err-clause-past g c = λ told last.
    let found = all-found (g.D.Disk.stands c.args.disk.now) (own_header c.args.shape c.args.peer) (λ s. g.met.D.Disk.stays told c.args.disk.now s) (c.open_current.ensures.any_moment told last) in
    shown-past found

pub returns-in-Err-make_log-clause-any_moment : goal.returns-in-Err-make_log-clause-any_moment
returns-in-Err-make_log-clause-any_moment g c = λ told last list leaves.
    let a = g.D.Disk.stands c.args.disk.now in
    let e = g.D.Disk.stands c.open_current.new.disk in
    let mid = c.open_current.ensures.any_moment told last in
    let same = c.open_current.ensures.same told in
    let value = c.in-Ok.ensures.value told in
    let alone = open-alone c.in-Ok.opened.0.side a e (λ s. c.in-Ok.ensures.durable told s) same value.side in
    let made = rw c.own_header-header.ensures at (c.make_log.ensures.shown told mid.last alone) in
    let found = then-found a (own_header c.args.shape c.args.peer) (λ s. g.met.D.Disk.stays told c.args.disk.now s) c.in-Ok.opened.0.side mid same value.side made in
    found-only (g.D.Disk.stands c.args.disk.now) (own_header c.args.shape c.args.peer) (λ s. g.met.D.Disk.stays told c.args.disk.now s) found list leaves

pub returns-in-Err-make_log-clause-any_of : goal.returns-in-Err-make_log-clause-any_of
returns-in-Err-make_log-clause-any_of g c = λ told last lists leaves.
    let a = g.D.Disk.stands c.args.disk.now in
    let e = g.D.Disk.stands c.open_current.new.disk in
    let mid = c.open_current.ensures.any_moment told last in
    let same = c.open_current.ensures.same told in
    let value = c.in-Ok.ensures.value told in
    let alone = open-alone c.in-Ok.opened.0.side a e (λ s. c.in-Ok.ensures.durable told s) same value.side in
    let made = rw c.own_header-header.ensures at (c.make_log.ensures.shown told mid.last alone) in
    let found = then-found a (own_header c.args.shape c.args.peer) (λ s. g.met.D.Disk.stays told c.args.disk.now s) c.in-Ok.opened.0.side mid same value.side made in
    found-any (g.D.Disk.stands c.args.disk.now) (own_header c.args.shape c.args.peer) (λ s. g.met.D.Disk.stays told c.args.disk.now s) found lists leaves

pub returns-in-Err-make_log-clause-headed : goal.returns-in-Err-make_log-clause-headed
returns-in-Err-make_log-clause-headed g c = λ told last leaves.
    let a = g.D.Disk.stands c.args.disk.now in
    let e = g.D.Disk.stands c.open_current.new.disk in
    let mid = c.open_current.ensures.any_moment told last in
    let same = c.open_current.ensures.same told in
    let value = c.in-Ok.ensures.value told in
    let alone = open-alone c.in-Ok.opened.0.side a e (λ s. c.in-Ok.ensures.durable told s) same value.side in
    let made = rw c.own_header-header.ensures at (c.make_log.ensures.shown told mid.last alone) in
    let found = then-found a (own_header c.args.shape c.args.peer) (λ s. g.met.D.Disk.stays told c.args.disk.now s) c.in-Ok.opened.0.side mid same value.side made in
    found-header (g.D.Disk.stands c.args.disk.now) (own_header c.args.shape c.args.peer) (λ s. g.met.D.Disk.stays told c.args.disk.now s) found leaves

pub returns-in-Err-make_log-clause-past : goal.returns-in-Err-make_log-clause-past
returns-in-Err-make_log-clause-past g c = λ told last.
    let a = g.D.Disk.stands c.args.disk.now in
    let e = g.D.Disk.stands c.open_current.new.disk in
    let mid = c.open_current.ensures.any_moment told last in
    let same = c.open_current.ensures.same told in
    let value = c.in-Ok.ensures.value told in
    let alone = open-alone c.in-Ok.opened.0.side a e (λ s. c.in-Ok.ensures.durable told s) same value.side in
    let made = rw c.own_header-header.ensures at (c.make_log.ensures.shown told mid.last alone) in
    let found = then-found a (own_header c.args.shape c.args.peer) (λ s. g.met.D.Disk.stays told c.args.disk.now s) c.in-Ok.opened.0.side mid same value.side made in
    shown-past found

pub returns-clause-any_moment : goal.returns-clause-any_moment
returns-clause-any_moment g c = λ told last list leaves.
    let a = g.D.Disk.stands c.args.disk.now in
    let e = g.D.Disk.stands c.open_current.new.disk in
    let mid = c.open_current.ensures.any_moment told last in
    let same = c.open_current.ensures.same told in
    let value = c.in-Ok.ensures.value told in
    let alone = open-alone c.in-Ok.opened.0.side a e (λ s. c.in-Ok.ensures.durable told s) same value.side in
    let made = rw c.own_header-header.ensures at (c.make_log.ensures.shown told mid.last alone) in
    let found = then-found a (own_header c.args.shape c.args.peer) (λ s. g.met.D.Disk.stays told c.args.disk.now s) c.in-Ok.opened.0.side mid same value.side made in
    found-only (g.D.Disk.stands c.args.disk.now) (own_header c.args.shape c.args.peer) (λ s. g.met.D.Disk.stays told c.args.disk.now s) found list leaves

pub returns-clause-any_of : goal.returns-clause-any_of
returns-clause-any_of g c = λ told last lists leaves.
    let a = g.D.Disk.stands c.args.disk.now in
    let e = g.D.Disk.stands c.open_current.new.disk in
    let mid = c.open_current.ensures.any_moment told last in
    let same = c.open_current.ensures.same told in
    let value = c.in-Ok.ensures.value told in
    let alone = open-alone c.in-Ok.opened.0.side a e (λ s. c.in-Ok.ensures.durable told s) same value.side in
    let made = rw c.own_header-header.ensures at (c.make_log.ensures.shown told mid.last alone) in
    let found = then-found a (own_header c.args.shape c.args.peer) (λ s. g.met.D.Disk.stays told c.args.disk.now s) c.in-Ok.opened.0.side mid same value.side made in
    found-any (g.D.Disk.stands c.args.disk.now) (own_header c.args.shape c.args.peer) (λ s. g.met.D.Disk.stays told c.args.disk.now s) found lists leaves

pub returns-clause-headed : goal.returns-clause-headed
returns-clause-headed g c = λ told last leaves.
    let a = g.D.Disk.stands c.args.disk.now in
    let e = g.D.Disk.stands c.open_current.new.disk in
    let mid = c.open_current.ensures.any_moment told last in
    let same = c.open_current.ensures.same told in
    let value = c.in-Ok.ensures.value told in
    let alone = open-alone c.in-Ok.opened.0.side a e (λ s. c.in-Ok.ensures.durable told s) same value.side in
    let made = rw c.own_header-header.ensures at (c.make_log.ensures.shown told mid.last alone) in
    let found = then-found a (own_header c.args.shape c.args.peer) (λ s. g.met.D.Disk.stays told c.args.disk.now s) c.in-Ok.opened.0.side mid same value.side made in
    found-header (g.D.Disk.stands c.args.disk.now) (own_header c.args.shape c.args.peer) (λ s. g.met.D.Disk.stays told c.args.disk.now s) found leaves

pub returns-clause-past : goal.returns-clause-past
returns-clause-past g c = λ told last.
    let a = g.D.Disk.stands c.args.disk.now in
    let e = g.D.Disk.stands c.open_current.new.disk in
    let mid = c.open_current.ensures.any_moment told last in
    let same = c.open_current.ensures.same told in
    let value = c.in-Ok.ensures.value told in
    let alone = open-alone c.in-Ok.opened.0.side a e (λ s. c.in-Ok.ensures.durable told s) same value.side in
    let made = rw c.own_header-header.ensures at (c.make_log.ensures.shown told mid.last alone) in
    let found = then-found a (own_header c.args.shape c.args.peer) (λ s. g.met.D.Disk.stays told c.args.disk.now s) c.in-Ok.opened.0.side mid same value.side made in
    shown-past found

pub returns-clause-list : goal.returns-clause-list
returns-clause-list g c = λ told last list listed.
    let a = g.D.Disk.stands c.args.disk.now in
    let e = g.D.Disk.stands c.open_current.new.disk in
    let now = g.D.Disk.stands c.make_log.new.disk in
    let mid = c.open_current.ensures.any_moment told last in
    let same = c.open_current.ensures.same told in
    let value = c.in-Ok.ensures.value told in
    let is = one-list c.in-Ok.opened.0 c.in-Ok.opened.1 a.seen value list listed in
    let alone = open-alone c.in-Ok.opened.0.side a e (λ s. c.in-Ok.ensures.durable told s) same value.side in
    let opened = subst (λ es. HasOpened c.in-Ok.opened.0 (e.seen c.in-Ok.opened.0.side) es) is (opened-here c.in-Ok.opened.0 c.in-Ok.opened.1 a e value same) in
    let made = c.in-Ok-make_log.log in
    let side : made.side ≡ c.in-Ok.opened.0.side = c.in-Ok-make_log.ensures.side in
    let rests = c.in-Ok-make_log.ensures.alone told mid.last alone in
    let has : HasList made.places (now.seen c.in-Ok.opened.0.side) list = c.in-Ok-make_log.ensures.list told list opened in
    record {
      kept = record {
        listed = subst (λ s. HasList made.places (now.seen s) list) (sym side) has;
        numbered = subst (λ es. IsNumbered es) is value.numbered;
        rank = value.rank_is ∙ ap (λ es. rank_of es) is;
        waits = refl;
      };
      sole = subst (λ s. IsSole s now) (sym side) (alone-sole c.in-Ok.opened.0.side now rests);
      leaves = alone-leaves c.in-Ok.opened.0.side now list rests (has-list made.places (now.seen c.in-Ok.opened.0.side) list has);
      beside = subst (λ s. IsBlankBeside s now) (sym side) (alone-beside c.in-Ok.opened.0.side now rests);
      headed = alone-headed g.D.Disk.tells made (g.D.Disk.size c.make_log.new.disk made.side) now c.in-Ok-make_log.ensures.stands told (subst (λ s. IsAlone s now) (sym side) rests);
    }

pub returns-clause-reads : goal.returns-clause-reads
returns-clause-reads g c = λ told list listed.
    let a = g.D.Disk.stands c.args.disk.now in
    let e = g.D.Disk.stands c.open_current.new.disk in
    let now = g.D.Disk.stands c.make_log.new.disk in
    let same = c.open_current.ensures.same told in
    let value = c.in-Ok.ensures.value told in
    let is = one-list c.in-Ok.opened.0 c.in-Ok.opened.1 a.seen value list listed in
    let opened = subst (λ es. HasOpened c.in-Ok.opened.0 (e.seen c.in-Ok.opened.0.side) es) is (opened-here c.in-Ok.opened.0 c.in-Ok.opened.1 a e value same) in
    let made = c.in-Ok-make_log.log in
    let side : made.side ≡ c.in-Ok.opened.0.side = c.in-Ok-make_log.ensures.side in
    let has : HasList made.places (now.seen c.in-Ok.opened.0.side) list = c.in-Ok-make_log.ensures.list told list opened in
    record {
      listed = subst (λ s. HasList made.places (now.seen s) list) (sym side) has;
      numbered = subst (λ es. IsNumbered es) is value.numbered;
      rank = value.rank_is ∙ ap (λ es. rank_of es) is;
      waits = refl;
    }

pub returns-clause-head : goal.returns-clause-head
returns-clause-head g c = λ told.
    c.in-Ok-make_log.ensures.head ∙ ap (λ (h : Header). Some (unwrap_or c.in-Ok.opened.0.head (h, 1))) c.own_header-header.ensures
    ∙ found-head c.args.shape c.args.peer (g.D.Disk.stands c.args.disk.now).seen c.in-Ok.opened.0.head (c.in-Ok.ensures.head told)
